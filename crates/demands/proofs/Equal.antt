-- EQUAL ANSWERS: two answers that keep the promise of a call agree, but for the places past the held bytes.
-- Assumes nothing.
use mathlib.Core.Path.{◌≡◌, refl, sym, ap, ◌∙◌}
use mathlib.Core.List.{List}
use Prim.Native.Nat.{ℕ}
use borrow.Author.Tests.{eqb-false}
use Rattle.field.proofs.Answers.{equal-answers}
use Rattle.packet.specs.Stream as stream
use Rattle.packet.specs.Ceiling as ceiling
use Rattle.packet.specs.Session as packets
use Rattle.packet.specs.Session.{Session, Event}
use Rattle.table.specs.Memory.{Memories}
use Rattle.reader.specs.Refusals.{refusal_number, named}
use Rattle.reader.specs.Deliver.{Table, Said}
use Rattle.reader.specs.View.{event_of, answer_of, state_of, Seen, seen_of, held_in, session_in, session_of}
use Rattle.reader.specs.Calls.{Stepping, Starting, Begun, begun_of, start_number}
use Rattle.image.specs.Save.{Saving, saving}
use Rattle.reader.specs.Handles as hosts
use Rattle.reader.specs.Handles.{Left, left, host_stepped, HostSteps}
use Rattle.reader.specs.Running.{why_of, SeenRun, seen_run_of, Running, HostRuns}
use Rattle.reader.specs.Saving.{Saves, Came, came_of, Restores}
use Rattle.reader.specs.declared.Texts.{Texts}
use Rattle.reader.specs.declared.Restored.{Restored}
use Rattle.reader.specs.declared.Refusal.{Refusal}
use Rattle.reader.specs.declared.Event as code
use Rattle.reader.specs.declared.Event.TheVariants as event
use Rattle.reader.specs.declared.StepAnswer.{StepAnswer}
use Rattle.reader.specs.declared.StepAnswer.TheVariants as answer
use Rattle.reader.specs.declared.Reader.{Reader}
use Rattle.reader.specs.declared.Stepped.{Stepped}
use Rattle.reader.specs.declared.Why.{Why}
use Rattle.reader.specs.declared.Why.TheVariants as why
use Rattle.reader.specs.declared.Ran.{Ran}
use Rattle.reader.specs.declared.Started.{Started}
use Rattle.reader.proofs.Ways.{some_number}
use Rattle.reader.proofs.Fits.{name_back}
use Rattle.reader.proofs.Views.{session-in, held_in_lem}
use Rattle.demands.specs.Same.{SameReader, SameStep, SameRun, SameStart, SameRestore}
use Rattle.demands.proofs.View.{refusal_in, ended_in, ended_of, refusal-of}
use Rattle.demands.proofs.Names.{saved-same, verdicts-same}
use Rattle.std.specs.Prelude.{Err}
use Rattle.std.specs.Prelude.{Ok}
use Rattle.std.specs.Prelude.{Result}
use Rattle.image.specs.declared.Refusal as image_refusal

-- ---- the code's answer again, from the definition's

abbrev pub event_back : Event Said → code.Event
event_back (packets.login n s) = event.Login n
event_back (packets.rejected b) = event.Rejected b
event_back (packets.message x) = event.Message x.message
event_back packets.heartbeat = event.Heartbeat
event_back packets.end = event.End
event_back packets.skipped = event.Skipped

abbrev pub answer_back : stream.Answer (Event Said) → StepAnswer
answer_back (stream.Event e) = answer.Event (event_back e)
answer_back stream.More = answer.More
answer_back stream.Ended = answer.Ended
answer_back (stream.Refused n) = answer.Refused (named n)

event-back : (t : Texts) (e : code.Event) → event_back (event_of t e) ≡ e
event-back t (event.Login n) = refl
event-back t (event.Rejected b) = refl
event-back t (event.Message m) = refl
event-back t event.Heartbeat = refl
event-back t event.End = refl
event-back t event.Skipped = refl

pub answer_back_lem : (t : Texts) (a : StepAnswer) → answer_back (answer_of t a) ≡ a
answer_back_lem t (answer.Event e) = ap answer.Event (event-back t e)
answer_back_lem t answer.More = refl
answer_back_lem t answer.Ended = refl
answer_back_lem t (answer.Refused r) = ap answer.Refused (name_back r)

pub answer-is : (s : Stepped) {a : stream.Answer (Event Said)} → answer_of s.texts s.answer ≡ a → s.answer ≡ answer_back a
answer-is s e = sym (answer_back_lem s.texts s.answer) ∙ ap answer_back e

-- ---- the handle, from its state

pub same-readers : (a b : Reader) (t t' : Memories) → state_of a t ≡ state_of b t' → a.used ≡ b.used → SameReader a b × (t ≡ t')
same-readers a b t t' e u =
    let inner : session_of a.line a.board t ≡ session_of b.line b.board t'
    = sym (session-in a t) ∙ ap session_in e ∙ session-in b t' in (
      record {
        line = ap (λ (s : Session Table). s.line) inner;
        board = ap (λ (s : Session Table). s.about.board) inner;
        ended = sym (ended_of a t) ∙ ap ended_in e ∙ ended_of b t';
        refusal = sym (refusal-of a t) ∙ ap refusal_in e ∙ refusal-of b t';
        used = u;
        held = sym (held_in_lem a t) ∙ ap held_in e ∙ held_in_lem b t';
      },
      ap (λ (s : Session Table). s.about.memory) inner,
    )

pub same-steps : (a b : Stepped) (t t' : Memories) → seen_of a t ≡ seen_of b t' → SameStep a b t t'
same-steps a b t t' e =
    let r = same-readers a.reader b.reader t t' (ap (λ (q : Seen). q.step.state) e) (ap (λ (q : Seen). q.used) e) in
    record {
      reader = r.0;
      taken = ap (λ (q : Seen). q.step.taken) e;
      answer =
          sym (answer_back_lem a.texts a.answer) ∙ ap (λ (q : Seen). answer_back q.step.answer) e ∙ answer_back_lem b.texts b.answer;
      texts = ap (λ (q : Seen). q.texts) e;
      memory = r.1;
    }

-- THEOREM, of a step
pub equal-steps : (r : Reader) (t : Memories) (piece : List ℕ) (a b : Stepped) (t₁ t₂ : Memories) → Stepping r t piece a t₁ → Stepping r t piece b t₂ → SameStep a b t₁ t₂
equal-steps r t piece a b t₁ t₂ x y = same-steps a b t₁ t₂ (equal-answers x y)

-- THEOREM, of a step where a handle lies: every byte that it leaves agrees
pub equal-host-steps : (handle : List ℕ) (t : Memories) (piece event : List ℕ) (a b : ℕ) (h₁ e₁ h₂ e₂ : List ℕ) (t₁ t₂ : Memories)
    → HostSteps handle t piece event a h₁ t₁ e₁ → HostSteps handle t piece event b h₂ t₂ e₂ → (a ≡ b) × (h₁ ≡ h₂) × (t₁ ≡ t₂) × (e₁ ≡ e₂)
equal-host-steps handle t piece event a b h₁ e₁ h₂ e₂ t₁ t₂ x y =
    let e : host_stepped a h₁ t₁ e₁ ≡ host_stepped b h₂ t₂ e₂ = equal-answers x y in
    (ap (λ (q : hosts.Stepped). q.number) e, ap (λ (q : hosts.Stepped). q.handle) e, ap (λ (q : hosts.Stepped). q.memory) e, ap (λ (q : hosts.Stepped). q.event) e)

-- THEOREM, of a refusal by name: what is promised of its number fixes it
pub equal-names : (r q : Refusal) → refusal_number r ≡ refusal_number q → r ≡ q
equal-names r q e = sym (name_back r) ∙ ap named e ∙ name_back q

-- ---- of a run

abbrev why_back : ceiling.Why → Why
why_back ceiling.Ended = why.Ended
why_back (ceiling.Refused n) = why.Refused (named n)
why_back ceiling.Ceiling = why.Ceiling
why_back ceiling.More = why.More

why-back : (w : Why) → why_back (why_of w) ≡ w
why-back why.Ended = refl
why-back (why.Refused r) = ap why.Refused (name_back r)
why-back why.Ceiling = refl
why-back why.More = refl

pub same_runs : (a b : Ran) (t t' : Memories) → seen_run_of a t ≡ seen_run_of b t' → SameRun a b t t'
same_runs a b t t' e =
    let r = same-readers a.reader b.reader t t' (ap (λ (q : SeenRun). q.run.state) e) (ap (λ (q : SeenRun). q.used) e) in
    record {
      reader = r.0;
      taken = ap (λ (q : SeenRun). q.run.taken) e;
      finished = ap (λ (q : SeenRun). q.run.finished) e;
      why = sym (why-back a.why) ∙ ap (λ (q : SeenRun). why_back q.run.why) e ∙ why-back b.why;
      memory = r.1;
    }

-- THEOREM, of a run
pub equal-runs : (r : Reader) (t : Memories) (piece : List ℕ) (n : ℕ) (a b : Ran) (t₁ t₂ : Memories) → Running r t piece n a t₁ → Running r t piece n b t₂
    → SameRun a b t₁ t₂
equal-runs r t piece n a b t₁ t₂ x y = same_runs a b t₁ t₂ (equal-answers x y)

-- THEOREM, of a run where a handle lies: every byte that it leaves agrees
pub equal-host-runs : (handle : List ℕ) (t : Memories) (piece : List ℕ) (n a b : ℕ) (h₁ h₂ : List ℕ) (t₁ t₂ : Memories)
    → HostRuns handle t piece n a h₁ t₁ → HostRuns handle t piece n b h₂ t₂ → (a ≡ b) × (h₁ ≡ h₂) × (t₁ ≡ t₂)
equal-host-runs handle t piece n a b h₁ h₂ t₁ t₂ x y =
    let e : left a h₁ t₁ ≡ left b h₂ t₂ = equal-answers x y in
    (ap (λ (q : Left). q.number) e, ap (λ (q : Left). q.handle) e, ap (λ (q : Left). q.memory) e)

-- ---- of starting

some-name : (r : Refusal) → refusal_number r ≡ 0 → ⊥
some-name r = eqb-false (refusal_number r) 0 (some_number r)

answers-same : (a b : Result (Unit {0}) Refusal) → start_number a ≡ start_number b → a ≡ b
answers-same (Ok u) (Ok w) e = refl
answers-same (Ok u) (Err r) e = absurd (some-name r (sym e))
answers-same (Err r) (Ok u) e = absurd (some-name r e)
answers-same (Err r) (Err q) e = ap Err (equal-names r q e)

-- THEOREM, of starting
pub equal-starts : (t : Memories) (a b : Started) (t₁ t₂ : Memories) → Starting t a t₁ → Starting t b t₂ → SameStart a b t₁ t₂
equal-starts t a b t₁ t₂ x y =
    let e : begun_of a t₁ ≡ begun_of b t₂ = equal-answers x y in
    let r = same-readers a.reader b.reader t₁ t₂ (ap (λ (q : Begun). q.state) e) (ap (λ (q : Begun). q.used) e) in
    record { reader = r.0; answer = answers-same a.answer b.answer (ap (λ (q : Begun). q.refusal) e); memory = r.1 }

-- ---- of saving and restoring

-- THEOREM, of saving
pub equal-saves : (r : Reader) (t out : List ℕ) (a b : Result ℕ image_refusal.Refusal) (z₁ z₂ : List ℕ) → Saves r t out a z₁ → Saves r t out b z₂ → (a ≡ b) × (z₁ ≡ z₂)
equal-saves r t out a b z₁ z₂ x y =
    let e : saving a z₁ ≡ saving b z₂ = saved-same a b z₁ z₂ (equal-answers x y) in
    (ap (λ (s : Saving). s.answer) e, ap (λ (s : Saving). s.out) e)

-- THEOREM, of restoring
pub equal-restores : (bytes : List ℕ) (t : Memories) (a b : Restored) (t₁ t₂ : Memories) → Restores bytes t a t₁ → Restores bytes t b t₂ → SameRestore a b t₁ t₂
equal-restores bytes t a b t₁ t₂ x y =
    let e : came_of a t₁ ≡ came_of b t₂ = equal-answers x y in
    let r = same-readers a.reader b.reader t₁ t₂ (ap (λ (q : Came). q.state) e) (ap (λ (q : Came). q.used) e) in
    record { reader = r.0; verdict = verdicts-same a.verdict b.verdict (ap (λ (q : Came). q.refusal) e); memory = r.1 }
