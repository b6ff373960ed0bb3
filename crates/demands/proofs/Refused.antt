-- DEMAND 1, of starting, steps and runs: what each refusal leaves; and a reader that has ended or refused repeats its answer.
-- Assumes nothing.
use mathlib.Core.Path.{◌≡◌, refl, sym, ap, ◌∙◌, subst}
use mathlib.Core.List.{List, []}
use mathlib.Core.Bool.{Bool, true, false, cond}
use Prim.Native.Nat.{ℕ, ◌≤◌, ◌<◌}
use native.Mathlib.Omega.{arith}
use borrow.Author.Tests.{eq-eqb, ne_eqb, le-leb, lt-leb}
use lib.ListN.{length}
use lib.Seq.{length-take-le}
use Rattle.field.specs.Bytes.{Bytes}
use Rattle.packet.specs.Frame.{held_size}
use Rattle.packet.specs.Stream as stream
use Rattle.packet.specs.Stream.{State, live, ended, refused, refused_by, NothingLeft, Run, RefusedAt, step_of}
use Rattle.packet.specs.Ceiling as ceiling
use Rattle.packet.specs.Ceiling.{why_at_ceiling, halted, run_by}
use Rattle.packet.specs.Session.{Session, Event, soup_bin_tcp}
use Rattle.packet.specs.Line.{fresh_line}
use Rattle.packet.proofs.Rules.{never}
use Rattle.packet.proofs.Ceiling.{at_once, run-same}
use Rattle.packet.proofs.Refused.{session-leaves, step-refused, refused-as-before}
use Rattle.table.specs.Memory.{Memories}
use Rattle.table.specs.Index.{is_lent}
use Rattle.table.specs.Board.{fresh_board, start_of}
use Rattle.reader.specs.Refusals.{refusal_number, standing, named}
use Rattle.reader.specs.Deliver.{Table, Said, deliver}
use Rattle.reader.specs.View.{session_of, held_of, state_of, Seen, seen_of, seen, session_in, held_in, no_text, answer_texts, answer_of, still_of, ready_of}
use Rattle.reader.specs.Limits.{may_step}
use Rattle.reader.specs.Calls.{is_unfit, unmoved, step_in, step_all, Stepping, start_all, Starting}
use Rattle.reader.specs.Running.{most_packets, why_of, seen_run, seen_run_of, run_all, Running}
use Rattle.reader.specs.declared.Refusal.{Refusal}
use Rattle.reader.specs.declared.Refusal.TheVariants as refusal
use Rattle.reader.specs.declared.StepAnswer.TheVariants as answer
use Rattle.reader.specs.declared.Reader.{Reader}
use Rattle.reader.specs.declared.Stepped.{Stepped}
use Rattle.reader.specs.declared.Why.{Why}
use Rattle.reader.specs.declared.Why.TheVariants as why
use Rattle.reader.specs.declared.Ran.{Ran}
use Rattle.reader.specs.declared.Started.{Started}
use Rattle.reader.proofs.Kept as limits
use Rattle.reader.proofs.Kept.{may-within, named-number}
use Rattle.reader.proofs.Undone.{deliver-undone}
use Rattle.reader.proofs.Views.{session-in, held_in_lem}
use Rattle.demands.specs.Callers.{Steps}
use Rattle.demands.specs.Sound.{begin, Ours}
use Rattle.demands.specs.Same.{SameStep, SameRun, SameStart}
use Rattle.demands.specs.Refused.{Leaves, still_ran}
use Rattle.demands.proofs.View.{refusal_in, ended_in, ended_of, refusal-of}
use Rattle.demands.proofs.Kept.{AnswerStood, step-stood, stood-fit, ours_kept, stepping-is}
use Rattle.demands.proofs.Callers.{any-cuts}
use Rattle.demands.proofs.Equal.{equal-names, same-steps, same_runs, equal-starts}
use Rattle.std.specs.Prelude.{Err}
use Rattle.std.specs.Prelude.{Ok}

-- ---- refusal 20

-- THEOREM: of a handle that breaks a limit, or memory of the wrong length, it takes nothing, and leaves the handle and all memory
pub refusal-20 : (r : Reader) (t : Memories) (piece : List ℕ) (s : Stepped) (t' : Memories) → may_step r t ≡ false → Stepping r t piece s t'
    → SameStep s (still_of r (answer.Refused refusal.Unfit)) t' t
unfolding step_all
refusal-20 r t piece s t' e h = same-steps s (still_of r (answer.Refused refusal.Unfit)) t' t (rw e at h)

-- THEOREM: so does it of a run, whatever the ceiling: 20 comes before 27
pub run-20 : (r : Reader) (t : Memories) (piece : List ℕ) (n : ℕ) (x : Ran) (t' : Memories) → may_step r t ≡ false → Running r t piece n x t'
    → SameRun x (still_ran r (why.Refused refusal.Unfit)) t' t
unfolding run_all
run-20 r t piece n x t' e h = same_runs x (still_ran r (why.Refused refusal.Unfit)) t' t (rw e at h)

-- THEOREM: 27, a ceiling over 1,000, takes nothing, finishes nothing, and leaves the handle and all memory
pub run-27 : (r : Reader) (t : Memories) (piece : List ℕ) (n : ℕ) (x : Ran) (t' : Memories) → may_step r t ≡ true → most_packets < n → Running r t piece n x t'
    → SameRun x (still_ran r (why.Refused refusal.HighCeiling)) t' t
unfolding run_all
run-27 r t piece n x t' e l h = same_runs x (still_ran r (why.Refused refusal.HighCeiling)) t' t (rw (e, lt-leb n most_packets l) at h)

-- THEOREM: on starting it gives a fresh handle, and leaves all memory
pub start-20 : (t : Memories) (s : Started) (t' : Memories) → is_lent t ≡ false → Starting t s t'
    → SameStart s (record { reader = ready_of fresh_line fresh_board; answer = Err refusal.Unfit }) t' t
unfolding start_all start_of
start-20 t s t' e h = equal-starts t s (record { reader = ready_of fresh_line fresh_board; answer = Err refusal.Unfit }) t' t h fresh
  where
    fresh : Starting t (record { reader = ready_of fresh_line fresh_board; answer = Err refusal.Unfit }) t
    fresh = rw e

-- ---- a handle that may step

-- what it holds, by its state
held-used : (r : Reader) (t : Memories) → length r.held ≡ held_size → may_step r t ≡ true → length (held_in (state_of r t)) ≡ r.used
held-used r t long e = ap length (held_in_lem r t) ∙ length-take-le r.used r.held (omega (arith, long, (may-within r t e).start))

module _ (r : Reader) (t : Memories) (piece : List ℕ) (s : Stepped) (t' : Memories) (e : may_step r t ≡ true) (h : Stepping r t piece s t') where
  pub steps-as : seen_of s t' ≡ seen (step_in (state_of r t) piece)
  unfolding step_all
  steps-as = rw e at h

  pub answered-as : {x : Refusal} → s.answer ≡ answer.Refused x → (step_in (state_of r t) piece).answer ≡ stream.Refused (refusal_number x)
  answered-as a = sym (ap (λ (q : Seen). q.step.answer) steps-as) ∙ ap (answer_of s.texts) a

-- a step that is refused by 20 was undone, and any other is the packet's
module _ (st : State (Session Table)) (piece : List ℕ) where
  abbrev judged_step : stream.Stepped (Session Table) (Event Said)
  judged_step = step_of (soup_bin_tcp deliver) st piece

  pub heeded-unmoved : (step_in st piece).answer ≡ stream.Refused (refusal_number refusal.Unfit) → step_in st piece ≡ unmoved st
  unfolding step_in
  heeded-unmoved a = by (is_unfit judged_step.answer) refl a
    where
      by : (y : Bool) → is_unfit judged_step.answer ≡ y → (cond y (unmoved st) judged_step).answer ≡ stream.Refused 20 → cond y (unmoved st) judged_step ≡ unmoved st
      by true f g = refl
      by false f g = absurd (never (sym f ∙ ap is_unfit g))

  pub heeded-moved : is_unfit (step_in st piece).answer ≡ false → step_in st piece ≡ judged_step
  unfolding step_in
  heeded-moved a = by (is_unfit judged_step.answer) a
    where
      by : (y : Bool) → is_unfit (cond y (unmoved st) judged_step).answer ≡ false → cond y (unmoved st) judged_step ≡ judged_step
      by true f = absurd (never (sym f))
      by false f = refl

-- THEOREM: WHICHEVER WAY 20 COMES OF A STEP, by a limit, by a length or by an index that leads astray, it takes nothing, nothing stands, and the handle,
-- what it holds and all memory are as they were given
pub any-20 : (r : Reader) (t : Memories) (piece : List ℕ) (s : Stepped) (t' : Memories) → length r.held ≡ held_size → Stepping r t piece s t'
    → s.answer ≡ answer.Refused refusal.Unfit → SameStep s (still_of r (answer.Refused refusal.Unfit)) t' t
any-20 r t piece s t' long h a = by (may_step r t) refl
  where
    by : (y : Bool) → may_step r t ≡ y → SameStep s (still_of r (answer.Refused refusal.Unfit)) t' t
    by false e = refusal-20 r t piece s t' e h
    by true e =
        same-steps s (still_of r (answer.Refused refusal.Unfit)) t' t
        (steps-as r t piece s t' e h
        ∙ ap seen (heeded-unmoved (state_of r t) piece (answered-as r t piece s t' e h a))
        ∙ (λ i. record { step = unmoved (state_of r t); used = held-used r t long e i; texts = no_text }))

-- ---- a reader that has ended or refused

module _ (r : Reader) (t : Memories) (piece : List ℕ) (s : Stepped) (t' : Memories) (long : length r.held ≡ held_size) (e : may_step r t ≡ true)
    (h : Stepping r t piece s t') where
  -- THEOREM: a standing refusal is repeated, and nothing else happens
  pub refusal-repeats : (r.refusal ≡ 0 → ⊥) → SameStep s (still_of r (answer.Refused (named r.refusal))) t' t
  refusal-repeats n =
      same-steps s (still_of r (answer.Refused (named r.refusal))) t' t
      (h ∙ sym (limits.step-refused r t piece e long n))

  -- THEOREM: so is an end
  pub end-repeats : r.refusal ≡ 0 → r.ended ≡ true → SameStep s (still_of r answer.Ended) t' t
  end-repeats n k =
      same-steps s (still_of r answer.Ended) t' t (h ∙ sym (limits.step-ended r t piece e long n k))

-- a state that has ended, or refused by a number that may stand
abbrev Closed : State (Session Table) → Type 0
Closed (live s held) = ⊥
Closed (ended s held) = Unit
Closed (refused s held e n) = standing n ≡ true

closed-state : (st : State (Session Table)) → (why_at_ceiling st ≡ ceiling.Ceiling → ⊥) → standing (refusal_in st) ≡ true → Closed st
closed-state (live s held) z k = absurd (z refl)
closed-state (ended s held) z k = tt
closed-state (refused s held e n) z k = k

-- of a piece nothing is asked
abbrev AnyPiece : List ℕ → Type 0
AnyPiece piece = Unit

closed-keeps : (st : State (Session Table)) (piece : List ℕ) → AnyPiece piece → Closed st → Closed (step_in st piece).state
unfolding step_in step_of
closed-keeps (live s held) piece u k = absurd k
closed-keeps (ended s held) piece u k = tt
closed-keeps (refused s held e n) piece u k = rw (stood-fit (stream.Refused n) k) k

closed_same : (st : State (Session Table)) (piece : List ℕ) → AnyPiece piece → Closed st → step_in st piece ≡ step_of (soup_bin_tcp deliver) st piece
unfolding step_in step_of
closed_same (live s held) piece u k = absurd k
closed_same (ended s held) piece u k = refl
closed_same (refused s held e n) piece u k = rw (stood-fit (stream.Refused n) k)

pub runs_as : (r : Reader) (t : Memories) (piece : List ℕ) (n : ℕ) (x : Ran) (t' : Memories) → may_step r t ≡ true → n ≤ most_packets → Running r t piece n x t'
    → seen_run_of x t' ≡ seen_run (run_by step_in n (state_of r t) piece)
unfolding run_all
runs_as r t piece n x t' e most h = rw (e, le-leb n most_packets most) at h

-- the same of a run with an allowed ceiling
module _ (r : Reader) (t : Memories) (piece : List ℕ) (n : ℕ) (x : Ran) (t' : Memories) (long : length r.held ≡ held_size) (e : may_step r t ≡ true)
    (most : n ≤ most_packets) (h : Running r t piece n x t') where
  run-repeats : (w : Why) → why_at_ceiling (state_of r t) ≡ why_of w → (why_of w ≡ ceiling.Ceiling → ⊥) → SameRun x (still_ran r w) t' t
  run-repeats w k z =
      let open-not : why_at_ceiling (state_of r t) ≡ ceiling.Ceiling → ⊥ = λ y. z (sym k ∙ y) in
      let c = closed-state (state_of r t) open-not (ap standing (refusal-of r t) ∙ (may-within r t e).stands) in
      same_runs x (still_ran r w) t' t
      (runs_as r t piece n x t' e most h
      ∙ ap seen_run (run-same step_in (step_of (soup_bin_tcp deliver)) Closed AnyPiece (λ m p u. tt) closed-keeps closed_same n (state_of r t) piece tt c)
      ∙ ap seen_run (at_once (soup_bin_tcp deliver) n (state_of r t) piece open-not)
      ∙ (λ i. record { run = halted (state_of r t) 0 (k i); used = held-used r t long e i }))

  -- THEOREM: a standing refusal is repeated, and nothing else happens
  pub run-refusal-repeats : (r.refusal ≡ 0 → ⊥) → SameRun x (still_ran r (why.Refused (named r.refusal))) t' t
  run-refusal-repeats some =
      run-repeats (why.Refused (named r.refusal))
      (rw (ne_eqb r.refusal 0 some) (ap ceiling.Refused (sym (named-number r.refusal (may-within r t e).stands some))))
      (λ y. let z : ◌≡◌ {A = ℕ} 0 1 = cc in omega arith)

  -- THEOREM: so is an end
  pub run-end-repeats : r.refusal ≡ 0 → r.ended ≡ true → SameRun x (still_ran r why.Ended) t' t
  run-end-repeats none over = run-repeats why.Ended (rw (none, over)) (λ y. let z : ◌≡◌ {A = ℕ} 0 1 = cc in omega arith)

-- ---- refusals 1 to 16

-- a reader that has neither ended nor refused
abbrev live_of : Reader → Memories → State (Session Table)
live_of r memory = live (session_of r.line r.board memory) (held_of r)

refusal-fit : (x : Refusal) → (x ≡ refusal.Unfit → ⊥) → is_unfit (stream.Refused (refusal_number x)) ≡ false
refusal-fit x d = ne_eqb (refusal_number x) 20 (λ z. d (equal-names x refusal.Unfit z))

-- THEOREM: the table, its index and the handle are as they were, but nothing is held and the refusal stands
pub refusals-leave : (r : Reader) (t : Memories) (piece : List ℕ) (s : Stepped) (t' : Memories) (x : Refusal) → may_step r t ≡ true
    → r.refusal ≡ 0 → r.ended ≡ false → Stepping r t piece s t' → s.answer ≡ answer.Refused x → (x ≡ refusal.Unfit → ⊥) → Leaves r t x s t'
refusals-leave r t piece s t' x e n k h a d =
    let at : state_of r t ≡ live_of r t = rw (eq-eqb r.refusal 0 n, k) in
    let fit : is_unfit (step_in (state_of r t) piece).answer ≡ false
    = ap is_unfit (answered-as r t piece s t' e h a) ∙ refusal-fit x d in
    let moved : step_in (state_of r t) piece ≡ step_of (soup_bin_tcp deliver) (live_of r t) piece
    = heeded-moved (state_of r t) piece fit ∙ ap (λ (q : State (Session Table)). step_of (soup_bin_tcp deliver) q piece) at in
    let z : seen_of s t' ≡ seen (step_of (soup_bin_tcp deliver) (live_of r t) piece) = steps-as r t piece s t' e h ∙ ap seen moved in
    let y : (step_of (soup_bin_tcp deliver) (live_of r t) piece).answer ≡ stream.Refused (refusal_number x)
    = sym (ap (λ (q : Seen). q.step.answer) z) ∙ ap (answer_of s.texts) a in
    let l : (step_of (soup_bin_tcp deliver) (live_of r t) piece).state ≡ refused_by (refusal_number x) (session_of r.line r.board t)
    = step-refused (soup_bin_tcp deliver) (session-leaves deliver deliver-undone) (session_of r.line r.board t) (held_of r) piece (refusal_number x) y in
    let st : state_of s.reader t' ≡ refused_by (refusal_number x) (session_of r.line r.board t)
    = ap (λ (q : Seen). q.step.state) z ∙ l in
    let i : session_of s.reader.line s.reader.board t' ≡ session_of r.line r.board t
    = sym (session-in s.reader t') ∙ ap session_in st in
    record {
      memory = ap (λ (q : Session Table). q.about.memory) i;
      line = ap (λ (q : Session Table). q.line) i;
      board = ap (λ (q : Session Table). q.about.board) i;
      ended = sym (ended_of s.reader t') ∙ ap ended_in st;
      standing = sym (refusal-of s.reader t') ∙ ap refusal_in st;
      used = ap (λ (q : Seen). q.used) z ∙ ap (λ (q : State (Session Table)). length (held_in q)) l;
      texts = ap (λ (q : Seen). q.texts) z ∙ ap answer_texts y;
    }

-- THEOREM: of a reader that was started without refusal and was given bytes until it refused, nothing is held, and table, index and handle are as before the
-- refused packet's first byte, which is the first that follows the accepted packets
pub refused-run : (t : Memories) (b : Started) (t₁ : Memories) → Starting t b t₁ → b.answer ≡ Ok (tt {0})
    → {bs : List ℕ} {es : List (Event Said)} {r : Reader} {t₂ : Memories} {left : List ℕ} → Bytes bs → Steps b.reader t₁ bs es r t₂ left
    → (r.refusal ≡ 0 → ⊥)
    → (held_of r ≡ []) × (r.ended ≡ false) × RefusedAt (soup_bin_tcp deliver) begin bs es (session_of r.line r.board t₂) r.refusal
refused-run t b t₁ h a {bs} {es} {r} {t₂} {left} bytes c n =
    let st : state_of r t₂ ≡ refused (session_of r.line r.board t₂) (held_of r) r.ended r.refusal = rw (ne_eqb r.refusal 0 n) in
    refused-as-before (soup_bin_tcp deliver) (session-leaves deliver deliver-undone) begin [] bs
    (any-cuts t b t₁ h a bytes c (subst (λ (x : State (Session Table)). NothingLeft x left) (sym st) tt)
    ∙ ap (λ (x : State (Session Table)). let q : Run (Session Table) (Event Said) = record { events = es; state = x } in q) st)

-- ---- 20 is given only where a limit is broken, or an index is false

-- THEOREM: a step of what is ours, with any bytes, is not refused by 20
pub not-unfit : (r : Reader) (t : Memories) (piece : List ℕ) (s : Stepped) (t' : Memories) → Ours r t → Bytes piece → Stepping r t piece s t'
    → s.answer ≡ answer.Refused refusal.Unfit → ⊥
unfolding standing
not-unfit r t piece s t' o b h a =
    let y : stream.Refused 20 ≡ (step_of (soup_bin_tcp deliver) (state_of r t) piece).answer
    = sym (ap (answer_of s.texts) a) ∙ ap (λ (q : Seen). q.step.answer) (stepping-is r t piece s t' o b h) in
    let k : standing 20 ≡ true = subst AnswerStood (sym y) (step-stood (state_of r t) piece b (ours_kept r t o)) in
    never k
