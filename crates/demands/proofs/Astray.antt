-- W-207: WHERE AN INDEX LEADS A STEP ASTRAY, exactly; and what a run keeps that it stops.
-- Assumes nothing.
use mathlib.Core.Path.{◌≡◌, refl, sym, ap, ◌∙◌, subst}
use mathlib.Core.Bool.{Bool, true, false, cond}
use mathlib.Core.List.{List, ◌++◌}
use Prim.Native.Nat.{ℕ, suc, ◌-◌, ◌≤◌}
use native.Mathlib.Omega.{arith}
use borrow.Author.Tests.{eqb-true}
use lib.Dec.{eqb}
use lib.ListN.{length, drop}
use Rattle.message.specs.Message as messages
use Rattle.message.specs.Message.{read_of}
use Rattle.message.specs.declared.Message.{Message}
use Rattle.message.specs.declared.Refusal as message_refusal
use Rattle.message.specs.declared.Refusal.TheVariants as message_refusals
use Rattle.packet.specs.Frame.{Framed, short, bad_length, packet, frame}
use Rattle.packet.specs.Refusals.{fault_number}
use Rattle.packet.specs.Stream as stream
use Rattle.packet.specs.Stream.{State, live, ended, refused, accept, finish, refuse, step_judged, step_framed, step_of}
use Rattle.packet.specs.Ceiling as ceiling
use Rattle.packet.specs.Ceiling.{why_at_ceiling, halted, further, run_by}
use Rattle.packet.specs.Line.{packet_of}
use Rattle.packet.specs.Session.{Session, Event, Delivered, done, denied, delivered, does, soup_bin_tcp}
use Rattle.packet.specs.declared.Line.{Line}
use Rattle.packet.specs.declared.Fault.{Fault}
use Rattle.packet.specs.declared.Fault.TheVariants as fault
use Rattle.packet.specs.declared.Packet.{Packet}
use Rattle.packet.specs.declared.Packet.TheVariants as packets
use Rattle.packet.proofs.Rules.{never}
use Rattle.packet.proofs.Ceiling.{Halts, each_step, run-event, run-most}
use Rattle.table.specs.Memory.{Memories}
use Rattle.table.specs.Index.{lent_fit}
use Rattle.table.specs.Board.{fits, look, effect_by, effect, apply_of}
use Rattle.table.specs.declared.Board.{Board}
use Rattle.table.specs.declared.index.Sought.{Sought}
use Rattle.table.specs.declared.index.Sought.TheVariants.{Here, Absent, Astray}
use Rattle.table.proofs.Ways.{rows-fitting, fitting-lent}
use Rattle.table.proofs.Exactly.{LeftBy, apply-leaves}
use Rattle.reader.specs.Refusals.{standing}
use Rattle.reader.specs.Deliver.{Table, table_of, table_by, Said, said, settled_by, heard, deliver}
use Rattle.reader.specs.View.{session_of, held_of, state_of, Seen}
use Rattle.reader.specs.Limits.{may_step}
use Rattle.reader.specs.Calls.{is_unfit, unmoved, step_in, Stepping}
use Rattle.reader.specs.Running.{most_packets, why_of, SeenRun, seen_run, seen_run_of, Running}
use Rattle.reader.specs.declared.Refusal.TheVariants as refusal
use Rattle.reader.specs.declared.StepAnswer.TheVariants as answer
use Rattle.reader.specs.declared.Reader.{Reader}
use Rattle.reader.specs.declared.Stepped.{Stepped}
use Rattle.reader.specs.declared.Why.TheVariants as why
use Rattle.reader.specs.declared.Ran.{Ran}
use Rattle.reader.proofs.Fits.{name_back}
use Rattle.reader.proofs.Kept.{may-within, may-index}
use Rattle.demands.specs.Astray.{Leads, LedAstray}
use Rattle.demands.specs.Same.{SameRun}
use Rattle.demands.proofs.View.{refusal_in, refusal-of}
use Rattle.demands.proofs.Equal.{answer-is, same_runs}
use Rattle.demands.proofs.Refused.{steps-as, answered-as, runs_as, heeded-unmoved}
use Rattle.std.specs.Prelude.{Err}
use Rattle.std.specs.Prelude.{Ok}
use Rattle.std.specs.Prelude.{Result}
use Rattle.message.specs.declared.Refusal.{Refusal}
use Rattle.table.specs.declared.Refusal as table_refusal

-- ---- a message

abbrev Denied20 : Delivered Table Said → Type 0
Denied20 (done x t) = ⊥
Denied20 (denied n t) = n ≡ 20

read-not : (r : message_refusal.Refusal) → messages.refusal_number r ≡ 20 → ⊥
read-not message_refusals.UnknownLetter e = omega arith
read-not message_refusals.WrongLength e = omega arith
read-not message_refusals.BadField e = omega arith

-- the three answers of a search are not one another
abbrev is_astray : Sought → Bool
is_astray (Here k) = false
is_astray (Absent p) = false
is_astray Astray = true

module _ (t : Table) (body : List ℕ) (fit : lent_fit t.board.rows t.memory ≡ true) where
  settled-not : (m : Message) (x : Said) (v : Result (Unit {0}) table_refusal.Refusal) (b : Board) (l : Memories) → LeftBy t.board m t.memory v b l
      → (look t.board m t.memory ≡ Astray → ⊥) → Denied20 (settled_by v x (table_of b l)) → ⊥
  settled-not m x (Ok u) b l h d e = e
  settled-not m x (Err r) b l h d e = never (sym (h.2 fit d) ∙ ap (λ (n : ℕ). eqb n 20) e)

  heard-leads : (a : Result Message Refusal) → (read_of body).answer ≡ a → Denied20 (heard t (read_of body).texts a) → Leads t body
  heard-leads (Err r) i e = absurd (read-not r e)
  heard-leads (Ok m) i e = by (look t.board m t.memory) refl
    where
      not-by : (w : Sought) → is_astray w ≡ false → look t.board m t.memory ≡ w → ⊥
      not-by w f g =
          let o = apply_of t.board m (read_of body).texts t.memory in
          settled-not m (said m (read_of body).texts) o.outcome.applied.verdict o.outcome.applied.board (table_by o).memory
          (apply-leaves t.board m (read_of body).texts t.memory) (λ z. never (sym f ∙ ap is_astray (sym g ∙ z))) e

      by : (w : Sought) → look t.board m t.memory ≡ w → Leads t body
      by (Here k) g = absurd (not-by (Here k) refl g)
      by (Absent p) g = absurd (not-by (Absent p) refl g)
      by Astray g = record { message = m; read = i; astray = g }

  pub denied-leads : Denied20 (deliver t body) → Leads t body
  unfolding deliver
  denied-leads e = heard-leads (read_of body).answer refl e

  pub leads-denied : Leads t body → deliver t body ≡ denied 20 t
  unfolding deliver apply_of effect effect_by
  leads-denied x = rw (x.read, fit, x.astray)

-- ---- a packet

abbrev Is20 : stream.Answer (Event Said) → Type 0
Is20 (stream.Event e) = ⊥
Is20 stream.More = ⊥
Is20 stream.Ended = ⊥
Is20 (stream.Refused n) = n ≡ 20

fault-not : (f : Fault) → fault_number f ≡ 20 → ⊥
fault-not fault.BadLength e = omega arith
fault-not fault.UnknownLetter e = omega arith
fault-not fault.WrongPlace e = omega arith
fault-not fault.BadForm e = omega arith
fault-not fault.NotNext e = omega arith
fault-not fault.NumbersUsedUp e = omega arith

delivered-20 : (n : ℕ) (l : Line) (d : Delivered Table Said) → Is20 (step_judged n (delivered l d)).answer → Denied20 d
delivered-20 n l (done x t) e = e
delivered-20 n l (denied k t) e = e

module _ (s : Session Table) (held piece : List ℕ) (fit : lent_fit s.about.board.rows s.about.memory ≡ true) where
  does-led : (n letter : ℕ) (body rest : List ℕ) → frame (held ++ piece) ≡ packet letter body rest → (p : Packet) → packet_of s.line letter body ≡ p
      → Is20 (step_judged n (does deliver s body p)).answer → LedAstray s (held ++ piece)
  does-led n letter body rest f (packets.Login k) i e = absurd e
  does-led n letter body rest f (packets.Rejected k) i e = absurd e
  does-led n letter body rest f packets.Message i e =
      record {
        letter = letter;
        body = body;
        rest = rest;
        framed = f;
        is = i;
        leads = denied-leads s.about body fit (delivered-20 n s.line (deliver s.about body) e);
      }
  does-led n letter body rest f packets.Heartbeat i e = absurd e
  does-led n letter body rest f packets.End i e = absurd e
  does-led n letter body rest f packets.Skipped i e = absurd e
  does-led n letter body rest f (packets.Refused k) i e = absurd (fault-not k e)

  framed-led : (f : Framed) → frame (held ++ piece) ≡ f → Is20 (step_framed (soup_bin_tcp deliver) s held piece f).answer → LedAstray s (held ++ piece)
  unfolding soup_bin_tcp
  framed-led short i e = absurd e
  framed-led (bad_length rest) i e = absurd (omega arith)
  framed-led (packet letter body rest) i e = does-led (length piece - length rest) letter body rest i (packet_of s.line letter body) refl e

  pub judged-led : Is20 (step_of (soup_bin_tcp deliver) (live s held) piece).answer → LedAstray s (held ++ piece)
  unfolding step_of
  judged-led e = framed-led (frame (held ++ piece)) refl e

  pub led-judged : LedAstray s (held ++ piece) → (step_of (soup_bin_tcp deliver) (live s held) piece).answer ≡ stream.Refused 20
  unfolding step_of soup_bin_tcp
  led-judged x = rw (x.framed, x.is, leads-denied s.about x.body fit x.leads)

-- ---- a step

is-unfit : (a : stream.Answer (Event Said)) → is_unfit a ≡ true → Is20 a
is-unfit (stream.Event e) h = never h
is-unfit stream.More h = never h
is-unfit stream.Ended h = never h
is-unfit (stream.Refused n) h = eqb-true n 20 h

-- where the answer is 20, the packet's was, and the other way round
module _ (st : State (Session Table)) (piece : List ℕ) where
  abbrev x : stream.Stepped (Session Table) (Event Said)
  x = step_of (soup_bin_tcp deliver) st piece

  pub heeded-20 : (step_in st piece).answer ≡ stream.Refused 20 → Is20 x.answer
  unfolding step_in
  heeded-20 a = by (is_unfit x.answer) refl a
    where
      by : (y : Bool) → is_unfit x.answer ≡ y → (cond y (unmoved st) x).answer ≡ stream.Refused 20 → Is20 x.answer
      by true f g = is-unfit x.answer f
      by false f g = absurd (never (sym f ∙ ap is_unfit g))

  pub judged-20 : x.answer ≡ stream.Refused 20 → (step_in st piece).answer ≡ stream.Refused 20
  unfolding step_in
  judged-20 e = rw (ap is_unfit e)

-- THEOREM: A STEP OF A HANDLE THAT MAY STEP, AND HAS NEITHER ENDED NOR REFUSED, IS REFUSED BY 20 EXACTLY WHERE ITS INDEX LEADS IT ASTRAY: its bytes
-- complete a message for the next number, which was read, and a place that the search for its row visits names no row in use
module _ (r : Reader) (t : Memories) (piece : List ℕ) (s : Stepped) (t' : Memories) (e : may_step r t ≡ true) (none : r.refusal ≡ 0) (unended : r.ended ≡ false)
    (h : Stepping r t piece s t') where
  abbrev session : Session Table
  session = session_of r.line r.board t

  live-is : state_of r t ≡ live session (held_of r)
  live-is = rw (none, unended)

  lent : lent_fit r.board.rows t ≡ true
  unfolding fits
  lent = fitting-lent r.board.rows t (rows-fitting r.board.rows t.table (may-within r t e).fitted, may-index r t e)

  pub only-astray : s.answer ≡ answer.Refused refusal.Unfit → LedAstray session (held_of r ++ piece)
  only-astray a =
      judged-led session (held_of r) piece lent
      (subst (λ (q : State (Session Table)). Is20 (step_of (soup_bin_tcp deliver) q piece).answer) live-is
      (heeded-20 (state_of r t) piece (answered-as r t piece s t' e h a)))

  pub astray-refused : LedAstray session (held_of r ++ piece) → s.answer ≡ answer.Refused refusal.Unfit
  astray-refused led =
      let y : (step_in (state_of r t) piece).answer ≡ stream.Refused 20
      = judged-20 (state_of r t) piece
      (ap (λ (q : State (Session Table)). (step_of (soup_bin_tcp deliver) q piece).answer) live-is ∙ led-judged session (held_of r) piece lent led) in
      answer-is s (ap (λ (q : Seen). q.step.answer) (steps-as r t piece s t' e h) ∙ y) ∙ ap answer.Refused (name_back refusal.Unfit)

-- ---- a run

-- a state after an event has not refused
abbrev OpenBy : stream.Answer (Event Said) → State (Session Table) → Type 0
OpenBy (stream.Event e) st = (n : ℕ) → why_at_ceiling st ≡ ceiling.Refused n → ⊥
OpenBy stream.More st = Unit
OpenBy stream.Ended st = Unit
OpenBy (stream.Refused n) st = Unit

abbrev Opens : stream.Stepped (Session Table) (Event Said) → Type 0
Opens q = OpenBy q.answer q.state

abbrev has_refused : ceiling.Why → Bool
has_refused ceiling.Ended = false
has_refused (ceiling.Refused n) = true
has_refused ceiling.Ceiling = false
has_refused ceiling.More = false

abbrev number_of : ceiling.Why → ℕ
number_of ceiling.Ended = 0
number_of (ceiling.Refused n) = n
number_of ceiling.Ceiling = 0
number_of ceiling.More = 0

judged-opens : (n : ℕ) (v : stream.Verdict (Session Table) (Event Said)) → Opens (step_judged n v)
judged-opens n (accept e s) = λ k z. never (ap has_refused z)
judged-opens n (finish e s) = λ k z. never (ap has_refused z)
judged-opens n (refuse k s) = tt

framed-opens : (s : Session Table) (held piece : List ℕ) (f : Framed) → Opens (step_framed (soup_bin_tcp deliver) s held piece f)
framed-opens s held piece short = tt
framed-opens s held piece (bad_length rest) = tt
framed-opens s held piece (packet letter body rest) = judged-opens (length piece - length rest) (soup_bin_tcp deliver s letter body)

step-opens : (st : State (Session Table)) (piece : List ℕ) → Opens (step_of (soup_bin_tcp deliver) st piece)
unfolding step_of
step-opens (live s held) piece = framed-opens s held piece (frame (held ++ piece))
step-opens (ended s held) piece = tt
step-opens (refused s held e n) piece = tt

heeded-opens : (st : State (Session Table)) (piece : List ℕ) → Opens (step_in st piece)
unfolding step_in
heeded-opens st piece = by (is_unfit (x st piece).answer)
  where
    by : (y : Bool) → Opens (cond y (unmoved st) (x st piece))
    by true = tt
    by false = step-opens st piece

-- a step that 20 refuses is of a live state, unless 20 stood
unfit-live : (st : State (Session Table)) (piece : List ℕ) → Is20 (x st piece).answer → (why_at_ceiling st ≡ ceiling.Refused 20 → ⊥)
    → why_at_ceiling st ≡ ceiling.Ceiling
unfolding step_of
unfit-live (live s held) piece e d = refl
unfit-live (ended s held) piece e d = absurd e
unfit-live (refused s held k n) piece e d = absurd (d (ap ceiling.Refused e))

-- the run that finishes as many packets as one that 20 stopped, and no more, is that run in all but why it stopped
abbrev as_far : ceiling.Ran (Session Table) → ceiling.Ran (Session Table)
as_far q = record { state = q.state; taken = q.taken; finished = q.finished; why = ceiling.Ceiling }

abbrev KeepsBefore : ℕ → State (Session Table) → List ℕ → ceiling.Ran (Session Table) → Type 0
KeepsBefore n st piece q =
    q.why ≡ ceiling.Refused 20 → (why_at_ceiling st ≡ ceiling.Refused 20 → ⊥) → run_by step_in q.finished st piece ≡ as_far q

refused-number : (a : stream.Answer (Event Said)) (w : ceiling.Why) → Halts a w → w ≡ ceiling.Refused 20 → a ≡ stream.Refused 20
refused-number (stream.Event e) w h z = absurd h
refused-number stream.More w h z = absurd (never (ap has_refused (sym h ∙ z)))
refused-number stream.Ended w h z = absurd (never (ap has_refused (sym h ∙ z)))
refused-number (stream.Refused n) w h z = ap stream.Refused (ap number_of (sym h ∙ z))

abbrev stepped : State (Session Table) → ℕ → stream.Answer (Event Said) → stream.Stepped (Session Table) (Event Said)
stepped st n a = record { state = st; taken = n; answer = a }

stop-keeps : (n : ℕ) (st st' : State (Session Table)) (piece : List ℕ) (k : ℕ) (a : stream.Answer (Event Said)) (w : ceiling.Why)
    → step_in st piece ≡ stepped st' k a → Halts a w → KeepsBefore (suc n) st piece (halted st' k w)
unfolding run_by
stop-keeps n st st' piece k a w h s z d =
    let y : (step_in st piece).answer ≡ stream.Refused 20 = ap (λ (q : stream.Stepped (Session Table) (Event Said)). q.answer) h ∙ refused-number a w s z in
    let u : unmoved st ≡ stepped st' k a = sym (heeded-unmoved st piece y) ∙ h in
    let i : st ≡ st' = ap (λ (q : stream.Stepped (Session Table) (Event Said)). q.state) u in
    let j : 0 ≡ k = ap (λ (q : stream.Stepped (Session Table) (Event Said)). q.taken) u in
    ap (halted st 0) (unfit-live st piece (heeded-20 st piece y) d) ∙ (λ p. halted (i p) (j p) ceiling.Ceiling)

event-keeps : (n : ℕ) (st st' : State (Session Table)) (piece : List ℕ) (k : ℕ) (e : Event Said) → step_in st piece ≡ stepped st' k (stream.Event e)
    → KeepsBefore n st' (drop k piece) (run_by step_in n st' (drop k piece))
    → KeepsBefore (suc n) st piece (further k (run_by step_in n st' (drop k piece)))
event-keeps n st st' piece k e h go z d =
    let q = run_by step_in n st' (drop k piece) in
    let fresh : (m : ℕ) → why_at_ceiling st' ≡ ceiling.Refused m → ⊥ = subst Opens h (heeded-opens st piece) in
    run-event step_in q.finished st piece h ∙ ap (further k) (go z (fresh 20))

pub run-keeps-before : (n : ℕ) (st : State (Session Table)) (piece : List ℕ) → KeepsBefore n st piece (run_by step_in n st piece)
run-keeps-before =
    each_step step_in {P = KeepsBefore}
    (record { none = λ st piece z d. absurd (d z); event = event-keeps; stops = stop-keeps })

-- 20 does not stand in a handle that may step
pub not-standing : (r : Reader) (t : Memories) → may_step r t ≡ true → why_at_ceiling (state_of r t) ≡ ceiling.Refused 20 → ⊥
unfolding standing
not-standing r t e z = by (state_of r t) (ap standing (refusal-of r t) ∙ (may-within r t e).stands) z
  where
    by : (st : State (Session Table)) → standing (refusal_in st) ≡ true → why_at_ceiling st ≡ ceiling.Refused 20 → ⊥
    by (live s held) k w = never (ap has_refused w)
    by (ended s held) k w = never (ap has_refused w)
    by (refused s held m n) k w = never (sym (ap standing (ap number_of w)) ∙ k)

-- THEOREM: A RUN THAT IS STOPPED BY 20 KEEPS WHAT IT FINISHED BEFORE, packets, bytes and all that they changed: it is the run whose ceiling is that number
-- of packets, in all but why it stopped. The handle may step, and the ceiling is allowed.
pub run-astray : (r : Reader) (t : Memories) (piece : List ℕ) (n : ℕ) (x : Ran) (t' : Memories) → may_step r t ≡ true → n ≤ most_packets → Running r t piece n x t'
    → x.why ≡ why.Refused refusal.Unfit → (y : Ran) (t'' : Memories) → Running r t piece x.finished y t''
    → SameRun y (record { reader = x.reader; taken = x.taken; finished = x.finished; why = why.Ceiling }) t'' t'
run-astray r t piece n x t' e most h a y t'' g =
    let q = run_by step_in n (state_of r t) piece in
    let one : seen_run_of x t' ≡ seen_run q = runs_as r t piece n x t' e most h in
    let many : x.finished ≡ q.finished = ap (λ (v : SeenRun). v.run.finished) one in
    let few : x.finished ≤ most_packets = omega (arith, many, most, run-most step_in n (state_of r t) piece) in
    let reason : q.why ≡ ceiling.Refused 20 = sym (ap (λ (v : SeenRun). v.run.why) one) ∙ ap why_of a in
    same_runs y _ t'' t'
    (runs_as r t piece x.finished y t'' e few g
    ∙ ap (λ (k : ℕ). seen_run (run_by step_in k (state_of r t) piece)) many
    ∙ ap seen_run (run-keeps-before n (state_of r t) piece reason (not-standing r t e))
    ∙ ap (λ (v : SeenRun). record { run = as_far v.run; used = v.used }) (sym one))
