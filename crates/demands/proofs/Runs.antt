-- W-203, OVER THE PROMISES: a run of what is ours, with any ceiling.
-- Assumes nothing.
use mathlib.Core.Path.{◌≡◌, refl, sym, ap, ◌∙◌, subst}
use mathlib.Core.Logic.{◌⊎◌, inl, inr}
use mathlib.Core.List.{List, ◌++◌}
use mathlib.Core.Bool.{Bool, true, false, cond}
use Prim.Native.Nat.{ℕ, suc, ◌+◌, ◌-◌, ◌≤◌, ◌<◌}
use native.Mathlib.Omega.{arith}
use borrow.Author.Tests.{le-leb}
use lib.Dec.{leb}
use lib.ListN.{length, take, drop}
use Rattle.field.specs.Bytes.{Bytes}
use Rattle.packet.specs.Frame.{held_size}
use Rattle.packet.specs.Ceiling as ceiling
use Rattle.packet.specs.Ceiling.{why_at_ceiling, ◌onward◌, run_by, run_of}
use Rattle.packet.specs.Stream.{State, live, ended, refused, Unfinished, Run, reading, step_of, Called}
use Rattle.packet.specs.Session.{Session, Event, soup_bin_tcp}
use Rattle.packet.proofs.Rules.{never}
use Rattle.packet.proofs.Bytes.{bytes_drop}
use Rattle.packet.proofs.Frame.{short-fits}
use Rattle.packet.proofs.Ceiling as ceilings
use Rattle.packet.proofs.Ceiling.{run-finished, run-state, run-onward, run-called, run-why, run-keeps, run-same}
use Rattle.table.specs.Memory.{Memories}
use Rattle.reader.specs.Refusals.{standing}
use Rattle.reader.specs.Deliver.{Table, Said, deliver}
use Rattle.reader.specs.View.{session_of, held_of, state_of, held_in}
use Rattle.reader.specs.Calls.{step_in}
use Rattle.reader.specs.Running.{most_packets, why_of, SeenRun, seen_run, seen_run_of, refused_run, run_all, Running}
use Rattle.reader.specs.declared.Refusal.TheVariants.{Unfit, HighCeiling}
use Rattle.reader.specs.declared.Reader.{Reader}
use Rattle.reader.specs.declared.Why.{Why}
use Rattle.reader.specs.declared.Why.TheVariants as why
use Rattle.reader.specs.declared.Ran.{Ran}
use Rattle.demands.specs.Sound.{Ours}
use Rattle.demands.specs.Same.{SameRun}
use Rattle.demands.proofs.View.{refusal_in}
use Rattle.demands.proofs.Kept.{Kept, ours_kept, kept-ours, ours-may, unfinished-in, step_kept, unheeded}
use Rattle.demands.proofs.Equal.{same_runs}

-- a run of the definitions keeps what a step keeps
pub run-kept : (n : ℕ) (st : State (Session Table)) (piece : List ℕ) → Bytes piece → Kept st → Kept (run_of (soup_bin_tcp deliver) n st piece).state
run-kept = run-keeps (step_of (soup_bin_tcp deliver)) Kept Bytes bytes_drop step_kept

-- and is never led astray
pub run-unheeded : (n : ℕ) (st : State (Session Table)) (piece : List ℕ) → Bytes piece → Kept st → run_by step_in n st piece ≡ run_of (soup_bin_tcp deliver) n st piece
run-unheeded n st piece b k =
    sym (run-same (step_of (soup_bin_tcp deliver)) step_in Kept Bytes bytes_drop step_kept (λ st₁ p b₁ k₁. sym (unheeded st₁ p b₁ k₁)) n st piece b k)

-- a run of what is ours, with an allowed ceiling, is the definition's
pub running-is : (r : Reader) (t : Memories) (piece : List ℕ) (n : ℕ) (x : Ran) (t' : Memories) → Ours r t → Bytes piece → n ≤ most_packets
    → Running r t piece n x t' → seen_run_of x t' ≡ seen_run (run_of (soup_bin_tcp deliver) n (state_of r t) piece)
unfolding run_all
running-is r t piece n x t' o b l h =
    h ∙ (rw (ours-may r t o, le-leb n most_packets l)) ∙ ap seen_run (run-unheeded n (state_of r t) piece b (ours_kept r t o))

-- In all but why it stopped, a call is a run of the definitions: where the ceiling is refused, the run with a ceiling of 0.
pub record Runs (st : State (Session Table)) (piece : List ℕ) (x : SeenRun) : Type 0 where
  pub up_to : ℕ
  pub state : x.run.state ≡ (run_of (soup_bin_tcp deliver) up_to st piece).state
  pub taken : x.run.taken ≡ (run_of (soup_bin_tcp deliver) up_to st piece).taken
  pub finished : x.run.finished ≡ (run_of (soup_bin_tcp deliver) up_to st piece).finished
  pub used : x.used ≤ held_size

module _ (r : Reader) (t : Memories) (piece : List ℕ) (n : ℕ) (o : Ours r t) (b : Bytes piece) where
  abbrev by-ceiling : Bool → SeenRun
  by-ceiling allowed = cond allowed (seen_run (run_of (soup_bin_tcp deliver) n (state_of r t) piece)) (refused_run HighCeiling r t)

  by_runs : (y : Bool) → Runs (state_of r t) piece (by-ceiling y)
  unfolding run_by
  by_runs true =
      let k = run-kept n (state_of r t) piece b (ours_kept r t o) in
      record {
        up_to = n;
        state = refl;
        taken = refl;
        finished = refl;
        used = omega (arith, short-fits (held_in (run_of (soup_bin_tcp deliver) n (state_of r t) piece).state) k.short);
      }
  by_runs false = record { up_to = 0; state = refl; taken = refl; finished = refl; used = o.used }

  pub all_runs : Runs (state_of r t) piece (run_all r t piece n)
  unfolding run_all
  all_runs =
      subst (Runs (state_of r t) piece) (rw (ours-may r t o, run-unheeded n (state_of r t) piece b (ours_kept r t o))) (by_runs (leb n most_packets))

module _ (st : State (Session Table)) (piece : List ℕ) (x : SeenRun) (u : Runs st piece x) (fine : Unfinished st) where
  abbrev reads : ℕ → Run (Session Table) (Event Said)
  reads k = reading (soup_bin_tcp deliver) st (take k piece)

  -- a run is the reading of exactly the bytes that it takes
  pub runs-finished : x.run.finished ≡ length (reading (soup_bin_tcp deliver) st (take x.run.taken piece)).events
  runs-finished =
      u.finished ∙ run-finished (soup_bin_tcp deliver) u.up_to st piece fine ∙ ap (λ (k : ℕ). length (reads k).events) (sym u.taken)

  pub runs-state : x.run.state ≡ (reading (soup_bin_tcp deliver) st (take x.run.taken piece)).state
  runs-state = u.state ∙ run-state (soup_bin_tcp deliver) u.up_to st piece fine ∙ ap (λ (k : ℕ). (reads k).state) (sym u.taken)

  -- and calls of the definitions
  pub runs-called : (more : List ℕ)
      → Called (soup_bin_tcp deliver) st (piece ++ more) (reading (soup_bin_tcp deliver) st (take x.run.taken piece)).events x.run.state
      (drop x.run.taken piece ++ more)
  runs-called more =
      let r = run_of (soup_bin_tcp deliver) u.up_to st piece in
      subst (λ (q : State (Session Table)). Called (soup_bin_tcp deliver) st (piece ++ more) (reads x.run.taken).events q (drop x.run.taken piece ++ more))
      (sym u.state)
      (subst (λ (k : ℕ). Called (soup_bin_tcp deliver) st (piece ++ more) (reads k).events r.state (drop k piece ++ more)) (sym u.taken)
      (run-called (soup_bin_tcp deliver) u.up_to st piece more fine))

-- ---- why it stopped

-- a refusal that a run gives may stand
abbrev pub WhyStands : ceiling.Why → Type 0
WhyStands ceiling.Ended = Unit
WhyStands (ceiling.Refused n) = standing n ≡ true
WhyStands ceiling.Ceiling = Unit
WhyStands ceiling.More = Unit

state-stands : (st : State (Session Table)) → standing (refusal_in st) ≡ true → WhyStands (why_at_ceiling st)
state-stands (live s held) h = tt
state-stands (ended s held) h = tt
state-stands (refused s held e n) h = h

pub run-stands : (n : ℕ) (st : State (Session Table)) (piece : List ℕ) → Bytes piece → Kept st → WhyStands (run_of (soup_bin_tcp deliver) n st piece).why
run-stands n st piece b k = by (run-why (soup_bin_tcp deliver) n st piece)
  where
    r : ceiling.Ran (Session Table)
    r = run_of (soup_bin_tcp deliver) n st piece

    by : (why_at_ceiling r.state ≡ r.why) ⊎ (r.why ≡ ceiling.More) → WhyStands r.why
    by (inl e) = subst WhyStands e (state-stands r.state (run-kept n st piece b k).stands)
    by (inr e) = subst WhyStands (sym e) tt

-- ---- THE THEOREMS

module _ (r : Reader) (t : Memories) (piece : List ℕ) (n : ℕ) (x : Ran) (t' : Memories) (o : Ours r t) (b : Bytes piece) (h : Running r t piece n x t') where
  runs : Runs (state_of r t) piece (seen_run_of x t')
  runs = subst (Runs (state_of r t) piece) (sym h) (all_runs r t piece n o b)

  -- THEOREM: a run of what is ours, with any ceiling, leaves what is ours
  pub run-ours : Ours x.reader t'
  run-ours =
      kept-ours x.reader t' (subst Kept (sym runs.state) (run-kept runs.up_to (state_of r t) piece b (ours_kept r t o))) runs.used

  -- THEOREM: the number of packets finished is that of the accepted packets, the events, in the reading of the bytes taken, from the reader given; and
  -- the reader and the memories that are left are that reading's. With any ceiling.
  pub run-counts : (x.finished ≡ length (reading (soup_bin_tcp deliver) (state_of r t) (take x.taken piece)).events)
      × (state_of x.reader t' ≡ (reading (soup_bin_tcp deliver) (state_of r t) (take x.taken piece)).state)
  run-counts = (
    runs-finished (state_of r t) piece (seen_run_of x t') runs (unfinished-in r t o),
    runs-state (state_of r t) piece (seen_run_of x t') runs (unfinished-in r t o),
  )

  -- a run is calls of the definitions
  pub one-called : (more : List ℕ)
      → Called (soup_bin_tcp deliver) (state_of r t) (piece ++ more) (reading (soup_bin_tcp deliver) (state_of r t) (take x.taken piece)).events
      (state_of x.reader t') (drop x.taken piece ++ more)
  one-called = runs-called (state_of r t) piece (seen_run_of x t') runs (unfinished-in r t o)

  -- THEOREM: IT GETS ON. A reader of ours that has neither ended nor refused, with a ceiling of 1 to 1,000, takes at least one byte of a piece that is not
  -- empty.
  pub run-gets-on : (r.refusal ≡ 0) × (r.ended ≡ false) → 1 ≤ n → n ≤ most_packets → 1 ≤ length piece → 1 ≤ x.taken
  run-gets-on alive some most g =
      let s : Session Table = session_of r.line r.board t in
      let st : state_of r t ≡ live s (held_of r) = rw (alive.0, alive.1) in
      let e : x.taken ≡ (run_of (soup_bin_tcp deliver) n (live s (held_of r)) piece).taken
      = ap (λ (q : SeenRun). q.run.taken) (running-is r t piece n x t' o b most h)
      ∙ ap (λ (q : State (Session Table)). (run_of (soup_bin_tcp deliver) n q piece).taken) st in
      rw e (ceilings.run-gets-on (soup_bin_tcp deliver) n s (held_of r) piece o.short some g)

  -- THEOREM: a run of what is ours, with a ceiling up to 1,000, is refused neither as 20 nor as 27
  pub run-not-refused : n ≤ most_packets → (x.why ≡ why.Refused Unfit → ⊥) × (x.why ≡ why.Refused HighCeiling → ⊥)
  unfolding standing
  run-not-refused most =
      let s : WhyStands (why_of x.why)
      = subst (λ (q : SeenRun). WhyStands q.run.why) (sym (running-is r t piece n x t' o b most h))
      (run-stands n (state_of r t) piece b (ours_kept r t o)) in
      (λ e. never (subst (λ (w : Why). WhyStands (why_of w)) e s), λ e. never (subst (λ (w : Why). WhyStands (why_of w)) e s))

  -- THEOREM: A HIGHER CEILING FINISHES THE SAME PACKETS FIRST. A run with the ceiling `n`, and then one on what was not taken with `m - n`, is the run with
  -- `m`: bytes and packets add up, and reader, memories and reason are the same.
  pub run-twice : (m : ℕ) → n < m → m ≤ most_packets → (y z : Ran) (t'' u : Memories) → Running x.reader t' (drop x.taken piece) (m - n) y t''
      → Running r t piece m z u
      → SameRun z (record { reader = y.reader; taken = x.taken + y.taken; finished = x.finished + y.finished; why = y.why }) u t''
  run-twice m l most y z t'' u second whole =
      let j = soup_bin_tcp deliver in
      let d : ℕ = m - n - 1 in
      let more : m - n ≡ suc d = omega arith in
      let sum : m ≡ n + suc d = omega arith in
      let one : seen_run_of x t' ≡ seen_run (run_of j n (state_of r t) piece) = running-is r t piece n x t' o b (omega arith) h in
      let two : seen_run_of y t'' ≡ seen_run (run_of j (suc d) (state_of x.reader t') (drop x.taken piece))
      = running-is x.reader t' (drop x.taken piece) (m - n) y t'' run-ours (bytes_drop x.taken piece b) (omega arith) second
      ∙ ap (λ (k : ℕ). seen_run (run_of j k (state_of x.reader t') (drop x.taken piece))) more in
      let all : seen_run_of z u ≡ seen_run (run_of j (n + suc d) (state_of r t) piece)
      = running-is r t piece m z u o b most whole ∙ ap (λ (k : ℕ). seen_run (run_of j k (state_of r t) piece)) sum in
      same_runs z _ u t''
      (all
      ∙ ap seen_run (run-onward j n d (state_of r t) piece)
      ∙ ap (λ (q : SeenRun). seen_run (q.run onward run_of j (suc d) q.run.state (drop q.run.taken piece))) (sym one)
      ∙ ap (λ (q : SeenRun). record { run = (seen_run_of x t').run onward q.run; used = q.used }) (sym two))
