-- Runs through a piece: what is left of it leads where the whole of it leads, and the turns do not run out before the bytes.
-- Assumes nothing.
use mathlib.Core.Path.{◌≡◌, refl, sym, ap, ◌∙◌, subst}
use mathlib.Core.Bool.{Bool, true, false, ◌&&◌, not, cond}
use mathlib.Core.List.{List, []}
use Prim.Native.Nat.{ℕ, ◌+◌, ◌-◌, ◌≤◌, ◌<◌}
use native.Mathlib.Omega.{arith}
use borrow.Author.Tests.{eqb-true, eq-eqb, ne_eqb}
use lib.Dec.{eqb, leb}
use lib.ListN.{length, take, drop, length-drop, take-append-drop}
use lib.Seq.{take-length, drop-length, drop-drop}
use Rattle.field.specs.Bytes.{Bytes}
use Rattle.field.proofs.Bools.{both_left, both_right}
use Rattle.packet.specs.Stream.{State, live, ended, refused, reading, NothingLeft, Run, stop}
use Rattle.packet.specs.Ceiling.{run_by}
use Rattle.packet.specs.Session.{Session, Event, soup_bin_tcp}
use Rattle.packet.proofs.Cut.{reading-cut}
use Rattle.packet.proofs.Step.{any-caller}
use Rattle.packet.proofs.Ceiling.{run-within}
use Rattle.table.specs.Memory.{Memories}
use Rattle.reader.specs.Deliver.{Table, Said, deliver}
use Rattle.reader.specs.View.{session_of, held_of, state_of}
use Rattle.reader.specs.Limits.{may_step}
use Rattle.reader.specs.Calls.{step_in}
use Rattle.reader.specs.Running.{most_packets, SeenRun, seen_run, refused_run, run_all, Running}
use Rattle.reader.specs.declared.Refusal.TheVariants.{Unfit, HighCeiling}
use Rattle.reader.specs.declared.Reader.{Reader}
use Rattle.reader.specs.declared.Ran.{Ran}
use Rattle.reader.proofs.Onward.{takes-within}
use Rattle.demands.specs.Sound.{Ours}
use Rattle.packet.proofs.Bytes.{bytes_drop}
use Rattle.demands.proofs.Kept.{unfinished-in}
use Rattle.demands.proofs.Runs.{run-ours, run-counts, run-gets-on}
use Rattle.toplist.specs.Feeding.{takes_more, RunsFrom, Fed}
use Rattle.toplist.specs.declared.session.Reached.{Reached}

-- ---- does the reader take more?

pub refused-takes : (r : Reader) → (r.refusal ≡ 0 → ⊥) → false ≡ takes_more r
refused-takes r d = rw (ne_eqb r.refusal 0 d)

pub open-takes : (r : Reader) → r.refusal ≡ 0 → not r.ended ≡ takes_more r
open-takes r e = rw (eq-eqb r.refusal 0 e)

not-true : (b : Bool) → not b ≡ true → b ≡ false
not-true true e = sym e
not-true false e = refl

alive : (r : Reader) → takes_more r ≡ true → (r.refusal ≡ 0) × (r.ended ≡ false)
alive r e =
    (eqb-true r.refusal 0 (both_left (eqb r.refusal 0) (not r.ended) e), not-true r.ended (both_right (eqb r.refusal 0) (not r.ended) e))

-- one that does is live, and any other has nothing left to read
nothing : (r : Reader) (t : Memories) (left : List ℕ) → (takes_more r ≡ true → left ≡ []) → NothingLeft (state_of r t) left
nothing r t left = by (eqb r.refusal 0) r.ended
  where
    by : (none end : Bool) → (none && not end ≡ true → left ≡ [])
        → (let s = session_of r.line r.board t in NothingLeft (cond none (cond end (ended s (held_of r)) (live s (held_of r))) (refused s (held_of r) r.ended r.refusal)) left)
    by true true f = tt
    by true false f = f refl
    by false end f = tt

-- ---- a run takes no more than its piece, whatever reader it is given

taken-within : (r : Reader) (t : Memories) (piece : List ℕ) (n : ℕ) (x : Ran) (t' : Memories) → Running r t piece n x t' → x.taken ≤ length piece
unfolding run_all
taken-within r t piece n x t' e = rw (ap (λ (q : SeenRun). q.run.taken) e) (by (may_step r t) (leb n most_packets))
  where
    by : (fit low : Bool)
        → (cond fit (cond low (seen_run (run_by step_in n (state_of r t) piece)) (refused_run HighCeiling r t)) (refused_run Unfit r t)).run.taken ≤ length piece
    by true true = run-within step_in takes-within n (state_of r t) piece
    by true false = omega arith
    by false low = omega arith

-- what is left of a piece from a place on
rest-is : (piece : List ℕ) (at : ℕ) → take (length piece - at) (drop at piece) ≡ drop at piece
rest-is piece at =
    ap (λ (n : ℕ). take n (drop at piece)) (sym (length-drop at piece)) ∙ take-length (drop at piece)

pub from-within : (piece : List ℕ) (t : Memories) (a b : Reached) (t' : Memories) → a.at ≤ length piece → RunsFrom a t piece b t' → b.at ≤ length piece
from-within piece t a b t' h from =
    let w = taken-within a.reader t (drop a.at piece) most_packets from.ran t' from.promise in
    omega (arith, w, length-drop a.at piece, from.at)

module _ (piece : List ℕ) (t : Memories) (a : Reached) (x : Ran) (t' : Memories)
    (e : Running a.reader t (take (length piece - a.at) (drop a.at piece)) most_packets x t') where
  pub runs-from : RunsFrom a t piece (record { reader = x.reader; at = a.at + x.taken }) t'
  runs-from = record { ran = x; promise = rw (rest-is piece a.at) at e; reader = refl; at = refl }

  pub run_ends : a.at ≤ length piece → a.at + x.taken ≤ length piece
  run_ends h = from-within piece t a _ t' h runs-from

-- ---- the runs

module _ (r₀ : Reader) (t₀ : Memories) (piece : List ℕ) where
  pub record Along (a : Reached) (t : Memories) (turns : ℕ) : Type 0 where
    pub ours : Ours a.reader t
    pub state : (reading (soup_bin_tcp deliver) (state_of a.reader t) (drop a.at piece)).state ≡ (reading (soup_bin_tcp deliver) (state_of r₀ t₀) piece).state
    pub room : takes_more a.reader ≡ true → length piece ≤ a.at + turns

  pub begins : Ours r₀ t₀ → Along (record { reader = r₀; at = 0 }) t₀ (length piece)
  begins o = record { ours = o; state = refl; room = λ e. omega arith }

  module _ (a b : Reached) (t t' : Memories) (turns : ℕ) (bytes : Bytes piece) (more : takes_more a.reader ≡ true) (some : a.at < length piece)
      (from : RunsFrom a t piece b t') (again : 1 ≤ turns) (along : Along a t turns) where
    abbrev left : List ℕ
    left = drop a.at piece

    left-bytes : Bytes left
    left-bytes = bytes_drop a.at piece bytes

    -- what the run leaves of the rest is what is left from where the reader then stands
    rest-on : drop from.ran.taken left ≡ drop b.at piece
    rest-on = drop-drop from.ran.taken a.at piece ∙ ap (λ (n : ℕ). drop n piece) (sym from.at)

    -- the run is the reading of the bytes that it takes, and the rest is read on from there
    read-on : (reading (soup_bin_tcp deliver) (state_of a.reader t) left).state ≡ (reading (soup_bin_tcp deliver) (state_of b.reader t') (drop b.at piece)).state
    read-on =
        let st = state_of a.reader t in
        let k = from.ran.taken in
        let counts = run-counts a.reader t left most_packets from.ran t' along.ours left-bytes from.promise in
        ap (λ (l : List ℕ). (reading (soup_bin_tcp deliver) st l).state) (sym (take-append-drop k left))
        ∙ ap (λ (q : Run (Session Table) (Event Said)). q.state) (reading-cut (soup_bin_tcp deliver) st (take k left) (drop k left))
        ∙ ap (λ (l : List ℕ). (reading (soup_bin_tcp deliver) (reading (soup_bin_tcp deliver) st (take k left)).state l).state) rest-on
        ∙ ap (λ (y : State (Session Table)). (reading (soup_bin_tcp deliver) y (drop b.at piece)).state)
        (sym counts.1 ∙ ap (λ (r : Reader). state_of r t') (sym from.reader))

    pub goes_on : Along b t' (turns - 1)
    goes_on =
        let g =
        run-gets-on a.reader t left most_packets from.ran t' along.ours left-bytes from.promise (alive a.reader more) (omega arith) (omega arith)
        (omega (arith, length-drop a.at piece)) in
        record {
          ours =
              subst (λ (r : Reader). Ours r t') (sym from.reader)
              (run-ours a.reader t left most_packets from.ran t' along.ours left-bytes from.promise);
          state = sym read-on ∙ along.state;
          room = λ _. omega (arith, g, from.at, along.room more);
        }

  -- where no byte is left, or the reader takes none
  pub ends : (a : Reached) (t : Memories) (turns : ℕ) → a.at ≤ length piece → (takes_more a.reader ≡ true → length piece ≤ a.at) → Along a t turns
      → Fed r₀ t₀ piece a.reader t
  ends a t turns h f along =
      let none = nothing a.reader t (drop a.at piece) (λ e. let n : a.at ≡ length piece = omega (arith, f e) in rw n (drop-length piece)) in
      let still : reading (soup_bin_tcp deliver) (state_of a.reader t) (drop a.at piece) ≡ record { events = []; state = state_of a.reader t }
      = any-caller (soup_bin_tcp deliver) stop (unfinished-in a.reader t along.ours) none in
      record {
        ours = along.ours;
        state = sym (ap (λ (q : Run (Session Table) (Event Said)). q.state) still) ∙ along.state;
      }
