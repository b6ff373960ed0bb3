-- W-207 FOR A HOST IN C: a run that its index leads astray keeps what it finished before.
-- Assumes nothing.
use mathlib.Core.Path.{◌≡◌, sym, ap, ◌∙◌, subst}
use mathlib.Core.Bool.{true}
use mathlib.Core.List.{List}
use Prim.Native.Nat.{ℕ, ◌+◌, ◌*◌, ◌%◌, ◌≤◌}
use native.Mathlib.Omega.{arith}
use borrow.Author.Tests.{le-leb}
use Rattle.field.specs.Bytes.{Bytes}
use Rattle.packet.specs.Ceiling as ceiling
use Rattle.packet.specs.Ceiling.{run_by}
use Rattle.packet.specs.Stream.{State}
use Rattle.packet.specs.Session.{Session}
use Rattle.packet.proofs.Ceiling.{run-most}
use Rattle.table.specs.Memory.{Memories}
use Rattle.handle.specs.Handle.{places_in}
use Rattle.reader.specs.Deliver.{Table}
use Rattle.reader.specs.View.{state_of}
use Rattle.reader.specs.Calls.{step_in}
use Rattle.reader.specs.Handles.{reader_in, host_may_step, Left, left}
use Rattle.reader.specs.Running.{most_packets, SeenRun, seen_run, run_all, why_number, ran_to, run_host, HostRuns, run_taken_in, finished_in, why_in}
use Rattle.reader.proofs.Fits.{numbered-low}
use Rattle.reader.proofs.Steps.{may-handle, may-step}
use Rattle.reader.proofs.Back.{own-bytes}
use Rattle.reader.proofs.RunsBack.{WhyFits, RanBack, ran-back, run_fits}
use Rattle.demands.proofs.Astray.{run-keeps-before, not-standing}

-- a low byte of 20 says that 20 stopped the run
why-20 : (w : ceiling.Why) (finished taken : ℕ) → WhyFits w → (why_number w + finished * 65_536 + taken * 4_294_967_296) % 256 ≡ 20
    → w ≡ ceiling.Refused 20
unfolding why_number
why-20 ceiling.Ended finished taken f e = absurd (omega arith)
why-20 (ceiling.Refused n) finished taken f e =
    let z : n ≡ 20 = omega (arith, numbered-low n f) in
    ap ceiling.Refused z
why-20 ceiling.Ceiling finished taken f e = absurd (omega arith)
why-20 ceiling.More finished taken f e = absurd (omega arith)

module _ (handle : List ℕ) (memory : Memories) (piece : List ℕ) (b : Bytes handle) (p : Bytes piece) (may : host_may_step handle memory ≡ true) where
  abbrev st : State (Session Table)
  st = state_of (reader_in handle) memory

  abbrev run_of : ℕ → ceiling.Ran (Session Table)
  run_of n = run_by step_in n st piece

  -- a run with an allowed ceiling
  module _ (n : ℕ) (most : n ≤ most_packets) where
    all : run_all (reader_in handle) memory piece n ≡ seen_run (run_of n)
    unfolding run_all
    all = rw (may-step handle memory may, le-leb n most_packets most)

    why-fits : WhyFits (run_of n).why
    why-fits =
        subst (λ (x : SeenRun). WhyFits x.run.why) all (run_fits handle memory piece n (own-bytes handle (may-handle handle memory may) b) p).why

    back : RanBack (run_of n)
    back = ran-back (run_of n) why-fits (omega (arith, most, run-most step_in n st piece))

    ran : {a : ℕ} {handle' : List ℕ} {memory' : Memories} → HostRuns handle memory piece n a handle' memory'
        → left a handle' memory' ≡ ran_to (seen_run (run_of n)) (places_in handle)
    unfolding run_host
    ran h = h ∙ (rw (may-handle handle memory may, all))

  -- THEOREM: A RUN THAT IS STOPPED BY 20 KEEPS WHAT IT FINISHED BEFORE. The run whose ceiling is the number of packets that it finished takes the same
  -- bytes, stops at its ceiling, and leaves byte for byte the same handle, table and index. The handle may step, and the ceiling is allowed.
  pub run-astray : (n : ℕ) → n ≤ most_packets → (a : ℕ) (handle' : List ℕ) (memory' : Memories) → HostRuns handle memory piece n a handle' memory'
      → a % 256 ≡ 20 → (a₁ : ℕ) (handle₁ : List ℕ) (memory₁ : Memories) → HostRuns handle memory piece (finished_in a) a₁ handle₁ memory₁
      → (run_taken_in a₁ ≡ run_taken_in a) × (finished_in a₁ ≡ finished_in a) × (why_in a₁ ≡ ceiling.Ceiling) × (handle₁ ≡ handle') × (memory₁ ≡ memory')
  run-astray n most a handle' memory' h e a₁ handle₁ memory₁ h₁ =
      let q = run_of n in
      let one = ran n most h in
      let number = ap (λ (l : Left). l.number) one in
      let many : finished_in a ≡ q.finished = ap finished_in number ∙ (back n most).finished in
      let few : finished_in a ≤ most_packets = omega (arith, many, most, run-most step_in n st piece) in
      let reason : q.why ≡ ceiling.Refused 20
      = why-20 q.why q.finished q.taken (why-fits n most) (ap (λ (k : ℕ). k % 256) (sym number) ∙ e) in
      let kept : run_of (finished_in a) ≡ record { state = q.state; taken = q.taken; finished = q.finished; why = ceiling.Ceiling }
      = ap run_of many ∙ run-keeps-before n st piece reason (not-standing (reader_in handle) memory (may-step handle memory may)) in
      let two = ran (finished_in a) few h₁ in
      let there = back (finished_in a) few in
      let number₁ = ap (λ (l : Left). l.number) two in
      let same = two ∙ ap (λ (x : ceiling.Ran (Session Table)). ran_to (seen_run x) (places_in handle)) kept in (
        ap run_taken_in number₁ ∙ there.taken ∙ ap (λ (x : ceiling.Ran (Session Table)). x.taken) kept ∙ sym (ap run_taken_in number ∙ (back n most).taken),
        ap finished_in number₁ ∙ there.finished ∙ ap (λ (x : ceiling.Ran (Session Table)). x.finished) kept ∙ sym many,
        ap why_in number₁ ∙ there.why ∙ ap (λ (x : ceiling.Ran (Session Table)). x.why) kept,
        ap (λ (l : Left). l.handle) same ∙ sym (ap (λ (l : Left). l.handle) one),
        ap (λ (l : Left). l.memory) same ∙ sym (ap (λ (l : Left). l.memory) one),
      )
