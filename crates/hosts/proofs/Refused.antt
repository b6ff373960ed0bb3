-- DEMAND 1 FOR A HOST IN C: a step that is refused as 20, and a run that is refused itself, as 20 or 27, change no byte.
-- Assumes nothing.
use mathlib.Core.Path.{◌≡◌, refl, sym, ap, ◌∙◌}
use mathlib.Core.Bool.{Bool, true, false, ◌&&◌}
use mathlib.Core.List.{List}
use Prim.Native.Nat.{ℕ, ◌+◌, ◌*◌, ◌%◌, ◌<◌}
use native.Mathlib.Omega.{arith}
use lib.Dec.{eqb}
use lib.ListN.{length}
use Rattle.field.specs.Bytes.{Bytes}
use Rattle.field.proofs.Numbers.{Lent}
use Rattle.field.proofs.Bools.{both_right}
use Rattle.packet.specs.Stream as stream
use Rattle.packet.specs.Stream.{State}
use Rattle.packet.specs.Session.{Session}
use Rattle.table.specs.Memory.{Memories}
use Rattle.record.specs.Places.{record_size}
use Rattle.handle.specs.Handle.{is_handle, head_of, handle_bytes, places_in}
use Rattle.handle.specs.declared.Head.{Head}
use Rattle.reader.specs.Deliver.{Table}
use Rattle.reader.specs.View.{state_of, Seen, seen, no_text}
use Rattle.reader.specs.Limits.{may_step}
use Rattle.reader.specs.Calls.{unmoved, step_in, unfit, step_all, places_after}
use Rattle.reader.specs.Handles.{reader_in, host_may_step, told_number, told_memory, gone_to, moved_by, Stepped, host_stepped, stepped_as, step_host, HostSteps}
use Rattle.reader.specs.Running.{most_packets, HostRuns}
use Rattle.reader.specs.declared.Reader.{Reader}
use Rattle.reader.proofs.Kept.{may-within}
use Rattle.reader.proofs.Views.{head_in_lem, memory-in}
use Rattle.reader.proofs.Back.{own-bytes, all-fits}
use Rattle.reader.proofs.Delivered as delivered
use Rattle.reader.proofs.RunsBack.{run-unfit, run-high}
use Rattle.demands.proofs.Equal.{equal-host-steps, equal-host-runs}
use Rattle.demands.proofs.Refused.{heeded-unmoved}
use Rattle.hosts.proofs.Laid.{used-held}
use Rattle.hosts.proofs.Runs.{answer-20}

lent_of : (handle : List ℕ) → Bytes handle → Lent handle
lent_of handle b i = let g = b i in omega arith

-- ---- a step

module _ (handle : List ℕ) (memory : Memories) (piece event : List ℕ) (b : Bytes handle) (p : Bytes piece) where
  abbrev r : Reader
  r = reader_in handle

  abbrev st : State (Session Table)
  st = state_of r memory

  abbrev x : Seen
  x = step_all r memory piece

  -- bytes that are a handle, and event memory of its length
  module _ (fit : eqb (length event) record_size && is_handle handle ≡ true) where
    is : is_handle handle ≡ true
    is = both_right (eqb (length event) record_size) (is_handle handle) fit

    abbrev gone : Seen → Stepped
    gone y = stepped_as (gone_to y (places_after (places_in handle) (head_of handle).used piece y)) event

    goes : step_host handle memory piece event ≡ gone x
    unfolding step_host moved_by
    goes = rw fit

    -- a step that answers 20 is one that leaves all
    left-all : x.step.answer ≡ stream.Refused 20 → x ≡ unfit r memory
    unfolding step_all
    left-all e = by (may_step r memory) refl e
      where
        by : (y : Bool) → may_step r memory ≡ y → x.step.answer ≡ stream.Refused 20 → x ≡ unfit r memory
        by false m z = rw m
        by true m z =
            let moved : seen (step_in st piece) ≡ seen (unmoved st) = ap seen (heeded-unmoved st piece (rw m at z)) in
            (rw m) ∙ moved ∙ (λ i. record { step = unmoved st; used = sym (used-held handle memory is (may-within r memory m).start) i; texts = no_text })

    -- and the handle that it lays is the one that it was given
    laid-again : gone (unfit r memory) ≡ host_stepped 2068 handle memory event
    unfolding told_number told_memory
    laid-again =
        let h : handle_bytes (head_of handle) (places_in handle) ≡ handle = sym (delivered.own handle is (lent_of handle b)) in
        (λ i. host_stepped 2068 ((ap (λ (q : Head). handle_bytes q (places_in handle)) (head_in_lem r memory) ∙ h) i) (memory-in r memory i) event)

  -- THEOREM: WHICHEVER WAY 20 COMES OF A STEP, by event memory of another length, by bytes that are no handle, by a limit, by a length or by an index that
  -- leads astray, no byte is taken, and handle, table, index and event memory are byte for byte as they were given. The answer's kind is 8.
  pub step-20 : (a : ℕ) (handle' : List ℕ) (memory' : Memories) (event' : List ℕ) → HostSteps handle memory piece event a handle' memory' event'
      → a % 256 ≡ 20 → (a ≡ 8 * 256 + 20) × (handle' ≡ handle) × (memory' ≡ memory) × (event' ≡ event)
  unfolding step_host told_number
  step-20 a handle' memory' event' s e =
      equal-host-steps handle memory piece event a 2068 handle' event' handle event memory' memory s
      (by (eqb (length event) record_size && is_handle handle) refl)
    where
      by : (y : Bool) → eqb (length event) record_size && is_handle handle ≡ y → HostSteps handle memory piece event 2068 handle memory event
      by false f = rw f
      by true f =
          let number : a ≡ told_number x.step.answer + x.step.taken * 65_536 = ap (λ (q : Stepped). q.number) (s ∙ goes f) in
          let fits = (all-fits handle memory piece (own-bytes handle (is f) b) p).answer in
          let z : x.step.answer ≡ stream.Refused 20
          = answer-20 x.step.answer x.step.taken fits (ap (λ (n : ℕ). n % 256) (sym number) ∙ e) in
          sym (goes f ∙ ap (gone f) (left-all f z) ∙ laid-again f)

-- ---- a run

module _ (handle : List ℕ) (memory : Memories) (piece : List ℕ) (n a : ℕ) (handle' : List ℕ) (memory' : Memories) (b : Bytes handle)
    (h : HostRuns handle memory piece n a handle' memory') where
  -- the promise leaves one outcome only
  stays : {number : ℕ} → HostRuns handle memory piece n number handle memory → (a ≡ number) × (handle' ≡ handle) × (memory' ≡ memory)
  stays {number} k = equal-host-runs handle memory piece n a number handle' handle memory' memory h k

  -- THEOREM: 20, of bytes that are no handle or that break its limits, or of memory of another length, whatever the ceiling: so it comes before 27. The
  -- answer's kind is 8; no byte is taken and no packet finished.
  pub run-20 : host_may_step handle memory ≡ false → (a ≡ 8 * 256 + 20) × (handle' ≡ handle) × (memory' ≡ memory)
  run-20 e = stays (run-unfit handle memory piece n (lent_of handle b) e)

  -- THEOREM: 27, of a ceiling over 1,000
  pub run-27 : host_may_step handle memory ≡ true → most_packets < n → (a ≡ 8 * 256 + 27) × (handle' ≡ handle) × (memory' ≡ memory)
  run-27 e l = stays (run-high handle memory piece n (lent_of handle b) e l)
