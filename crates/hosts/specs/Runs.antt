-- Any host in C: its calls one after the other, each known by its promise only, and read by the bytes that the host sees.
-- Assumes nothing.
use Rattle.std.specs.Prelude.{ℕ, ◌≡◌, true, ◌⊎◌, List, [], ◌++◌, take, drop}
use Rattle.packet.specs.Session.{Event}
use Rattle.table.specs.Memory.{Memories}
use Rattle.handle.specs.Handle.{head_of}
use Rattle.reader.specs.Deliver.{Said}
use Rattle.reader.specs.Handles.{taken_in, HostSteps}
use Rattle.reader.specs.Running.{HostRuns, run_taken_in}
use Rattle.hosts.specs.Events.{events_in, events_over}

-- ---- CALLS
-- `HostCalls handle memory bs es handle' memory' rest`: of the bytes `bs`, given to a handle by steps and runs, `rest` are still to be given; the host was
-- told `es`, and the handle, the table and its index were left so. A call is given as many as the host likes of the bytes that come next; a step any event
-- memory, and a run any ceiling. The next call begins as many bytes on as the answer says. A step tells its event by its answer and event memory. A run
-- stands for the events of the reading of the bytes that it takes: its answer says how many they are (`run-counts` in proofs/Ceiling). Handle, table and
-- index are handed on untouched. Nothing else is asked: that no step with event memory of its length, and no run with a ceiling up to 1,000, is refused as
-- 20 is proved of what our own calls made.
pub data HostCalls : List ℕ → Memories → List ℕ → List (Event Said) → List ℕ → Memories → List ℕ → Type 0 where
  stop : {handle bs : List ℕ} {memory : Memories} → HostCalls handle memory bs [] handle memory bs
  step : {handle handle'' rest : List ℕ} {memory memory'' : Memories} {es : List (Event Said)} (piece more event : List ℕ) (a : ℕ) (handle' : List ℕ)
      (memory' : Memories) (event' : List ℕ)
      → HostSteps handle memory piece event a handle' memory' event'
      → HostCalls handle' memory' (drop (taken_in a) piece ++ more) es handle'' memory'' rest
      → HostCalls handle memory (piece ++ more) (events_in a event' ++ es) handle'' memory'' rest
  run : {handle handle'' rest : List ℕ} {memory memory'' : Memories} {es : List (Event Said)} (piece more : List ℕ) (n a : ℕ) (handle' : List ℕ)
      (memory' : Memories)
      → HostRuns handle memory piece n a handle' memory'
      → HostCalls handle' memory' (drop (run_taken_in a) piece ++ more) es handle'' memory'' rest
      → HostCalls handle memory (piece ++ more) (events_over handle memory (take (run_taken_in a) piece) ++ es) handle'' memory'' rest

-- no call is left to make: every byte was taken, or the handle's own bytes say that it has ended or refused, as an answer of kind 7 or 8 does where it is
-- not refusal 20 or 27
abbrev pub HostDone : List ℕ → List ℕ → Type 0
HostDone handle rest = (rest ≡ []) ⊎ (((head_of handle).ended ≡ true) ⊎ ((head_of handle).refusal ≡ 0 → ⊥))
