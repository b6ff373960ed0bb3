-- The wrong libraries: a piece that a started handle answers, whatever step or run keeps the promise.
-- Assumes nothing.
use mathlib.Core.Path.{◌≡◌, refl, ap, ◌∙◌}
use mathlib.Core.List.{List, [], ◌∷◌}
use Prim.Native.Nat.{ℕ, zero, suc, ◌≤◌}
use native.Mathlib.Omega.{arith}
use lib.Dec.{lit<}
use lib.ListN.{length}
use Rattle.field.specs.Bytes.{value, Bytes}
use Rattle.packet.specs.Frame.{framed, frame}
use Rattle.packet.specs.Stream.{State, live, step_of, events_of}
use Rattle.packet.specs.Ceiling.{run_by, run_of}
use Rattle.packet.specs.Table.{packet_table, entry_of}
use Rattle.packet.specs.Line.{packet_of}
use Rattle.packet.specs.Session.{Session, heartbeat, soup_bin_tcp}
use Rattle.table.specs.Memory.{Memories}
use Rattle.record.specs.Places.{record_size}
use Rattle.reader.specs.Deliver.{Table, deliver}
use Rattle.reader.specs.Handles.{reader_in, taken_in, HostSteps}
use Rattle.reader.specs.Running.{most_packets, SeenRun, seen_run, run_all, HostRuns, run_taken_in, finished_in}
use Rattle.nelqubat.specs.Host.{HostStarts}
use Rattle.demands.specs.Sound.{begin}
use Rattle.hosts.specs.Events.{events_in}
use Rattle.hosts.proofs.Ceiling.{run-went, run_is}
use Rattle.hosts.proofs.Runs.{started, step_went}

abbrev beat : List ℕ
beat = 0x00 ∷ 0x01 ∷ 0x48 ∷ []

beat-bytes : Bytes beat
beat-bytes zero = lit< tt
beat-bytes (suc zero) = lit< tt
beat-bytes (suc (suc zero)) = lit< tt
beat-bytes (suc (suc (suc i))) = lit< tt

-- THEOREM: a heartbeat is told and its three bytes are counted, by the answer and event memory: so no step that answers 0 for ever, whatever it leaves in
-- event memory, keeps the promise
pub heartbeat-told : (hm : List ℕ) (tm : Memories) (a₀ : ℕ) (handle : List ℕ) (memory : Memories) → HostStarts hm tm a₀ handle memory → a₀ ≡ 0
    → (event : List ℕ) → length event ≡ record_size → (a : ℕ) (handle' : List ℕ) (memory' : Memories) (event' : List ℕ)
    → HostSteps handle memory beat event a handle' memory' event' → (taken_in a ≡ 3) × (events_in a event' ≡ heartbeat ∷ [])
unfolding step_of frame framed value soup_bin_tcp packet_of entry_of packet_table
heartbeat-told hm tm a₀ handle memory start ready event long a handle' memory' event' s =
    let f = started hm tm a₀ handle memory start ready in
    let w = step_went handle memory beat event f.ours beat-bytes a handle' memory' event' s long in (
      w.taken ∙ ap (λ (st : State (Session Table)). (step_of (soup_bin_tcp deliver) st beat).taken) f.state,
      w.events ∙ ap (λ (st : State (Session Table)). events_of (step_of (soup_bin_tcp deliver) st beat).answer) f.state,
    )

-- so too of a run of the definitions, with any ceiling from 1
beat-run : (n : ℕ) → 1 ≤ n → (let r = run_of (soup_bin_tcp deliver) n (live begin []) beat in (r.taken ≡ 3) × (r.finished ≡ 1))
unfolding run_by step_of frame framed value soup_bin_tcp packet_of entry_of packet_table
beat-run zero h = absurd (omega arith)
beat-run (suc zero) h = (refl, refl)
beat-run (suc (suc n)) h = (refl, refl)

-- THEOREM: with any ceiling from 1 to 1,000 the answer of a run counts the heartbeat's three bytes and one packet: so no run that answers 0 for ever keeps
-- the promise
pub heartbeat-run : (hm : List ℕ) (tm : Memories) (a₀ : ℕ) (handle : List ℕ) (memory : Memories) → HostStarts hm tm a₀ handle memory → a₀ ≡ 0
    → (n : ℕ) → 1 ≤ n → n ≤ most_packets → (a : ℕ) (handle' : List ℕ) (memory' : Memories) → HostRuns handle memory beat n a handle' memory'
    → (run_taken_in a ≡ 3) × (finished_in a ≡ 1)
heartbeat-run hm tm a₀ handle memory start ready n some most a handle' memory' s =
    let f = started hm tm a₀ handle memory start ready in
    let w = run-went handle memory beat n f.ours beat-bytes a handle' memory' s in
    let e : run_all (reader_in handle) memory beat n ≡ seen_run (run_of (soup_bin_tcp deliver) n (live begin []) beat)
    = run_is handle memory beat n f.ours beat-bytes a handle' memory' s most
    ∙ ap (λ (st : State (Session Table)). seen_run (run_of (soup_bin_tcp deliver) n st beat)) f.state in
    (w.taken ∙ ap (λ (q : SeenRun). q.run.taken) e ∙ (beat-run n some).0, w.finished ∙ ap (λ (q : SeenRun). q.run.finished) e ∙ (beat-run n some).1)
