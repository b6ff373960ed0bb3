-- The wrong readers of document 01: two pieces that a fresh reader answers, whatever step or run keeps the promise.
-- Assumes nothing.
use mathlib.Core.Path.{◌≡◌, ap}
use mathlib.Core.List.{List, [], ◌∷◌}
use mathlib.Core.Bool.{true}
use Prim.Native.Nat.{ℕ, zero, suc, ◌≤◌}
use native.Mathlib.Omega.{arith}
use borrow.Author.Tests.{eq-eqb, le-leb}
use lib.ListN.{length}
use Rattle.field.specs.Bytes.{value}
use Rattle.packet.specs.Frame.{framed, frame}
use Rattle.packet.specs.Stream.{step_of}
use Rattle.packet.specs.Ceiling.{run_by}
use Rattle.packet.specs.Table.{packet_table, entry_of}
use Rattle.packet.specs.Line.{fresh_line, packet_of}
use Rattle.packet.specs.Session.{soup_bin_tcp}
use Rattle.table.specs.Memory.{table_size, Memories}
use Rattle.table.specs.Index.{index_size}
use Rattle.table.specs.Board.{fresh_board, fits}
use Rattle.reader.specs.Refusals.{standing, named_in, named}
use Rattle.reader.specs.View.{state_of, Seen, seen_of, seen, ready_of}
use Rattle.reader.specs.Limits.{unfinished, holds_unfinished, within_limits, may_step}
use Rattle.reader.specs.Calls.{step_in, step_all, Stepping}
use Rattle.reader.specs.Running.{most_packets, SeenRun, seen_run, seen_run_of, run_all, Running}
use Rattle.reader.specs.declared.Refusal.TheVariants as refusal
use Rattle.reader.specs.declared.Event.TheVariants as event
use Rattle.reader.specs.declared.StepAnswer.TheVariants as answer
use Rattle.reader.specs.declared.Reader.{Reader}
use Rattle.reader.specs.declared.Stepped.{Stepped}
use Rattle.reader.specs.declared.Ran.{Ran}
use Rattle.demands.proofs.Equal.{answer-is}

module _ (t : Memories) (long : length t.table ≡ table_size) (wide : length t.index ≡ index_size) where
  abbrev fresh : Reader
  fresh = ready_of fresh_line fresh_board

  fresh-may : may_step fresh t ≡ true
  unfolding may_step within_limits fits holds_unfinished unfinished frame standing
  fresh-may = rw (eq-eqb (length t.table) table_size long, eq-eqb (length t.index) index_size wide)

  fresh-steps : (piece : List ℕ) (s : Stepped) (t' : Memories) → Stepping fresh t piece s t' → seen_of s t' ≡ seen (step_in (state_of fresh t) piece)
  unfolding step_all
  fresh-steps piece s t' h = rw fresh-may at h

  fresh-runs : (piece : List ℕ) (n : ℕ) → n ≤ most_packets → (x : Ran) (t' : Memories) → Running fresh t piece n x t'
      → seen_run_of x t' ≡ seen_run (run_by step_in n (state_of fresh t) piece)
  unfolding run_all
  fresh-runs piece n most x t' h = rw (fresh-may, le-leb n most_packets most) at h

  -- THEOREM: a heartbeat is an event, and its three bytes are taken: so no step that refuses everything, or wants more for ever, keeps the promise
  pub heartbeat-told : (s : Stepped) (t' : Memories) → Stepping fresh t (0x00 ∷ 0x01 ∷ 0x48 ∷ []) s t'
      → (s.answer ≡ answer.Event event.Heartbeat) × (s.taken ≡ 3)
  unfolding step_in step_of frame framed value soup_bin_tcp packet_of entry_of packet_table
  heartbeat-told s t' h =
      let x = fresh-steps (0x00 ∷ 0x01 ∷ 0x48 ∷ []) s t' h in
      (answer-is s (ap (λ (q : Seen). q.step.answer) x), ap (λ (q : Seen). q.step.taken) x)

  -- THEOREM: a length of 0 is refused on its second byte: so no step with one fixed answer does
  pub zero-refused : (s : Stepped) (t' : Memories) → Stepping fresh t (0x00 ∷ 0x00 ∷ []) s t'
      → (s.answer ≡ answer.Refused refusal.BadPacketLength) × (s.taken ≡ 2)
  unfolding step_in step_of frame framed value named named_in
  zero-refused s t' h =
      let x = fresh-steps (0x00 ∷ 0x00 ∷ []) s t' h in
      (answer-is s (ap (λ (q : Seen). q.step.answer) x), ap (λ (q : Seen). q.step.taken) x)

  -- THEOREM: with any ceiling from 1 to 1,000 a run takes the heartbeat's three bytes and finishes one packet: so no run that takes nothing, or finishes
  -- none or more than there are, keeps the promise
  pub heartbeat-run : (n : ℕ) → 1 ≤ n → n ≤ most_packets → (x : Ran) (t' : Memories) → Running fresh t (0x00 ∷ 0x01 ∷ 0x48 ∷ []) n x t'
      → (x.taken ≡ 3) × (x.finished ≡ 1)
  unfolding run_by step_in step_of frame framed value soup_bin_tcp packet_of entry_of packet_table
  heartbeat-run zero some most x t' h = absurd (omega arith)
  heartbeat-run (suc zero) some most x t' h =
      let e = fresh-runs (0x00 ∷ 0x01 ∷ 0x48 ∷ []) 1 most x t' h in
      (ap (λ (q : SeenRun). q.run.taken) e, ap (λ (q : SeenRun). q.run.finished) e)
  heartbeat-run (suc (suc n)) some most x t' h =
      let e = fresh-runs (0x00 ∷ 0x01 ∷ 0x48 ∷ []) (suc (suc n)) most x t' h in
      (ap (λ (q : SeenRun). q.run.taken) e, ap (λ (q : SeenRun). q.run.finished) e)
