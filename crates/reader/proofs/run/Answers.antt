-- `reader::run` meets its contract.
use borrow.Author.Rules.{rules}
use Rattle.field.specs.Bytes.{Bytes}
use Rattle.field.proofs.Numbers.{Lent, lent-bytes}
use Rattle.table.specs.Memory.{Memories, memories}
use Rattle.reader.proofs.Kept.{may-unless-limits, may-unless-index, may-by}
use Rattle.reader.proofs.RunsBack.{runs_on, run-unfit, run-high, run-allowed}
use mathlib.Core.Path.{ap}
use mathlib.Core.Bool.{not}
use Rattle.reader.proofs.run.Goals as goal

pub returns-then-not-within_limits : goal.returns-then-not-within_limits
returns-then-not-within_limits c =
    let memory : Memories = memories c.args.table.now c.args.index.now in
    let lent : Lent c.args.handle.now = search (rules, c.slice_known-1) in
    let piece_bytes : Bytes c.args.piece.now = lent-bytes c.args.piece.now (search (rules, c.shared_slice_known-1)) in
    let h = run-unfit c.args.handle.now memory c.args.piece.now c.args.ceiling lent (may-unless-limits c.args.handle.now memory c.within_limits.ensures (ap not c.if-not-within_limits.true)) in record { host_runs = h; runs_on = runs_on c.args.handle.now memory c.args.piece.now _ _ c.args.ceiling _ (lent-bytes c.args.handle.now lent) piece_bytes h }

pub returns-then-not-is_index : goal.returns-then-not-is_index
returns-then-not-is_index c =
    let memory : Memories = memories c.args.table.now c.args.index.now in
    let lent : Lent c.args.handle.now = search (rules, c.slice_known-1) in
    let piece_bytes : Bytes c.args.piece.now = lent-bytes c.args.piece.now (search (rules, c.shared_slice_known-1)) in
    let h = run-unfit c.args.handle.now memory c.args.piece.now c.args.ceiling lent (may-unless-index c.args.handle.now memory c.is_index.ensures (ap not c.if-not-is_index.true)) in record { host_runs = h; runs_on = runs_on c.args.handle.now memory c.args.piece.now _ _ c.args.ceiling _ (lent-bytes c.args.handle.now lent) piece_bytes h }

pub returns-then-ceiling-gt-MOST_PACKETS : goal.returns-then-ceiling-gt-MOST_PACKETS
returns-then-ceiling-gt-MOST_PACKETS c =
    let memory : Memories = memories c.args.table.now c.args.index.now in
    let lent : Lent c.args.handle.now = search (rules, c.slice_known-1) in
    let piece_bytes : Bytes c.args.piece.now = lent-bytes c.args.piece.now (search (rules, c.shared_slice_known-1)) in
    let h = run-high c.args.handle.now memory c.args.piece.now c.args.ceiling lent (may-by c.args.handle.now memory c.within_limits.ensures (ap not c.if-not-within_limits.false) c.is_index.ensures (ap not c.if-not-is_index.false)) c.if-ceiling-gt-MOST_PACKETS.true in record { host_runs = h; runs_on = runs_on c.args.handle.now memory c.args.piece.now _ _ c.args.ceiling _ (lent-bytes c.args.handle.now lent) piece_bytes h }

pub up_to-requires : goal.up_to-requires
up_to-requires c =
    let memory : Memories = memories c.args.table.now c.args.index.now in
    ((may-by c.args.handle.now memory c.within_limits.ensures (ap not c.if-not-within_limits.false) c.is_index.ensures (ap not c.if-not-is_index.false)), c.if-ceiling-gt-MOST_PACKETS.false)

pub returns : goal.returns
returns c =
    let memory : Memories = memories c.args.table.now c.args.index.now in
    let lent : Lent c.args.handle.now = search (rules, c.slice_known-1) in
    let piece_bytes : Bytes c.args.piece.now = lent-bytes c.args.piece.now (search (rules, c.shared_slice_known-1)) in
    let h = run-allowed c.args.handle.now memory c.args.piece.now c.args.ceiling lent (may-by c.args.handle.now memory c.within_limits.ensures (ap not c.if-not-within_limits.false) c.is_index.ensures (ap not c.if-not-is_index.false)) c.if-ceiling-gt-MOST_PACKETS.false c.up_to.ensures in record { host_runs = h; runs_on = runs_on c.args.handle.now memory c.args.piece.now _ _ c.args.ceiling _ (lent-bytes c.args.handle.now lent) piece_bytes h }
