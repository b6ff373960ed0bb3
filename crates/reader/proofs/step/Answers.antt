-- `reader::step` meets its contract.
use borrow.Author.Rules.{rules}
use native.Mathlib.Omega.{arith}
use mathlib.Core.Path.{◌≡◌}
use mathlib.Core.Bool.{true}
use lib.ListN.{length}
use Rattle.field.specs.Bytes.{Bytes}
use Rattle.field.proofs.Numbers.{Lent, lent-bytes}
use Rattle.packet.proofs.Rules.{not-not-call}
use Rattle.handle.specs.Handle.{handle_size, is_handle}
use Rattle.handle.proofs.Rounds.{handle-length}
use Rattle.table.specs.Memory.{Memories, memories}
use Rattle.reader.specs.Handles.{host_within}
use Rattle.reader.proofs.Kept.{host-kept, may-unless-limits, may-unless-index, may-by, may-not}
use Rattle.reader.proofs.Back.{goes_on}
use Rattle.reader.proofs.Steps.{step-event, step-no-handle, step-unfit}
use mathlib.Core.Path.{ap}
use mathlib.Core.Bool.{not}
use Rattle.reader.proofs.step.Goals as goal

-- the bytes are a handle

-- and what its limits were found to be

pub returns-then-not-is_handle : goal.returns-then-not-is_handle
returns-then-not-is_handle c =
    let memory : Memories = memories c.args.table.now c.args.index.now in
    let lent : Lent c.args.handle.now = search (rules, c.slice_known-1) in
    let piece_bytes : Bytes c.args.piece.now = lent-bytes c.args.piece.now (search (rules, c.shared_slice_known-1)) in
    let steps = step-no-handle c.args.handle.now memory c.args.piece.now c.args.event.now c.is_handle.ensures (ap not c.if-not-is_handle.true) in record { host_steps = steps; goes_on = goes_on c.args.handle.now memory c.args.piece.now c.args.event.now c.args.handle.now memory c.args.event.now _ (lent-bytes c.args.handle.now lent) piece_bytes steps }

pub returns-then-event-ne-RECORD_SIZE : goal.returns-then-event-ne-RECORD_SIZE
returns-then-event-ne-RECORD_SIZE c =
    let memory : Memories = memories c.args.table.now c.args.index.now in
    let lent : Lent c.args.handle.now = search (rules, c.slice_known-1) in
    let piece_bytes : Bytes c.args.piece.now = lent-bytes c.args.piece.now (search (rules, c.shared_slice_known-1)) in
    let steps = step-event c.args.handle.now memory c.args.piece.now c.args.event.now c.if-event-ne-RECORD_SIZE.true in record { host_steps = steps; goes_on = goes_on c.args.handle.now memory c.args.piece.now c.args.event.now c.args.handle.now memory c.args.event.now _ (lent-bytes c.args.handle.now lent) piece_bytes steps }

pub returns-then-not-is_index : goal.returns-then-not-is_index
returns-then-not-is_index c =
    let memory : Memories = memories c.args.table.now c.args.index.now in
    let lent : Lent c.args.handle.now = search (rules, c.slice_known-1) in
    let piece_bytes : Bytes c.args.piece.now = lent-bytes c.args.piece.now (search (rules, c.shared_slice_known-1)) in
    let is : is_handle c.args.handle.now ≡ true = not-not-call _ _ c.is_handle.ensures (ap not c.if-not-is_handle.false) in
    let none = may-not c.args.handle.now memory is (may-unless-index c.args.handle.now memory c.is_index.ensures (ap not c.if-not-is_index.true)) in
    let steps = step-unfit c.args.handle.now memory c.args.piece.now c.args.event.now c.if-event-ne-RECORD_SIZE.false is lent none in record { host_steps = steps; goes_on = goes_on c.args.handle.now memory c.args.piece.now c.args.event.now c.args.handle.now memory c.args.event.now _ (lent-bytes c.args.handle.now lent) piece_bytes steps }

pub rows-rows-requires : goal.rows-rows-requires
rows-rows-requires c =
    let is : is_handle c.args.handle.now ≡ true = not-not-call _ _ c.is_handle.ensures (ap not c.if-not-is_handle.false) in
    let size : length c.args.handle.now ≡ handle_size = handle-length c.args.handle.now is in
    search (rules, size)

pub next-next-requires : goal.next-next-requires
next-next-requires c =
    let is : is_handle c.args.handle.now ≡ true = not-not-call _ _ c.is_handle.ensures (ap not c.if-not-is_handle.false) in
    let size : length c.args.handle.now ≡ handle_size = handle-length c.args.handle.now is in
    search (rules, size)

pub used-used-requires : goal.used-used-requires
used-used-requires c =
    let is : is_handle c.args.handle.now ≡ true = not-not-call _ _ c.is_handle.ensures (ap not c.if-not-is_handle.false) in
    let size : length c.args.handle.now ≡ handle_size = handle-length c.args.handle.now is in
    search (rules, size)

pub refusal-refusal-requires : goal.refusal-refusal-requires
refusal-refusal-requires c =
    let is : is_handle c.args.handle.now ≡ true = not-not-call _ _ c.is_handle.ensures (ap not c.if-not-is_handle.false) in
    let size : length c.args.handle.now ≡ handle_size = handle-length c.args.handle.now is in
    search (rules, size)

pub slice_bounds-keep-end : goal.slice_bounds-keep-end
slice_bounds-keep-end c =
    let is : is_handle c.args.handle.now ≡ true = not-not-call _ _ c.is_handle.ensures (ap not c.if-not-is_handle.false) in
    let size : length c.args.handle.now ≡ handle_size = handle-length c.args.handle.now is in
    omega (arith, size)

pub returns-then-not-keep : goal.returns-then-not-keep
returns-then-not-keep c =
    let memory : Memories = memories c.args.table.now c.args.index.now in
    let lent : Lent c.args.handle.now = search (rules, c.slice_known-1) in
    let piece_bytes : Bytes c.args.piece.now = lent-bytes c.args.piece.now (search (rules, c.shared_slice_known-1)) in
    let is : is_handle c.args.handle.now ≡ true = not-not-call _ _ c.is_handle.ensures (ap not c.if-not-is_handle.false) in
    let limits : (c.keep.result ≡ host_within c.args.handle.now c.args.table.now) = host-kept c.args.handle.now c.args.table.now c.is_handle.ensures c.rows-rows.result c.next-next.result c.used-used.result c.refusal-refusal.result (ap not c.if-not-is_handle.false) c.rows-rows.ensures c.next-next.ensures c.used-used.ensures c.refusal-refusal.ensures c.keep.ensures in
    let none = may-not c.args.handle.now memory is (may-unless-limits c.args.handle.now memory limits (ap not c.if-not-keep.true)) in
    let steps = step-unfit c.args.handle.now memory c.args.piece.now c.args.event.now c.if-event-ne-RECORD_SIZE.false is lent none in record { host_steps = steps; goes_on = goes_on c.args.handle.now memory c.args.piece.now c.args.event.now c.args.handle.now memory c.args.event.now _ (lent-bytes c.args.handle.now lent) piece_bytes steps }

pub moved-requires : goal.moved-requires
moved-requires c =
    let memory : Memories = memories c.args.table.now c.args.index.now in
    let limits : (c.keep.result ≡ host_within c.args.handle.now c.args.table.now) = host-kept c.args.handle.now c.args.table.now c.is_handle.ensures c.rows-rows.result c.next-next.result c.used-used.result c.refusal-refusal.result (ap not c.if-not-is_handle.false) c.rows-rows.ensures c.next-next.ensures c.used-used.ensures c.refusal-refusal.ensures c.keep.ensures in
    (may-by c.args.handle.now memory limits (ap not c.if-not-keep.false) c.is_index.ensures (ap not c.if-not-is_index.false), (c.if-event-ne-RECORD_SIZE.false, c.rows-rows.ensures))

pub returns : goal.returns
returns c =
    let memory : Memories = memories c.args.table.now c.args.index.now in
    let lent : Lent c.args.handle.now = search (rules, c.slice_known-1) in
    let piece_bytes : Bytes c.args.piece.now = lent-bytes c.args.piece.now (search (rules, c.shared_slice_known-1)) in
    let steps = c.moved.ensures in record { host_steps = steps; goes_on = goes_on c.args.handle.now memory c.args.piece.now c.args.event.now _ _ _ _ (lent-bytes c.args.handle.now lent) piece_bytes steps }
