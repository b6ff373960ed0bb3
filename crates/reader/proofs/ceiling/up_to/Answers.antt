-- `reader::ceiling::up_to` meets its contract.
use borrow.Author.Rules.{rules}
use native.Mathlib.Omega.{arith}
use Rattle.field.specs.Bytes.{Bytes}
use Rattle.field.proofs.Numbers.{lent-bytes}
use Rattle.handle.proofs.Rounds.{handle-length}
use Rattle.table.specs.Memory.{Memories, memories}
use Rattle.reader.proofs.Steps.{may-handle}
use Rattle.reader.proofs.Runs.{along-begins, along-on, turn-room, stop-low, run-halts, run_ends, end_low}
use mathlib.Core.Path.{ap}
use mathlib.Core.Bool.{not}
use Rattle.reader.proofs.ceiling.up_to.Goals as goal

pub loop-finished-init : goal.loop-finished-init
loop-finished-init c =
    let memory : Memories = memories c.args.table.now c.args.index.now in
    (along-begins c.args.ceiling c.args.handle.now memory c.args.piece.now c.requires.0, search (rules, c.slice_known-1))

pub slice_bounds-turned-count : goal.slice_bounds-turned-count
slice_bounds-turned-count c = c.loop-finished.invariant.0.there

pub slice_bounds-turned-start : goal.slice_bounds-turned-start
slice_bounds-turned-start c = omega (arith, c.loop-finished.invariant.0.there)

pub slice_bounds-turned-end : goal.slice_bounds-turned-end
slice_bounds-turned-end c = omega (arith, c.loop-finished.invariant.0.there)

pub turned-number-requires : goal.turned-number-requires
turned-number-requires c = c.loop-finished.invariant.0.within

pub overflow_add-taken : goal.overflow_add-taken
overflow_add-taken c =
    let memory : Memories = memories c.args.table.now c.args.index.now in
    let piece_bytes : Bytes c.args.piece.now = lent-bytes c.args.piece.now (search (rules, c.shared_slice_known-1)) in
    let loop = c.loop-finished in
    omega (arith, turn-room c.args.ceiling c.args.handle.now memory c.args.piece.now loop.handle (memories loop.table loop.index) loop.taken loop.finished loop.invariant.0 (lent-bytes loop.handle loop.invariant.1) piece_bytes c.loop-finished-test.true c.turned-number.ensures, loop.invariant.0.few, c.requires.1)

pub answer-requires : goal.answer-requires
answer-requires c =
    let memory : Memories = memories c.args.table.now c.args.index.now in
    let piece_bytes : Bytes c.args.piece.now = lent-bytes c.args.piece.now (search (rules, c.shared_slice_known-1)) in
    let loop = c.loop-finished in
    (stop-low c.args.ceiling c.args.handle.now memory c.args.piece.now loop.handle (memories loop.table loop.index) loop.taken loop.finished loop.invariant.0 (lent-bytes loop.handle loop.invariant.1) piece_bytes c.loop-finished-test.true c.turned-number.ensures c.is_event.ensures (ap not c.if-not-is_event.true), (omega (arith, loop.invariant.0.few, c.requires.1), omega (arith, turn-room c.args.ceiling c.args.handle.now memory c.args.piece.now loop.handle (memories loop.table loop.index) loop.taken loop.finished loop.invariant.0 (lent-bytes loop.handle loop.invariant.1) piece_bytes c.loop-finished-test.true c.turned-number.ensures, loop.invariant.0.few, c.requires.1)))

pub returns-then-not-is_event : goal.returns-then-not-is_event
returns-then-not-is_event c =
    let memory : Memories = memories c.args.table.now c.args.index.now in
    let piece_bytes : Bytes c.args.piece.now = lent-bytes c.args.piece.now (search (rules, c.shared_slice_known-1)) in
    let loop = c.loop-finished in
    run-halts c.args.ceiling c.args.handle.now memory c.args.piece.now loop.handle (memories loop.table loop.index) loop.taken loop.finished loop.invariant.0 (lent-bytes loop.handle loop.invariant.1) piece_bytes c.loop-finished-test.true c.turned-number.ensures c.is_event.ensures (ap not c.if-not-is_event.true) c.answer.ensures

pub loop-finished-preserved : goal.loop-finished-preserved
loop-finished-preserved c =
    let memory : Memories = memories c.args.table.now c.args.index.now in
    let piece_bytes : Bytes c.args.piece.now = lent-bytes c.args.piece.now (search (rules, c.shared_slice_known-1)) in
    let loop = c.loop-finished in
    (along-on c.args.ceiling c.args.handle.now memory c.args.piece.now loop.handle (memories loop.table loop.index) loop.taken loop.finished loop.invariant.0 (lent-bytes loop.handle loop.invariant.1) piece_bytes c.loop-finished-test.true c.turned-number.ensures c.is_event.ensures (ap not c.if-not-is_event.false) (search rules) (search rules), search (rules, c.slice_known-in-loop-finished-1))

pub why_stopped-requires : goal.why_stopped-requires
why_stopped-requires c =
    let loop = c.loop-finished in
    search (rules, handle-length loop.handle (may-handle loop.handle (memories loop.table loop.index) loop.invariant.0.within))

pub answer-requires-2 : goal.answer-requires-2
answer-requires-2 c =
    let memory : Memories = memories c.args.table.now c.args.index.now in
    let loop = c.loop-finished in
    (end_low c.args.ceiling c.args.handle.now memory c.args.piece.now loop.handle (memories loop.table loop.index) loop.taken loop.finished loop.invariant.0 loop.invariant.1 c.loop-finished-test.false c.why_stopped.ensures, (omega (arith, loop.invariant.0.few, c.requires.1), omega (arith, loop.invariant.0.room, loop.invariant.0.few, c.requires.1)))

pub returns : goal.returns
returns c =
    let memory : Memories = memories c.args.table.now c.args.index.now in
    let loop = c.loop-finished in
    run_ends c.args.ceiling c.args.handle.now memory c.args.piece.now loop.handle (memories loop.table loop.index) loop.taken loop.finished loop.invariant.0 loop.invariant.1 c.loop-finished-test.false c.why_stopped.ensures c.answer-2.ensures
