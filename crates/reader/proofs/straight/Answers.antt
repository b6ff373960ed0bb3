-- `reader::straight` meets its contract.
use borrow.Author.Rules.{rules}
use native.Mathlib.Omega.{arith}
use mathlib.Core.Path.{◌≡◌, refl}
use lib.ListN.{length}
use Rattle.field.proofs.Numbers.{Lent}
use Rattle.packet.proofs.Frame.{WholeAt, whole-there}
use Rattle.handle.specs.Handle.{handle_size}
use Rattle.handle.proofs.Rounds.{handle-length}
use Rattle.table.specs.Memory.{Memories, memories}
use Rattle.reader.proofs.Steps.{short-room, straight-short, straight-bad, straight-whole}
use Rattle.reader.proofs.straight.Goals as goal

pub copy-requires : goal.copy-requires
copy-requires c =
    let size : length c.args.handle.now ≡ handle_size = handle-length c.args.handle.now c.requires.0.going.handle-is in
    (search rules, omega (arith, short-room c.args.piece.now c.front.ensures c.in-Short.is, size))

pub put_used-requires : goal.put_used-requires
put_used-requires c =
    let size : length c.args.handle.now ≡ handle_size = handle-length c.args.handle.now c.requires.0.going.handle-is in
    search (rules, size)

pub overflow_cast-result : goal.overflow_cast-result
overflow_cast-result c = omega (arith, short-room c.args.piece.now c.front.ensures c.in-Short.is)

pub overflow_mul-result : goal.overflow_mul-result
overflow_mul-result c = omega (arith, short-room c.args.piece.now c.front.ensures c.in-Short.is)

pub refuse-requires : goal.refuse-requires
refuse-requires c =
    let size : length c.args.handle.now ≡ handle_size = handle-length c.args.handle.now c.requires.0.going.handle-is in
    search (rules, size)

pub overflow_add-end : goal.overflow_add-end
overflow_add-end c =
    let is_whole : WholeAt c.args.piece.now c.in-Whole.size = whole-there c.args.piece.now c.front.ensures c.in-Whole.is in
    omega (arith, is_whole.high)

pub bounds-piece-2 : goal.bounds-piece-2
bounds-piece-2 c =
    let is_whole : WholeAt c.args.piece.now c.in-Whole.size = whole-there c.args.piece.now c.front.ensures c.in-Whole.is in
    let w = is_whole in omega (arith, w.low, w.there)

pub slice_bounds-act-count : goal.slice_bounds-act-count
slice_bounds-act-count c =
    let is_whole : WholeAt c.args.piece.now c.in-Whole.size = whole-there c.args.piece.now c.front.ensures c.in-Whole.is in
    omega (arith, is_whole.low)

pub slice_bounds-act-start : goal.slice_bounds-act-start
slice_bounds-act-start c =
    let is_whole : WholeAt c.args.piece.now c.in-Whole.size = whole-there c.args.piece.now c.front.ensures c.in-Whole.is in
    let w = is_whole in omega (arith, w.low, w.there)

pub slice_bounds-act-end : goal.slice_bounds-act-end
slice_bounds-act-end c =
    let is_whole : WholeAt c.args.piece.now c.in-Whole.size = whole-there c.args.piece.now c.front.ensures c.in-Whole.is in
    let w = is_whole in omega (arith, w.low, w.there)

pub overflow_cast-result-in-Whole : goal.overflow_cast-result-in-Whole
overflow_cast-result-in-Whole c =
    let is_whole : WholeAt c.args.piece.now c.in-Whole.size = whole-there c.args.piece.now c.front.ensures c.in-Whole.is in
    omega (arith, is_whole.high)

pub overflow_mul-result-in-Whole : goal.overflow_mul-result-in-Whole
overflow_mul-result-in-Whole c =
    let is_whole : WholeAt c.args.piece.now c.in-Whole.size = whole-there c.args.piece.now c.front.ensures c.in-Whole.is in
    omega (arith, is_whole.high)

pub overflow_add-result-in-Whole : goal.overflow_add-result-in-Whole
overflow_add-result-in-Whole c =
    let is_whole : WholeAt c.args.piece.now c.in-Whole.size = whole-there c.args.piece.now c.front.ensures c.in-Whole.is in
    omega (arith, is_whole.high, c.act.ensures.low_half)

pub returns-in-Short : goal.returns-in-Short
returns-in-Short c =
    let memory : Memories = memories c.args.table.now c.args.index.now in
    let lent : Lent c.args.handle.now = search (rules, c.slice_known-1) in
    straight-short c.args.handle.now memory c.requires.0 lent c.args.piece.now c.front.ensures c.in-Short.is c.copy.ensures c.put_used.ensures

pub returns-in-BadLength : goal.returns-in-BadLength
returns-in-BadLength c =
    let memory : Memories = memories c.args.table.now c.args.index.now in
    let lent : Lent c.args.handle.now = search (rules, c.slice_known-1) in
    straight-bad c.args.handle.now memory c.requires.0 lent c.args.piece.now c.front.ensures c.in-BadLength.is c.from.ensures c.refuse.ensures.value c.refuse.ensures.handle_after

pub returns-in-Whole : goal.returns-in-Whole
returns-in-Whole c =
    let memory : Memories = memories c.args.table.now c.args.index.now in
    let lent : Lent c.args.handle.now = search (rules, c.slice_known-1) in
    straight-whole c.args.handle.now memory c.requires.0 lent c.args.piece.now c.front.ensures c.in-Whole.size c.in-Whole.is c.act.ensures.closes
