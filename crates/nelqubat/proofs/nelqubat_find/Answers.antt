-- `nelqubat::nelqubat_find` meets its contract.
use Rattle.nelqubat.proofs.Ways.{within-handle, within-rows, within-index, find-unfit, find-no-index, found-fits, find-goes}
use mathlib.Core.Path.{ap}
use mathlib.Core.Bool.{not}
use Rattle.nelqubat.proofs.nelqubat_find.Goals as goal

pub returns-then-not-within_limits : goal.returns-then-not-within_limits
returns-then-not-within_limits c = search find-unfit

pub returns-then-not-is_index : goal.returns-then-not-is_index
returns-then-not-is_index c = search find-no-index

pub read_head-head-requires : goal.read_head-head-requires
read_head-head-requires c = search within-handle

pub find-requires : goal.find-requires
find-requires c = (
  within-index c.args.handle.now c.args.table.now c.args.index.now c.within_limits.ensures (ap not c.if-not-within_limits.false) c.is_index.ensures (ap not c.if-not-is_index.false) c.read_head-head.result c.read_head-head.ensures,
  search within-rows,
)

pub found_number-requires : goal.found_number-requires
found_number-requires c = search found-fits

pub returns : goal.returns
returns c = search find-goes
