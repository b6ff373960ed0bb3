-- `nelqubat::nelqubat_line` meets its contract.
use Rattle.nelqubat.proofs.Ways.{within-handle, line-unfit, line-goes}
use mathlib.Core.Path.{ap}
use mathlib.Core.Bool.{not}
use Rattle.nelqubat.proofs.nelqubat_line.Goals as goal

pub returns-then-not-within_limits : goal.returns-then-not-within_limits
returns-then-not-within_limits c = search line-unfit

pub read_head-head-requires : goal.read_head-head-requires
read_head-head-requires c = search within-handle

pub returns : goal.returns
returns c =
    line-goes c.args.handle.now c.args.table.now c.within_limits.ensures c.args.k c.args.out.now (ap not c.if-not-within_limits.false) c.read_head-head.result c.read_head-head.ensures c.ending_for-ending.result c.line-text.result _ c.ending_for-ending.ensures c.line-text.ensures.0 c.put_shown.ensures
