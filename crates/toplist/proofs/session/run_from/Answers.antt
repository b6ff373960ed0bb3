-- A run takes no more than is left of the piece.
use Rattle.std.proofs.Common.{arith}
use Rattle.table.specs.Memory.{memories}
use Rattle.toplist.proofs.Feeding.{run_ends}
use Rattle.toplist.proofs.session.run_from.Goals as goal

pub overflow_add-result : goal.overflow_add-result
overflow_add-result c =
    omega (arith, run_ends c.args.piece.now (memories c.args.table.now c.args.index.now) c.args.reached c.run-ran.result _ c.run-ran.ensures c.requires)
