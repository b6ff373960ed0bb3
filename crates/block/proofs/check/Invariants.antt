-- `block::check` meets its contract.
use mathlib.Core.Path.{◌≡◌}
use Rattle.block.proofs.Columns.{summed}
use Rattle.block.proofs.check.Given as goal

abbrev pub invariant-loop-i : goal.invariant-loop-i
invariant-loop-i l = l.sum ≡ summed l.s l.at l.i
