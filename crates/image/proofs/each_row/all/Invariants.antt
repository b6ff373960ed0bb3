-- `image::each_row::all` meets its contract.
use mathlib.Core.Path.{◌≡◌}
use Rattle.table.specs.Memory.{each_row}
use Rattle.image.specs.Moves.{along}
use Rattle.image.proofs.each_row.all.Given as goal

abbrev pub invariant-loop-k : goal.invariant-loop-k
invariant-loop-k l =
    l.table ≡ each_row (along l.way) l.k l.initial.table
