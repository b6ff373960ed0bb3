-- `field::fill` meets its contract.
use mathlib.Core.Path.{◌≡◌}
use lib.ListN.{replicate}
use Rattle.field.specs.Bytes.{overlay}
use Rattle.field.proofs.fill.Given as goal

abbrev pub invariant-loop-filled : goal.invariant-loop-filled
invariant-loop-filled l =
    l.dst ≡ overlay l.initial.dst l.at (replicate l.filled l.byte)
