-- `field::copy` meets its contract.
use mathlib.Core.Path.{◌≡◌}
use Rattle.field.specs.Bytes.{part, overlay}
use Rattle.field.proofs.copy.Given as goal

abbrev pub invariant-loop-copied : goal.invariant-loop-copied
invariant-loop-copied l =
    l.dst ≡ overlay l.initial.dst l.at (part l.src l.from l.copied)
