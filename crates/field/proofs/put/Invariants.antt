-- `field::put` meets its contract.
use Rattle.std.proofs.Common.{◌≡◌}
use Rattle.field.specs.Bytes.{part, overlay}
use Rattle.field.proofs.put.Given as goal

abbrev pub invariant-loop-k : goal.invariant-loop-k
invariant-loop-k g l = l.dst ≡ overlay l.initial.dst l.at (part l.from 0 l.k)
