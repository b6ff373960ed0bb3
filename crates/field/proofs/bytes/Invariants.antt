-- `field::bytes` meets its contract.
use Rattle.std.proofs.Common.{◌≡◌}
use Rattle.field.specs.Bytes.{part, overlay}
use Rattle.field.proofs.bytes.Given as goal

abbrev pub invariant-loop-k : goal.invariant-loop-k
invariant-loop-k g l = l.out ≡ overlay l.initial.out 0 (part l.s l.at l.k)
