-- `field::decimal::digit_count` meets its contract. What is left has as many digits as are not counted yet, and one more.
use mathlib.Core.Path.{◌≡◌}
use Prim.Native.Nat.{◌+◌, ◌≤◌}
use Rattle.field.specs.Decimal.{digit_count}
use Rattle.field.proofs.decimal.digit_count.Given as goal

abbrev pub invariant-loop-rest : goal.invariant-loop-rest
invariant-loop-rest l = (digit_count l.v ≤ 20) × (l.k + digit_count l.rest ≡ digit_count l.v + 1) × (1 ≤ digit_count l.rest)

abbrev pub decreases-loop-rest : goal.decreases-loop-rest
decreases-loop-rest l = l.rest
