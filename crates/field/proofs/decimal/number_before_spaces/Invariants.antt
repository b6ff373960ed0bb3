-- `field::decimal::number_before_spaces` meets its contract. The first k characters are digits, and v is what they write.
use mathlib.Core.Path.{◌≡◌}
use mathlib.Core.Bool.{true}
use Prim.Native.Nat.{◌≤◌}
use Rattle.field.specs.Bytes.{part}
use Rattle.field.specs.Limits.{highest_number}
use Rattle.field.specs.Text.{every, is_digit}
use Rattle.field.specs.Decimal.{decimal}
use Rattle.field.proofs.decimal.number_before_spaces.Given as goal

abbrev pub invariant-loop-k : goal.invariant-loop-k
invariant-loop-k l =
    (l.v ≤ highest_number) × (l.v ≡ decimal (part l.s l.at l.k)) × (every is_digit (part l.s l.at l.k) ≡ true)
