-- `field::decimal::write_digits` meets its contract. The digits from i on are written, and `rest` has those before them.
use mathlib.Core.Path.{◌≡◌}
use Prim.Native.Nat.{◌+◌, ◌-◌, ◌/◌, ◌^◌}
use Rattle.field.specs.Bytes.{overlay}
use Rattle.field.specs.Decimal.{digit_chars}
use Rattle.field.proofs.decimal.write_digits.Given as goal

abbrev pub invariant-loop-i : goal.invariant-loop-i
invariant-loop-i l =
    (l.rest ≡ l.v / 10 ^ (l.n - l.i)) × (l.out ≡ overlay l.initial.out (l.at + l.i) (digit_chars (l.n - l.i) l.v))
