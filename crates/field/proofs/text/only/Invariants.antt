-- `field::text::only` meets its contract.
use mathlib.Core.Path.{◌≡◌}
use Rattle.field.specs.Bytes.{part}
use Rattle.field.specs.Text.{every, within}
use Rattle.field.proofs.text.only.Given as goal

abbrev pub invariant-loop-k : goal.invariant-loop-k
invariant-loop-k l =
    l.same ≡ every (within l.byte l.byte) (part l.s l.at l.k)
