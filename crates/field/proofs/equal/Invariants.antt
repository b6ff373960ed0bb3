-- `field::equal` meets its contract.
use mathlib.Core.Path.{◌≡◌}
use Rattle.field.specs.Bytes.{part, same}
use Rattle.field.proofs.equal.Given as goal

abbrev pub invariant-loop-k : goal.invariant-loop-k
invariant-loop-k l =
    l.same ≡ same (part l.a l.i l.k) (part l.b l.j l.k)
