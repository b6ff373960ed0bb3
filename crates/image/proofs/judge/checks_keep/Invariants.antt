-- `image::judge::checks_keep` meets its contract.
use mathlib.Core.Path.{◌≡◌}
use mathlib.Core.Bool.{true}
use Rattle.image.specs.Restore.{checks_keep}
use Rattle.image.proofs.judge.checks_keep.Given as goal

abbrev pub invariant-loop-k : goal.invariant-loop-k
invariant-loop-k l =
    checks_keep l.image l.k ≡ true
