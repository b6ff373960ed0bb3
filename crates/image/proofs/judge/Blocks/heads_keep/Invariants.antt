-- `image::judge::Blocks::heads_keep` meets its contract.
use mathlib.Core.Path.{◌≡◌}
use mathlib.Core.Bool.{true}
use Rattle.image.specs.Shape.{all_below}
use Rattle.image.specs.Restore.{head_keeps}
use Rattle.image.proofs.judge.Blocks.heads_keep.Given as goal

abbrev pub invariant-loop-k : goal.invariant-loop-k
invariant-loop-k l =
    all_below (head_keeps l.self.image.now l.self.count l.self.header) l.k ≡ true
