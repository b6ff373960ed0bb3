-- `image::judge::length_keeps` meets its contract.
use mathlib.Core.Path.{refl}
use Rattle.image.specs.Restore.{length_keeps}
use Rattle.image.proofs.judge.length_keeps.Goals as goal

pub returns : goal.returns
unfolding length_keeps
returns c = refl
