-- `image::pages::blocks_for` meets its contract.
use mathlib.Core.Path.{refl}
use Rattle.image.specs.Shape.{pages_for, blocks_for}
use Rattle.image.proofs.pages.blocks_for.Goals as goal

pub returns : goal.returns
unfolding blocks_for pages_for
returns c = refl
