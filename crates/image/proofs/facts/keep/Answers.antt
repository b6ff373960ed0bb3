-- `image::facts::keep` meets its contract.
use Rattle.image.proofs.Beside.{header-keeps}
use Rattle.image.proofs.facts.keep.Goals as goal

pub returns : goal.returns
returns c = header-keeps c.args.h c.board_keeps.ensures c.is_fresh.ensures
