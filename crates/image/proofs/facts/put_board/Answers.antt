-- `image::facts::put_board` meets its contract.
use Rattle.image.proofs.Beside.{board-put}
use Rattle.image.proofs.facts.put_board.Goals as goal

pub returns : goal.returns
returns c = search board-put
