-- `image::facts::board_keeps` meets its contract.
use Rattle.image.proofs.Beside.{board-keeps}
use borrow.Author.Rules.{rules}
use Rattle.image.proofs.facts.board_keeps.Goals as goal

pub returns : goal.returns
returns c = search (board-keeps, rules)
