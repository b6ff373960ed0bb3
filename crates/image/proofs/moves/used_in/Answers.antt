-- `image::moves::used_in` meets its contract.
use Rattle.image.proofs.Writes.{used-four, used-left}
use borrow.Author.Rules.{rules}
use Rattle.image.proofs.moves.used_in.Goals as goal

pub returns-then-left-ge-PAGE_ROWS : goal.returns-then-left-ge-PAGE_ROWS
returns-then-left-ge-PAGE_ROWS c = search (used-four, rules)

pub returns : goal.returns
returns c = search (used-left, rules)
