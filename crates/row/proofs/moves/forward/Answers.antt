-- `row::moves::forward` meets its contract.
use borrow.Author.Rules.{rules}
use Rattle.row.proofs.Puts.{forward-put}
use Rattle.row.proofs.moves.forward.Goals as goal

pub returns : goal.returns
returns c = search (forward-put, rules)
