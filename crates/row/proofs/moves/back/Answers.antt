-- `row::moves::back` meets its contract.
use borrow.Author.Rules.{rules}
use Rattle.row.proofs.Puts.{back-put}
use Rattle.row.proofs.moves.back.Goals as goal

pub returns : goal.returns
returns c = search (back-put, rules)
