-- `row::wire::put_start` meets its contract.
use borrow.Author.Rules.{rules}
use Rattle.row.proofs.Wired.{start-carried}
use Rattle.row.proofs.wire.put_start.Goals as goal

pub returns : goal.returns
returns c = search (start-carried, rules)
