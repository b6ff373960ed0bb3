-- `row::wire::put_new` meets its contract.
use borrow.Author.Rules.{rules}
use Rattle.row.proofs.Wired.{new-wired}
use Rattle.row.proofs.wire.put_new.Goals as goal

pub returns : goal.returns
returns c = search (new-wired, rules)
