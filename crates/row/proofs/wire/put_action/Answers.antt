-- `row::wire::put_action` meets its contract.
use borrow.Author.Rules.{rules}
use Rattle.row.proofs.Wired.{action-wired}
use Rattle.row.proofs.wire.put_action.Goals as goal

pub returns : goal.returns
returns c = search (action-wired, rules)
