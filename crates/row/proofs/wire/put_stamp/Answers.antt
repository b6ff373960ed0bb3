-- `row::wire::put_stamp` meets its contract.
use borrow.Author.Rules.{rules}
use Rattle.row.proofs.Wired.{stamp-carried}
use Rattle.row.proofs.wire.put_stamp.Goals as goal

pub returns : goal.returns
returns c = search (stamp-carried, rules)
