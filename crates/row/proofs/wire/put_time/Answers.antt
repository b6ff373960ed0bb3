-- `row::wire::put_time` meets its contract.
use borrow.Author.Rules.{rules}
use Rattle.row.proofs.Wired.{time-carried}
use Rattle.row.proofs.wire.put_time.Goals as goal

pub returns : goal.returns
returns c = search (time-carried, rules)
