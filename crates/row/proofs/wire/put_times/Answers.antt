-- `row::wire::put_times` meets its contract.
use borrow.Author.Rules.{rules}
use Rattle.row.proofs.Wired.{times-carried}
use Rattle.row.proofs.wire.put_times.Goals as goal

pub returns : goal.returns
returns c = search (times-carried, rules)
