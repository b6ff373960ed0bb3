-- `row::wire::put_entry` meets its contract.
use borrow.Author.Rules.{rules}
use Rattle.row.proofs.Wired.{entry-carried}
use Rattle.row.proofs.wire.put_entry.Goals as goal

pub returns : goal.returns
returns c = search (entry-carried, rules)
