-- `row::wire::unchanged` meets its contract.
use borrow.Author.Rules.{rules}
use Rattle.row.proofs.Wired.{fixed-wired}
use Rattle.row.proofs.wire.unchanged.Goals as goal

pub returns : goal.returns
returns c = search (fixed-wired, rules)
