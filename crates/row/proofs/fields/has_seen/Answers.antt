-- `row::fields::has_seen` meets its contract.
use borrow.Author.Rules.{rules}
use Rattle.row.proofs.Puts.{bid-told, ask-told}
use Rattle.row.proofs.fields.has_seen.Goals as goal

pub returns-in-Bid : goal.returns-in-Bid
returns-in-Bid c = search (bid-told, rules)

pub returns-in-Ask : goal.returns-in-Ask
returns-in-Ask c = search (ask-told, rules)
