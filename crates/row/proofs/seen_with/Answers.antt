-- `row::seen_with` meets its contract.
use borrow.Author.Rules.{rules}
use Rattle.row.proofs.Puts.{bid-there, bid-added, ask-there, ask-added}
use Rattle.row.proofs.seen_with.Goals as goal

pub returns-then-sides-eq1 : goal.returns-then-sides-eq1
returns-then-sides-eq1 c = search (bid-there, rules)

pub returns-then-sides-eq1-2 : goal.returns-then-sides-eq1-2
returns-then-sides-eq1-2 c = search (ask-there, rules)

pub returns-else-sides-eq1 : goal.returns-else-sides-eq1
returns-else-sides-eq1 c = search (bid-added, rules)

pub returns-else-sides-eq1-2 : goal.returns-else-sides-eq1-2
returns-else-sides-eq1-2 c = search (ask-added, rules)
