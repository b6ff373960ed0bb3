-- `row::takes_quote` meets its contract.
use mathlib.Core.Path.{ap}
use lib.Dec.{eqb}
use borrow.Author.Rules.{rules}
use Rattle.row.proofs.Puts.{state-allows}
use Rattle.row.proofs.takes_quote.Goals as goal

pub returns-then-state_takes_quote : goal.returns-then-state_takes_quote
returns-then-state_takes_quote c = search (state-allows, ap (λ v. eqb v 89) c.read.ensures, rules)
