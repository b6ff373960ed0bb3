-- `listing::state_mark` meets its contract.
use borrow.Author.Rules.{rules}
use Rattle.listing.proofs.Puts.{mark-none, mark-state}
use Rattle.listing.proofs.state_mark.Goals as goal

pub returns-then-state-eq0 : goal.returns-then-state-eq0
returns-then-state-eq0 c = search (mark-none, rules)

pub returns : goal.returns
returns c = search (mark-state, rules)
