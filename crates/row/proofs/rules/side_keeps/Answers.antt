-- `row::rules::side_keeps` meets its contract.
use borrow.Author.Rules.{rules}
use Rattle.row.proofs.Puts.{side-unseen, side-seen}
use Rattle.row.proofs.rules.side_keeps.Goals as goal

pub returns-then-not-has_seen : goal.returns-then-not-has_seen
returns-then-not-has_seen c = search (side-unseen, rules)

pub returns : goal.returns
returns c = search (side-seen, rules)
