-- `row::rules::side_time_keeps` meets its contract.
use borrow.Author.Rules.{rules}
use Rattle.row.proofs.Puts.{time-seen, time-unseen}
use Rattle.row.proofs.rules.side_time_keeps.Goals as goal

pub returns-then-has_seen : goal.returns-then-has_seen
returns-then-has_seen c = search (time-seen, rules)

pub returns : goal.returns
returns c = search (time-unseen, rules)
