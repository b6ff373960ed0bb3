-- `field::limits::time_keeps` meets its contract.
use borrow.Author.Rules.{rules}
use Rattle.field.proofs.Numbers.{time-early, time-late, time-last}
use Rattle.field.proofs.limits.time_keeps.Goals as goal

pub returns-then-high-lt-LATEST_HIGH : goal.returns-then-high-lt-LATEST_HIGH
returns-then-high-lt-LATEST_HIGH c = search (time-early, rules)

pub returns-then-high-gt-LATEST_HIGH : goal.returns-then-high-gt-LATEST_HIGH
returns-then-high-gt-LATEST_HIGH c = search (time-late, rules)

pub returns : goal.returns
returns c = search (time-last, rules)
