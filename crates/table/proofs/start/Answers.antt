-- `table::start` meets its contract.
use borrow.Author.Rules.{rules}
use Rattle.table.proofs.Ways.{start-unfit, start-clear}
use Rattle.table.proofs.start.Goals as goal

pub returns-then-not-is_lent : goal.returns-then-not-is_lent
returns-then-not-is_lent c = search (start-unfit, rules)

pub returns : goal.returns
returns c = search (start-clear, rules)
