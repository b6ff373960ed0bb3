-- `table::wire::relist` meets its contract.
use borrow.Author.Rules.{rules}
use Rattle.table.proofs.Wired.{relist-refused, relist-kept}
use Rattle.table.proofs.wire.relist.Goals as goal

pub returns-then-not-unchanged : goal.returns-then-not-unchanged
returns-then-not-unchanged c = relist-refused _ c.unchanged.ensures (search rules)

pub returns : goal.returns
returns c = relist-kept _ c.unchanged.ensures (search rules) c.put_directory.ensures
