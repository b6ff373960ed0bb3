-- `field::equal` meets its contract.
use borrow.Author.Rules.{rules}
use Rattle.field.proofs.Same.{same_none, same_more}
use Rattle.field.proofs.equal.Goals as goal

pub loop-k-init : goal.loop-k-init
loop-k-init c = search same_none

pub loop-k-preserved : goal.loop-k-preserved
loop-k-preserved c = search (same_more, rules)
