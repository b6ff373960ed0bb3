-- `field::text::only` meets its contract.
use borrow.Author.Rules.{rules}
use Rattle.field.proofs.Same.{every-none, every_more}
use Rattle.field.proofs.text.only.Goals as goal

pub loop-k-init : goal.loop-k-init
loop-k-init c = search every-none

pub loop-k-preserved : goal.loop-k-preserved
loop-k-preserved c = search (every_more, rules)
