-- `image::each_row::all` meets its contract.
use borrow.Author.Rules.{rules}
use Rattle.table.proofs.Each.{each_none, each_turn}
use Rattle.image.proofs.each_row.all.Goals as goal

pub loop-k-init : goal.loop-k-init
loop-k-init c = each_none _ _

pub loop-k-preserved : goal.loop-k-preserved
loop-k-preserved c = search (each_turn, rules)
