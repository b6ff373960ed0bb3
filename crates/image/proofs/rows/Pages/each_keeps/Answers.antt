-- `image::rows::Pages::each_keeps` meets its contract.
use Rattle.image.proofs.Below.{below_none}
use Rattle.image.proofs.Walk.{row-breaks, row-good}
use Rattle.image.proofs.rows.Pages.each_keeps.Goals as goal

pub loop-k-init : goal.loop-k-init
loop-k-init c = below_none _

pub returns-then-not-keep : goal.returns-then-not-keep
returns-then-not-keep c = search row-breaks

pub loop-k-preserved : goal.loop-k-preserved
loop-k-preserved c = search row-good
