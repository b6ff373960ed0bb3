-- `image::rows::Pages::each_new` meets its contract.
use Rattle.image.proofs.Below.{below_none}
use Rattle.image.proofs.Walk.{gathered_none, id-there, id-twice, id-gathered, id-once}
use Rattle.image.proofs.rows.Pages.each_new.Goals as goal

-- the ids of the first k rows are gathered, and none of them is there twice

pub loop-k-init : goal.loop-k-init
loop-k-init c = (gathered_none _ _, below_none _)

pub returns-then-not-enter : goal.returns-then-not-enter
returns-then-not-enter c = search (id-twice, id-there)

pub loop-k-preserved : goal.loop-k-preserved
loop-k-preserved c = (search (id-gathered, id-there), search (id-once, id-there))
