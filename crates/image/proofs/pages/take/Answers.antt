-- `image::pages::take` meets its contract.
use Rattle.image.proofs.Puts.{taken_none, taken-turn, taken-all}
use Rattle.image.proofs.pages.take.Goals as goal

pub loop-k-init : goal.loop-k-init
loop-k-init c = taken_none _ _

pub loop-k-preserved : goal.loop-k-preserved
loop-k-preserved c = let l = c.loop-k in taken-turn c.args.image.now c.args.n c.requires.0 c.args.table.now l.k c.requires.1 c.requires.2 c.loop-k-test.true l.invariant c.copy.ensures

pub returns : goal.returns
returns c = let p = c.requires in search taken-all depth 14
