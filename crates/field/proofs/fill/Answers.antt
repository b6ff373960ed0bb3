-- `field::fill` meets its contract.
use borrow.Author.Rules.{rules}
use Rattle.field.proofs.Parts.{fill-turn, overlay-none}
use Rattle.field.proofs.fill.Goals as goal

pub loop-filled-init : goal.loop-filled-init
loop-filled-init c = rw overlay-none

pub loop-filled-preserved : goal.loop-filled-preserved
loop-filled-preserved c = cc (fill-turn c.args.dst.now c.args.at c.args.byte c.loop-filled.filled (search rules))
