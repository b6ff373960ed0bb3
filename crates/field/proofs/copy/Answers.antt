-- `field::copy` meets its contract.
use borrow.Author.Rules.{rules}
use Rattle.field.proofs.Parts.{copy-turn, part_none, overlay-none}
use Rattle.field.proofs.copy.Goals as goal

pub loop-copied-init : goal.loop-copied-init
loop-copied-init c = rw (part_none, overlay-none)

pub loop-copied-preserved : goal.loop-copied-preserved
loop-copied-preserved c = rw c.loop-copied.invariant (copy-turn c.args.dst.now c.args.at c.args.src.now c.args.from c.loop-copied.copied (search rules) (search rules))
