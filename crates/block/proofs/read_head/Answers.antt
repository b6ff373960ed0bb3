-- `block::read_head` meets its contract.
use Rattle.block.proofs.Blocks.{head-take}
use Rattle.block.proofs.read_head.Goals as goal

pub returns : goal.returns
returns c = let s = c.args in head-take s.s.now s.at c.read.ensures c.read-2.ensures c.read-3.ensures c.read-4.ensures
