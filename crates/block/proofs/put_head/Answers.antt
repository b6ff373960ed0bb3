-- `block::put_head` meets its contract.
use Rattle.block.proofs.Blocks.{head-put}
use Rattle.block.proofs.put_head.Goals as goal

pub returns : goal.returns
returns c = search head-put
