-- `block::put_check` meets its contract.
use Rattle.block.proofs.Checks.{check-put}
use Rattle.block.proofs.put_check.Goals as goal

pub returns : goal.returns
returns c = search check-put
