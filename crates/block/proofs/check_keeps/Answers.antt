-- `block::check_keeps` meets its contract.
use Rattle.block.proofs.Checks.{check-test}
use Rattle.block.proofs.check_keeps.Goals as goal

pub returns : goal.returns
returns c = let s = c.args in check-test s.s.now s.at c.read.ensures c.check.ensures
