-- `row::rules::spare_keeps` meets its contract.
use Rattle.row.specs.Rules.{spare_keeps}
use Rattle.row.proofs.rules.spare_keeps.Goals as goal

pub returns : goal.returns
unfolding spare_keeps
returns c = rw (c.only.ensures, c.only-2.ensures)
