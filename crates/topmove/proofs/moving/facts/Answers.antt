-- What is said is what is read off the bytes.
use Rattle.topmove.proofs.Outcomes.{facts-read}
use Rattle.topmove.proofs.moving.facts.Goals as goal

pub returns : goal.returns
returns c = facts-read _ _ c.read_head-head.ensures c.read.ensures c.lost.ensures
