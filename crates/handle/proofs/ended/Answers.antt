-- `handle::ended` meets its contract.
use Rattle.handle.proofs.Ways.{ended-read}
use Rattle.handle.proofs.ended.Goals as goal

pub returns : goal.returns
returns c = search ended-read
