-- `handle::rows` meets its contract.
use Rattle.handle.proofs.Ways.{rows-read}
use Rattle.handle.proofs.rows.Goals as goal

pub returns : goal.returns
returns c = search rows-read
