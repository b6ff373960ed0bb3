-- `handle::used` meets its contract.
use Rattle.handle.proofs.Ways.{used-read}
use Rattle.handle.proofs.used.Goals as goal

pub returns : goal.returns
returns c = search used-read
