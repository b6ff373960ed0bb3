-- `handle::logged` meets its contract.
use Rattle.handle.proofs.Ways.{logged-read}
use Rattle.handle.proofs.logged.Goals as goal

pub returns : goal.returns
returns c = search logged-read
