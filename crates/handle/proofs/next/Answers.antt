-- `handle::next` meets its contract.
use Rattle.handle.proofs.Ways.{next-read}
use Rattle.handle.proofs.next.Goals as goal

pub returns : goal.returns
returns c = search next-read
