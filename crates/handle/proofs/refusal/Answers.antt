-- `handle::refusal` meets its contract.
use Rattle.handle.proofs.Ways.{refusal-read}
use Rattle.handle.proofs.refusal.Goals as goal

pub returns : goal.returns
returns c = search refusal-read
