-- `reader::ceiling::is_event` meets its contract.
use mathlib.Core.Path.{refl}
use Rattle.reader.proofs.ceiling.is_event.Goals as goal

pub returns : goal.returns
returns c = refl
