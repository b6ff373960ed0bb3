-- `reader::told::is_message` meets its contract.
use mathlib.Core.Path.{refl}
use Rattle.reader.proofs.told.is_message.Goals as goal

pub returns : goal.returns
returns c = refl
