-- `reader::ceiling::answer` meets its contract.
use mathlib.Core.Path.{refl}
use Rattle.reader.proofs.ceiling.answer.Goals as goal

pub returns : goal.returns
returns c = refl
