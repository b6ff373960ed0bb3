-- `reader::refusals::stands` meets its contract.
use mathlib.Core.Path.{refl}
use Rattle.reader.specs.Refusals.{standing}
use Rattle.reader.proofs.refusals.stands.Goals as goal

pub returns : goal.returns
unfolding standing
returns c = refl
