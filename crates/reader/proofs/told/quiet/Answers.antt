-- `reader::told::quiet` meets its contract.
use Rattle.reader.proofs.told.quiet.Goals as goal

pub returns : goal.returns
returns c = rw c.no_text.ensures
