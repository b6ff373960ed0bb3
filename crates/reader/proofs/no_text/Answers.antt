-- `reader::no_text` meets its contract.
use Rattle.reader.proofs.no_text.Goals as goal

pub returns : goal.returns
returns c = rw c.no_texts.ensures
