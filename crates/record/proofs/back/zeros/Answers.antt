-- `record::back::zeros` meets its contract: it is `field::text::only` of zeros.
use Rattle.record.proofs.back.zeros.Goals as goal

pub returns : goal.returns
returns c = c.only.ensures
