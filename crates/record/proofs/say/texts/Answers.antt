-- `record::say::texts` meets its contract.
use Rattle.message.specs.Layout.{values}
use Rattle.record.proofs.say.texts.Goals as goal

pub returns : goal.returns
unfolding values
returns c i = record { symbol = c.bytes.ensures i; underlying = c.bytes-2.ensures i; reserved = c.bytes-3.ensures i }
