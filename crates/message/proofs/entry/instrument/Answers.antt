-- `message::entry::instrument` meets its contract.
use Rattle.message.specs.Layout.{values}
use Rattle.message.proofs.entry.instrument.Goals as goal

pub returns : goal.returns
unfolding values
returns c i =
    record {
      id = c.read.ensures i;
      year = c.read-2.ensures i;
      month = c.read-3.ensures i;
      day = c.read-4.ensures i;
      strike = c.read-5.ensures i;
      kind = c.read-6.ensures i;
      closing = c.read-7.ensures i;
      tradable = c.read-8.ensures i;
      variation = c.read-9.ensures i;
    }
