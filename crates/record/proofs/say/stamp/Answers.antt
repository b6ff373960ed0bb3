-- `record::say::stamp` meets its contract.
use Rattle.message.specs.Layout.{values}
use Rattle.record.proofs.say.stamp.Goals as goal

pub returns : goal.returns
unfolding values
returns c i =
    record {
      tracking = c.read.ensures i;
      time = c.read-2.ensures i;
    }
