-- `message::take::stamp` meets its contract.
use Rattle.message.specs.Layout.{values}
use Rattle.message.proofs.take.stamp.Goals as goal

pub returns : goal.returns
unfolding values
returns c i =
    record {
      tracking = c.read.ensures i;
      time = c.time.ensures i;
    }
