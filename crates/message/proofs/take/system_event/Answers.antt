-- `message::take::system_event` meets its contract.
use Rattle.message.specs.Layout.{values}
use Rattle.message.proofs.take.system_event.Goals as goal

pub returns : goal.returns
unfolding values
returns c i =
    record {
      stamp = c.stamp.ensures i;
      code = c.read.ensures i;
    }
