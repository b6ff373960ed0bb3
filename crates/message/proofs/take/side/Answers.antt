-- `message::take::side` meets its contract.
use Rattle.message.specs.Layout.{values}
use Rattle.message.proofs.take.side.Goals as goal

pub returns : goal.returns
unfolding values
returns g c i =
    record {
      stamp = c.stamp.ensures i;
      id = c.read.ensures i;
      condition = c.condition.ensures i;
      side = c.args.side;
      numbers = c.read-2.ensures i;
    }
