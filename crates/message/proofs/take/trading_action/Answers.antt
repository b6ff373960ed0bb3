-- `message::take::trading_action` meets its contract.
use Rattle.message.specs.Layout.{values}
use Rattle.message.proofs.take.trading_action.Goals as goal

pub returns : goal.returns
unfolding values
returns c i =
    record {
      stamp = c.stamp.ensures i;
      id = c.read.ensures i;
      state = c.read-2.ensures i;
    }
