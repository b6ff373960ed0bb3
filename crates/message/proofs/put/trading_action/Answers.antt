-- `message::put::trading_action` meets its contract.
use Rattle.message.specs.Layout.{bytes_for}
use Rattle.message.proofs.put.trading_action.Goals as goal

pub returns : goal.returns
unfolding bytes_for
returns c = c.head.ensures
