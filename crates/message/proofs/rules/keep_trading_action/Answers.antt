-- `message::rules::keep_trading_action` meets its contract.
use mathlib.Core.Bool.{and-true}
use Rattle.message.specs.Layout.{keeps_all}
use Rattle.message.proofs.rules.keep_trading_action.Goals as goal

pub returns : goal.returns
unfolding keeps_all
returns c = rw (c.time_in_range.ensures, c.is_state.ensures, and-true)
