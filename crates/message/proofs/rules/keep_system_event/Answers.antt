-- `message::rules::keep_system_event` meets its contract.
use mathlib.Core.Bool.{and-true}
use Rattle.message.specs.Layout.{keeps_all}
use Rattle.message.proofs.rules.keep_system_event.Goals as goal

pub returns : goal.returns
unfolding keeps_all
returns c = rw (c.time_in_range.ensures, c.is_event.ensures, and-true)
