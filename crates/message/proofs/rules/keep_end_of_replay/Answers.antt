-- `message::rules::keep_end_of_replay` meets its contract.
use mathlib.Core.Path.{sym, ◌∙◌}
use mathlib.Core.Bool.{and-true}
use Rattle.field.specs.Limits.{number_in_range}
use Rattle.message.specs.Layout.{keeps_all}
use Rattle.message.proofs.rules.keep_end_of_replay.Goals as goal

pub returns : goal.returns
unfolding keeps_all
returns c = c.number_in_range.ensures ∙ sym (and-true (number_in_range c.args.m.number))
