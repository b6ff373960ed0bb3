-- `record::say::system_event` meets its contract.
use mathlib.Core.Path.{◌∙◌}
use Rattle.message.specs.Layout.{values}
use Rattle.message.specs.declared.Message.TheVariants as message
use Rattle.record.specs.Record.{said_by}
use Rattle.record.proofs.Ways.{said-as}
use Rattle.record.proofs.say.system_event.Goals as goal

pub returns : goal.returns
unfolding values said_by
returns c =
    c.bare.ensures ∙ said-as message.SystemEvent (λ i. record {
      stamp = c.stamp.ensures i;
      code = c.read.ensures i;
    })
