-- `record::say::end_of_replay` meets its contract.
use mathlib.Core.Path.{◌∙◌}
use Rattle.message.specs.Layout.{values}
use Rattle.message.specs.declared.Message.TheVariants as message
use Rattle.record.specs.Record.{said_by}
use Rattle.record.proofs.Ways.{said-as}
use Rattle.record.proofs.say.end_of_replay.Goals as goal

pub returns : goal.returns
unfolding values said_by
returns c =
    c.bare.ensures ∙ said-as message.EndOfReplay (λ i. record {
      number = c.read.ensures i;
    })
