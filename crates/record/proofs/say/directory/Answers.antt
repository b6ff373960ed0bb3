-- `record::say::directory` meets its contract.
use Rattle.message.specs.Layout.{values}
use Rattle.message.specs.declared.Message.TheVariants as message
use Rattle.record.specs.Record.{said_by}
use Rattle.record.proofs.say.directory.Goals as goal
use Rattle.std.specs.Prelude.{Some}

pub returns : goal.returns
unfolding values said_by
returns c i =
    record {
      taken = Some (message.Directory (record {
        stamp = c.stamp.ensures i;
        instrument = c.instrument.ensures i;
      }));
      texts = c.texts.ensures i;
    }
