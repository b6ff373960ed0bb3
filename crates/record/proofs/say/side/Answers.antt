-- `record::say::side` meets its contract.
use mathlib.Core.Path.{ap, ◌∙◌}
use Prim.Native.Nat.{ℕ}
use Rattle.message.specs.Layout.{values}
use Rattle.message.specs.Letters.{no_texts, numbers_of}
use Rattle.record.specs.Places.{side_places}
use Rattle.record.specs.Record.{held, said_by}
use Rattle.record.proofs.Ways.{said-as}
use Rattle.record.proofs.say.side.Goals as goal

pub returns : goal.returns
unfolding values said_by
returns g c =
    c.bare.ensures ∙ ap (λ m. held m no_texts) c.side.ensures ∙ said-as g.T.Width.form.side (λ i. record {
      stamp = c.stamp.ensures i;
      id = c.read.ensures i;
      condition = c.read-2.ensures i;
      side = c.args.side;
      numbers = (c.numbers.ensures ∙ ap (λ (at : ℕ). numbers_of (values (side_places g.T.Number.width at) c.args.bytes.now)) c.side_at.ensures.0) i;
    })
