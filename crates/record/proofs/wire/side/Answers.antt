-- `record::wire::side` meets its contract.
use mathlib.Core.Path.{refl}
use mathlib.Core.List.{◌∷◌}
use Rattle.message.specs.Letters.{quote_rows, numbers_rows}
use Rattle.record.specs.Places.{letter_place, head_places, side_places}
use Rattle.record.proofs.Moved.{after}
use Rattle.record.proofs.wire.side.Goals as goal

pub returns : goal.returns
returns g c =
    let w = g.T.Number.width in
    let keeps = g.T.Width.form.keeps in
    rw (← c.side_at-at.ensures.0)
    (after (letter_place ∷ quote_rows) (letter_place ∷ head_places) (numbers_rows w keeps 16) (side_places w c.side_at-at.result) c.args.bytes.now c.args.out.now refl c.head.ensures c.numbers.ensures)
