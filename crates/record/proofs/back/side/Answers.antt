-- `record::back::side` meets its contract.
use mathlib.Core.Path.{refl}
use mathlib.Core.List.{◌∷◌}
use Rattle.message.specs.Letters.{quote_rows, numbers_rows}
use Rattle.record.specs.Places.{letter_place, head_places, side_places}
use Rattle.record.proofs.Moved.{after}
use Rattle.record.proofs.back.side.Goals as goal

pub returns : goal.returns
returns g c =
    let w = g.T.Number.width in
    let keeps = g.T.Width.form.keeps in
    rw (← c.side_at-at.ensures.0)
    (after (letter_place ∷ head_places) (letter_place ∷ quote_rows) (side_places w c.side_at-at.result) (numbers_rows w keeps 16) c.args.kept.now c.args.out.now refl c.head.ensures c.numbers.ensures)
