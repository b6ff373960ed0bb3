-- `record::back::quote` meets its contract.
use mathlib.Core.Path.{refl, ap, ◌∙◌}
use mathlib.Core.List.{◌∷◌, ◌++◌}
use Prim.Native.Nat.{ℕ, ◌+◌, ◌*◌}
use Rattle.message.specs.Layout.{values}
use Rattle.message.specs.Letters.{quote_rows, numbers_rows}
use Rattle.record.specs.Places.{letter_place, head_places, side_places}
use Rattle.record.specs.Record.{laid}
use Rattle.record.proofs.Moved.{after}
use Rattle.record.proofs.back.quote.Goals as goal

pub returns : goal.returns
returns g c =
    let w = g.T.Number.width in
    let keeps = g.T.Width.form.keeps in
    after (letter_place ∷ head_places) (letter_place ∷ quote_rows) (side_places w 24 ++ side_places w 44) (numbers_rows w keeps 16 ++ numbers_rows w keeps (16 + 5 * w)) c.args.kept.now c.args.out.now refl c.head.ensures
    (after (side_places w 24) (numbers_rows w keeps 16) (side_places w 44) (numbers_rows w keeps (16 + 5 * w)) c.args.kept.now _ refl c.numbers.ensures
    (c.numbers-2.ensures ∙ ap (λ (k : ℕ). laid (numbers_rows w keeps (16 + 5 * k)) (values (side_places w 44) c.args.kept.now) c.numbers.new.out) c.size.ensures.0))
