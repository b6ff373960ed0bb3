-- `record::wire::quote` meets its contract.
use mathlib.Core.Path.{refl}
use mathlib.Core.List.{◌∷◌, ◌++◌}
use Prim.Native.Nat.{◌+◌, ◌*◌}
use native.Mathlib.Omega.{arith}
use Rattle.message.specs.Letters.{quote_rows, numbers_rows}
use Rattle.record.specs.Places.{letter_place, head_places, side_places}
use Rattle.record.proofs.Moved.{after, moved-at}
use Rattle.record.proofs.wire.quote.Goals as goal

pub returns : goal.returns
returns g c =
    let w = g.T.Number.width in
    let keeps = g.T.Width.form.keeps in
    after (letter_place ∷ quote_rows) (letter_place ∷ head_places) (numbers_rows w keeps 16 ++ numbers_rows w keeps (16 + 5 * w)) (side_places w 24 ++ side_places w 44) c.args.bytes.now c.args.out.now refl c.head.ensures
    (after (numbers_rows w keeps 16) (side_places w 24) (numbers_rows w keeps (16 + 5 * w)) (side_places w 44) c.args.bytes.now c.head.new.out refl
    (moved-at w keeps c.args.bytes.now c.head.new.out c.numbers.ensures (omega arith) (omega arith))
    (moved-at w keeps c.args.bytes.now c.numbers.new.out c.numbers-2.ensures (omega arith) (omega arith)))
