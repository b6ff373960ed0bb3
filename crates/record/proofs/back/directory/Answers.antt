-- `record::back::directory` meets its contract.
use mathlib.Core.Path.{refl}
use mathlib.Core.List.{◌∷◌}
use lib.ListN.{take, drop}
use Rattle.message.specs.Letters.{stamp_rows, instrument_rows}
use Rattle.record.specs.Places.{letter_place, stamp_places, instrument_places}
use Rattle.record.proofs.Moved.{after}
use Rattle.record.proofs.back.directory.Goals as goal

pub returns : goal.returns
returns c =
    after (letter_place ∷ stamp_places) (letter_place ∷ stamp_rows) instrument_places instrument_rows c.args.kept.now c.args.out.now refl c.stamp.ensures
    (after (take 5 instrument_places) (take 5 instrument_rows) (drop 5 instrument_places) (drop 5 instrument_rows) c.args.kept.now _ refl c.terms.ensures
    (after (take 3 (drop 5 instrument_places)) (take 3 (drop 5 instrument_rows)) (drop 8 instrument_places) (drop 8 instrument_rows) c.args.kept.now _ refl
    c.middle.ensures c.marks.ensures))
