-- `record::back::head` meets its contract.
use borrow.Author.Rules.{rules}
use mathlib.Core.Path.{refl}
use mathlib.Core.List.{◌∷◌}
use native.Mathlib.Omega.{arith}
use lib.ListN.{drop}
use Rattle.message.specs.Letters.{stamp_rows, quote_rows}
use Rattle.record.specs.Places.{record_size, letter_place, stamp_places, head_places}
use Rattle.record.proofs.Moved.{paired, moved, after}
use Rattle.record.proofs.back.head.Goals as goal

pub returns : goal.returns
unfolding paired
returns c =
    after (letter_place ∷ stamp_places) (letter_place ∷ stamp_rows) (drop 2 head_places) (drop 2 quote_rows) c.args.kept.now c.args.out.now refl c.stamp.ensures
    (moved record_size (drop 2 head_places) (drop 2 quote_rows) c.args.kept.now _ refl (omega arith) (search rules) (_, c.carry.ensures, (_, c.carry-2.ensures, refl)))
