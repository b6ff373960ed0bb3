-- `record::back::stamp` meets its contract.
use borrow.Author.Rules.{rules}
use mathlib.Core.Path.{refl}
use mathlib.Core.List.{◌∷◌}
use native.Mathlib.Omega.{arith}
use Rattle.message.specs.Letters.{stamp_rows}
use Rattle.record.specs.Places.{record_size, letter_place, stamp_places}
use Rattle.record.proofs.Moved.{paired, moved}
use Rattle.record.proofs.back.stamp.Goals as goal

pub returns : goal.returns
unfolding paired
returns c =
    moved record_size (letter_place ∷ stamp_places) (letter_place ∷ stamp_rows) c.args.kept.now c.args.out.now refl (omega arith) (search rules) (_, c.carry.ensures, (_, c.carry-2.ensures, (_, c.carry-3.ensures, refl)))
