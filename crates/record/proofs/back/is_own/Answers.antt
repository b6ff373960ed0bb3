-- `record::back::is_own` meets its contract.
use borrow.Author.Rules.{rules}
use mathlib.Core.Path.{refl}
use mathlib.Core.List.{[], ◌∷◌, ◌++◌}
use Rattle.message.specs.Feed.{letter_among}
use Rattle.message.specs.Letters.{letters}
use Rattle.message.proofs.Table.{last_arm}
use Rattle.message.proofs.Typed.{inside}
use Rattle.record.specs.Places.{record_letters, number, high_places}
use Rattle.record.proofs.Laid.{outside}
use Rattle.record.proofs.Gaps.{between, covered, one-clear, two-clear, side-clear, sides-clear, own-arm}
use Rattle.record.proofs.back.is_own.Goals as goal

pub returns-in-83 : goal.returns-in-83
unfolding letters record_letters letter_among inside between covered outside
returns-in-83 c =
    own-arm 83 _ (number 4 4 ∷ number 16 96 ∷ []) c.args.kept.now c.in-83.is
    (record { places = refl; gaps = refl; apart = refl; all = refl }) (search rules) (search rules) (two-clear c.args.kept.now (number 4 4) (number 16 96) c.zeros.ensures c.zeros-in-83.ensures)

pub returns-in-109 : goal.returns-in-109
unfolding letters record_letters letter_among inside between covered outside
returns-in-109 c =
    own-arm 109 _ (number 1 1 ∷ number 16 48 ∷ []) c.args.kept.now c.in-109.is
    (record { places = refl; gaps = refl; apart = refl; all = refl }) (search rules) (search rules) (two-clear c.args.kept.now (number 1 1) (number 16 48) c.zeros-in-109.ensures c.zeros-in-109-2.ensures)

pub returns-in-72 : goal.returns-in-72
unfolding letters record_letters letter_among inside between covered outside
returns-in-72 c =
    own-arm 72 _ (number 16 96 ∷ []) c.args.kept.now c.in-72.is
    (record { places = refl; gaps = refl; apart = refl; all = refl }) (search rules) (search rules) (one-clear c.args.kept.now (number 16 96) c.zeros-in-72.ensures)

pub returns-in-113 : goal.returns-in-113
unfolding letters record_letters letter_among inside between covered outside
returns-in-113 c =
    own-arm 113 _ (number 16 8 ∷ (high_places 24 ++ (high_places 44 ++ (number 64 48 ∷ [])))) c.args.kept.now c.in-113.is
    (record { places = refl; gaps = refl; apart = refl; all = refl }) (search rules) (search rules) (sides-clear c.args.kept.now (number 16 8) (number 64 48) c.zeros-in-113.ensures c.zeros-in-113-2.ensures (high_places 24) (high_places 44) c.is_low.ensures c.is_low-in-113.ensures)

pub returns-in-81 : goal.returns-in-81
unfolding letters record_letters letter_among inside between covered outside
returns-in-81 c =
    own-arm 81 _ (number 16 8 ∷ number 64 48 ∷ []) c.args.kept.now c.in-81.is
    (record { places = refl; gaps = refl; apart = refl; all = refl }) (search rules) (search rules) (two-clear c.args.kept.now (number 16 8) (number 64 48) c.zeros-in-81.ensures c.zeros-in-81-2.ensures)

pub returns-in-98 : goal.returns-in-98
unfolding letters record_letters letter_among inside between covered outside
returns-in-98 c =
    own-arm 98 _ (number 16 8 ∷ (high_places 24 ++ (number 44 68 ∷ []))) c.args.kept.now c.in-98.is
    (record { places = refl; gaps = refl; apart = refl; all = refl }) (search rules) (search rules) (side-clear c.args.kept.now (number 16 8) (number 44 68) c.zeros-in-98.ensures c.zeros-in-98-2.ensures (high_places 24) c.is_low-in-98.ensures)

pub returns-in-97 : goal.returns-in-97
unfolding letters record_letters letter_among inside between covered outside
returns-in-97 c =
    own-arm 97 _ (number 16 28 ∷ (high_places 44 ++ (number 64 48 ∷ []))) c.args.kept.now c.in-97.is
    (record { places = refl; gaps = refl; apart = refl; all = refl }) (search rules) (search rules) (side-clear c.args.kept.now (number 16 28) (number 64 48) c.zeros-in-97.ensures c.zeros-in-97-2.ensures (high_places 44) c.is_low-in-97.ensures)

pub returns-in-66 : goal.returns-in-66
unfolding letters record_letters letter_among inside between covered outside
returns-in-66 c =
    own-arm 66 _ (number 16 8 ∷ number 44 68 ∷ []) c.args.kept.now c.in-66.is
    (record { places = refl; gaps = refl; apart = refl; all = refl }) (search rules) (search rules) (two-clear c.args.kept.now (number 16 8) (number 44 68) c.zeros-in-66.ensures c.zeros-in-66-2.ensures)

pub returns-in-65 : goal.returns-in-65
unfolding letters record_letters letter_among inside between covered outside
returns-in-65 c =
    own-arm 65 _ (number 16 28 ∷ number 64 48 ∷ []) c.args.kept.now c.in-65.is
    (record { places = refl; gaps = refl; apart = refl; all = refl }) (search rules) (search rules) (two-clear c.args.kept.now (number 16 28) (number 64 48) c.zeros-in-65.ensures c.zeros-in-65-2.ensures)

pub returns-in_default : goal.returns-in_default
unfolding letters record_letters letter_among inside between covered outside
returns-in_default c =
    let r = c.in_default.in_default-own.rest in
    own-arm 77 _ (number 1 15 ∷ number 24 88 ∷ []) c.args.kept.now (last_arm _ r.0.0.0.0.0.0.0.0.1 r.0.0.0.0.0.0.0.1 r.0.0.0.0.0.0.1 r.0.0.0.0.0.1 r.0.0.0.0.1 r.0.0.0.1 r.0.0.1 r.0.1 r.1 c.requires)
    (record { places = refl; gaps = refl; apart = refl; all = refl }) (search rules) (search rules) (two-clear c.args.kept.now (number 1 15) (number 24 88) c.zeros-in_default.ensures c.zeros-in_default-2.ensures)
