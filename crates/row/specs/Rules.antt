-- Document 01's row rules, for one row, by the version of the image that it stands in.
-- Assumes nothing.
use Rattle.std.specs.Prelude.{ℕ, Bool, ◌&&◌, ◌||◌, not, cond, List, ◌∷◌, eqb, leb}
use Rattle.field.specs.Bytes.{part}
use Rattle.field.specs.Limits.{time_in_range, price_in_range}
use Rattle.field.specs.Text.{every, is_zero}
use Rattle.message.specs.Layout.{values, keeps_all}
use Rattle.message.specs.Letters.{listed, entry_rows, states, conditions}
use Rattle.message.specs.declared.Side.{Side}
use Rattle.message.specs.declared.Side.TheVariants.{Bid, Ask}
use Rattle.row.specs.Fields.{state_of, condition_of, sides_of, numbers_of, amount_of, time_of, side_time_of, unknown_time, has_seen}

-- directory fields as for `m`
unfoldable pub entry_keeps : List ℕ → Bool
entry_keeps r = keeps_all entry_rows (values entry_rows r)

-- state 0 or listed; condition listed; sides 0 to 3
unfoldable pub marks_keep : List ℕ → Bool
marks_keep r = listed (0 ∷ states) (state_of r) && (listed conditions (condition_of r) && leb (sides_of r) 3)

-- an unseen side all zero; prices with the top bit clear
unfoldable pub side_keeps : Side → List ℕ → Bool
side_keeps side r = (has_seen side (sides_of r) || every is_zero (numbers_of side r)) && price_in_range (amount_of side r)

-- condition space when nothing is seen
unfoldable pub bare_keeps : List ℕ → Bool
bare_keeps r = not (eqb (sides_of r) 0) || eqb (condition_of r) 32

-- time in range
unfoldable pub stamp_keeps : List ℕ → Bool
stamp_keeps r = time_in_range (time_of r)

-- zero bytes zero
unfoldable pub spare_keeps : List ℕ → Bool
spare_keeps r = every is_zero (part r 55 1) && every is_zero (part r 122 2)

-- what every version asks
unfoldable pub common_keeps : List ℕ → Bool
common_keeps r =
    entry_keeps r && (marks_keep r && (side_keeps Bid r && (side_keeps Ask r && (bare_keeps r && (stamp_keeps r && spare_keeps r)))))

-- ---- the times of the sides, by version

-- the version that saving writes, and whose rows a table holds
abbrev pub newest : ℕ
newest = 3

-- a seen side's time is in range or unknown, an unseen side's is zero
unfoldable pub side_time_keeps : Side → List ℕ → Bool
side_time_keeps side r =
    cond (has_seen side (sides_of r)) (time_in_range (side_time_of side r) || eqb (side_time_of side r) unknown_time)
    (eqb (side_time_of side r) 0)

-- in version 3; before it these bytes are zero
unfoldable pub times_keep : ℕ → List ℕ → Bool
times_keep version r =
    cond (eqb version newest) (side_time_keeps Bid r && side_time_keeps Ask r) (every is_zero (part r 106 16))

unfoldable pub row_keeps : ℕ → List ℕ → Bool
row_keeps version r = common_keeps r && times_keep version r
