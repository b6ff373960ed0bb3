-- W-209. A row of an image of version 1 or 2 as version 3 has it, and back; and which times the way back loses.
-- Assumes nothing.
use Rattle.std.specs.Prelude.{ℕ, ◌+◌, ◌≡◌, Bool, true, ◌&&◌, not, cond, List, ◌++◌, eqb, replicate}
use Rattle.field.specs.Bytes.{overlay, bytes_be}
use Rattle.message.specs.declared.Side.{Side}
use Rattle.message.specs.declared.Side.TheVariants.{Bid, Ask}
use Rattle.row.specs.Fields.{sides_of, side_time_of, has_seen, unknown_time}

-- the time of a side that is seen is unknown, that of an unseen one zero
abbrev pub mark_of : Side → ℕ → ℕ
mark_of side sides = cond (has_seen side sides) unknown_time 0

unfoldable pub marks_of : ℕ → List ℕ
marks_of sides = bytes_be 8 (mark_of Bid sides) ++ bytes_be 8 (mark_of Ask sides)

-- forward: the time of each seen side is marked unknown
unfoldable pub forward_row : List ℕ → List ℕ
forward_row r = overlay r 106 (marks_of (sides_of r))

-- back: both are zeroed
unfoldable pub back_row : List ℕ → List ℕ
back_row r = overlay r 106 (replicate 16 0)

-- the time of every seen side is unknown
abbrev pub TimesUnknown : List ℕ → Type 0
TimesUnknown r = (side : Side) → has_seen side (sides_of r) ≡ true → side_time_of side r ≡ unknown_time

-- is the side seen, and its time known?
unfoldable pub knows_time : Side → List ℕ → Bool
knows_time side r = has_seen side (sides_of r) && not (eqb (side_time_of side r) unknown_time)

abbrev pub count_of : Bool → ℕ
count_of b = cond b 1 0

-- how many times of a row are known: those that are lost on the way back
unfoldable pub known_times : List ℕ → ℕ
known_times r = count_of (knows_time Bid r) + count_of (knows_time Ask r)
