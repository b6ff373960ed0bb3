-- The listing's lines.
-- Assumes nothing.
use Rattle.std.specs.Prelude.{ℕ, zero, suc, ◌+◌, ◌-◌, ◌/◌, ◌≤◌, Bool, ◌&&◌, cond, List, [], ◌∷◌, ◌++◌, ◌≡◌, eqb, leb, length, replicate}
use Rattle.field.specs.Bytes.{overlay}
use Rattle.field.specs.Decimal.{chars, digit_chars}
use Rattle.std.specs.Prelude.{Option}
use Rattle.std.specs.Prelude.{Some, None}
use Rattle.message.specs.declared.Side.{Side}
use Rattle.message.specs.declared.Side.TheVariants.{Bid, Ask}
use Rattle.row.specs.Fields.{id_of, state_of, sides_of, price_of, has_seen}
use Rattle.table.specs.Memory.{rows_fit, row}
use Rattle.listing.specs.declared.Text.{Text}
use Rattle.listing.specs.declared.Shown.{Shown}
use Rattle.listing.specs.declared.Shown.TheVariants.{Line, Past, Unfit}
use Rattle.listing.specs.declared.Ending.{Ending}
use Rattle.listing.specs.declared.Ending.TheVariants.{RanOut, Ended, Refused}

-- ---- the words

-- `next `
abbrev pub next_word : List ℕ
next_word = 110 ∷ 101 ∷ 120 ∷ 116 ∷ 32 ∷ []

-- `none`
abbrev pub none_word : List ℕ
none_word = 110 ∷ 111 ∷ 110 ∷ 101 ∷ []

-- `ok`
abbrev pub ok_word : List ℕ
ok_word = 111 ∷ 107 ∷ []

-- `end`
abbrev pub end_word : List ℕ
end_word = 101 ∷ 110 ∷ 100 ∷ []

-- `refused `
abbrev pub refused_word : List ℕ
refused_word = 114 ∷ 101 ∷ 102 ∷ 117 ∷ 115 ∷ 101 ∷ 100 ∷ 32 ∷ []

abbrev pub line_end : List ℕ
line_end = 10 ∷ []

-- ---- `next N`

unfoldable pub next_line : ℕ → List ℕ
next_line next = next_word ++ (chars next ++ line_end)

-- ---- a row: id, state or `-`, bid, ask; a seen side with no price as `none` (W-206), an unseen side as `-`

abbrev pub dash : ℕ
dash = 45

-- in dollars with four decimals
unfoldable pub dollars : ℕ → List ℕ
dollars price = chars (price / 10_000) ++ (46 ∷ digit_chars 4 price)

unfoldable pub price_text : Option ℕ → List ℕ
price_text (Some n) = dollars n
price_text None = none_word

unfoldable pub state_text : List ℕ → List ℕ
state_text r = 32 ∷ cond (eqb (state_of r) 0) dash (state_of r) ∷ []

unfoldable pub side_text : Side → List ℕ → List ℕ
side_text side r = 32 ∷ cond (has_seen side (sides_of r)) (price_text (price_of side r)) (dash ∷ [])

unfoldable pub row_line : List ℕ → List ℕ
row_line r = chars (id_of r) ++ (state_text r ++ (side_text Bid r ++ (side_text Ask r ++ line_end)))

-- ---- how a listing ends: with a standing refusal, with an end, or with neither

abbrev pub ending_of : ℕ → Bool → Ending
ending_of refusal end = cond (eqb refusal 0) (cond end Ended RanOut) (Refused refusal)

-- ---- the last line: input ran out, even inside a packet; Z or J; a refusal

unfoldable pub last_line : Ending → List ℕ
last_line RanOut = ok_word ++ line_end
last_line Ended = end_word ++ line_end
last_line (Refused n) = refused_word ++ (chars n ++ line_end)

-- ---- the listing, line by line: line 0 is the next number, then a line for each row, then the last

unfoldable pub line_in : ℕ → ℕ → ℕ → List ℕ → Ending → List ℕ
line_in k next rows mem ending =
    cond (eqb k 0) (next_line next) (cond (leb k rows) (row_line (row (k - 1) mem)) (last_line ending))

-- no line is longer
abbrev pub line_size : ℕ
line_size = 80

-- a line as it is handed out: with zeros behind it, and its length
abbrev pub line_with : List ℕ → Text
line_with ys = record { text = overlay (replicate line_size 0) 0 ys; shown = Line (length ys) }

abbrev pub no_line : Shown → Text
no_line why = record { text = replicate line_size 0; shown = why }

-- what is shown: 20 for rows that do not fit their memory; nothing past the last line
unfoldable pub shown_of : ℕ → ℕ → ℕ → List ℕ → Ending → Text
shown_of k next rows mem ending =
    cond (rows_fit rows mem) (cond (leb k (rows + 1)) (line_with (line_in k next rows mem ending)) (no_line Past)) (no_line Unfit)

abbrev pub Short : Shown → Type 0
Short (Line n) = n ≤ line_size
Short Past = Unit
Short Unfit = Unit

-- ---- text that is put into a buffer

-- `ys` is put from `at` on, it ends at `r`, and that is no more than so many bytes on
abbrev pub Put : List ℕ → ℕ → List ℕ → List ℕ → ℕ → ℕ → Type 0
Put xs at ys zs r most = (zs ≡ overlay xs at ys) × ((r ≡ at + length ys) × (r ≤ at + most))

-- a whole line is put from the front on, and its length answered
abbrev pub Written : List ℕ → List ℕ → List ℕ → ℕ → Type 0
Written xs ys zs r = (zs ≡ overlay xs 0 ys) × ((r ≡ length ys) × (r ≤ line_size))

-- the same as text, empty where no line is shown
unfoldable pub line_of : ℕ → ℕ → ℕ → List ℕ → Ending → List ℕ
line_of k next rows mem ending = cond (rows_fit rows mem && leb k (rows + 1)) (line_in k next rows mem ending) []

-- the first n lines
unfoldable pub lines_of : ℕ → ℕ → ℕ → List ℕ → Ending → List ℕ
lines_of zero next rows mem ending = []
lines_of (suc n) next rows mem ending = lines_of n next rows mem ending ++ line_of n next rows mem ending

unfoldable pub listing_of : ℕ → ℕ → List ℕ → Ending → List ℕ
listing_of next rows mem ending = lines_of (rows + 2) next rows mem ending
