-- A row of the table: where each of its fields stands.
-- Assumes nothing.
use Rattle.std.specs.Prelude.{ℕ, ◌+◌, ◌/◌, ◌%◌, Bool, ◌&&◌, cond, List, [], ◌∷◌, eqb}
use Rattle.field.specs.Bytes.{part, be}
use Rattle.message.specs.Layout.{price_from, values}
use Rattle.message.specs.Letters.{listed, entry_rows, instrument_of, texts_of, entry_size}
use Rattle.message.specs.declared.Instrument.{Instrument}
use Rattle.message.specs.declared.Texts.{Texts}
use Rattle.std.specs.Prelude.{Option}
use Rattle.message.specs.declared.Side.{Side}
use Rattle.message.specs.declared.Side.TheVariants.{Bid, Ask}

abbrev pub row_size : ℕ
row_size = 124

-- ---- the places of document 01's table of a row

-- 0-51: bytes 11-62 of the latest directory
abbrev pub entry_of : List ℕ → List ℕ
entry_of r = part r 0 entry_size

-- and its fields, where the layout of a directory has them
abbrev pub instrument_in : List ℕ → Instrument
instrument_in r = instrument_of (values entry_rows r)

abbrev pub texts_in : List ℕ → Texts
texts_in r = texts_of (values entry_rows r)

unfoldable pub id_of : List ℕ → ℕ
id_of r = (instrument_in r).id

unfoldable pub tradable_of : List ℕ → ℕ
tradable_of r = (instrument_in r).tradable

-- 52: trading state, 0 before any
abbrev pub state_of : List ℕ → ℕ
state_of r = be (part r 52 1)

-- 53: condition
abbrev pub condition_of : List ℕ → ℕ
condition_of r = be (part r 53 1)

-- 54: sides seen, 1 bid, 2 ask, summed
abbrev pub sides_of : List ℕ → ℕ
sides_of r = be (part r 54 1)

-- 56-75, 76-95: bid, ask, five numbers of 4 bytes, the second of them the price
abbrev pub side_at : Side → ℕ
side_at Bid = 56
side_at Ask = 76

abbrev pub other : Side → Side
other Bid = Ask
other Ask = Bid

abbrev pub numbers_of : Side → List ℕ → List ℕ
numbers_of side r = part r (side_at side) 20

-- the number that stands there, and the price that it says: 0 says none (W-206)
abbrev pub amount_of : Side → List ℕ → ℕ
amount_of side r = be (part r (side_at side + 4) 4)

abbrev pub price_of : Side → List ℕ → Option ℕ
price_of side r = price_from (amount_of side r)

-- 96-97, 98-105: tracking and time of the row's latest message
abbrev pub time_of : List ℕ → ℕ
time_of r = be (part r 98 8)

-- 106-113, 114-121: the time of the latest message that set bid and ask, zero when unseen (W-209)
abbrev pub side_time_at : Side → ℕ
side_time_at Bid = 106
side_time_at Ask = 114

abbrev pub side_time_of : Side → List ℕ → ℕ
side_time_of side r = be (part r (side_time_at side) 8)

-- a time that is unknown: all bits set
abbrev pub unknown_time : ℕ
unknown_time = 18_446_744_073_709_551_615

-- ---- the sides seen

-- is the side among those that the sum names?
abbrev pub has_seen : Side → ℕ → Bool
has_seen Bid sides = eqb (sides % 2) 1
has_seen Ask sides = eqb (sides / 2 % 2) 1

abbrev pub weight : Side → ℕ
weight Bid = 1
weight Ask = 2

-- the sum with the side in it
unfoldable pub seen_with : Side → ℕ → ℕ
seen_with side sides = cond (has_seen side sides) sides (sides + weight side)

-- ---- what a quote needs

-- T B S: continuous trading, and its special cases with the buy or the sell side suspended (W-201)
abbrev pub quoting_states : List ℕ
quoting_states = 84 ∷ 66 ∷ 83 ∷ []

-- may a row in this state take a quote?
abbrev pub state_takes_quote : ℕ → Bool
state_takes_quote state = listed quoting_states state

-- and tradable Y
unfoldable pub takes_quote : List ℕ → Bool
takes_quote r = state_takes_quote (state_of r) && eqb (tradable_of r) 89
