-- The record of a message in bytes: where each field stands, the same places for all letters.
-- Byte 0 is the letter; the rows are a letter's fields after it, in the order of the feed's own layout.
-- Assumes nothing.
use Rattle.std.specs.Prelude.{ℕ, ◌+◌, ◌-◌, List, [], ◌∷◌, ◌++◌}
use Rattle.message.specs.Layout.{Row, row, binary, bytes, price}
use Rattle.message.specs.Feed.{Letter}
use Rattle.message.specs.Letters.{Content, anything, letter_for, system_event_letter, directory_letter, trading_action_letter, short_quote_letter, long_quote_letter, short_side_letter, long_side_letter, end_of_replay_letter}
use Rattle.message.specs.declared.Side.{Side}
use Rattle.message.specs.declared.Side.TheVariants.{Bid, Ask}
use Rattle.message.specs.declared.Message.{Message}
use Rattle.message.specs.declared.Message.TheVariants as message

abbrev pub record_size : ℕ
record_size = 112

-- a big-endian number of so many bytes; whether it keeps the field rules is not a record's matter
abbrev pub number : ℕ → ℕ → Row
number at width = row at width (binary anything)

-- a price is such a number, in which 0 says none
abbrev pub price_place : ℕ → ℕ → Row
price_place at width = row at width (price anything)

abbrev pub letter_place : Row
letter_place = number 0 1

-- the event code of S, the state of H, the condition of a quote
abbrev pub code_place : Row
code_place = number 1 1

abbrev pub id_place : Row
id_place = number 4 4

-- tracking number, time
abbrev pub stamp_places : List Row
stamp_places = number 2 2 ∷ number 8 8 ∷ []

-- bid 24-43, ask 44-63
abbrev pub side_at : Side → ℕ
side_at Bid = 24
side_at Ask = 44

-- a side has five places of four bytes: market, price, size, customer, professional; each number of w bytes stands in the low w of its place, so that
-- those of a short quote are the same number in all four
abbrev pub low_places : ℕ → ℕ → List Row
low_places w low = number low w ∷ price_place (low + 4) w ∷ number (low + 8) w ∷ number (low + 12) w ∷ number (low + 16) w ∷ []

abbrev pub side_places : ℕ → ℕ → List Row
side_places w at = low_places w (at + (4 - w))

-- and the two high bytes of each are 0 in a short quote
abbrev pub high_places : ℕ → List Row
high_places at = number at 2 ∷ number (at + 4) 2 ∷ number (at + 8) 2 ∷ number (at + 12) 2 ∷ number (at + 16) 2 ∷ []

-- year, month, day
abbrev pub date_places : List Row
date_places = number 68 1 ∷ number 69 1 ∷ number 70 1 ∷ []

-- closing type, tradable, variation
abbrev pub marks_places : List Row
marks_places = number 72 1 ∷ number 73 1 ∷ number 74 1 ∷ []

-- id, symbol, date, strike, option type
abbrev pub terms_places : List Row
terms_places = id_place ∷ row 75 8 bytes ∷ (date_places ++ (number 64 4 ∷ number 71 1 ∷ []))

-- underlying, marks, reserved
abbrev pub market_places : List Row
market_places = row 83 13 bytes ∷ (marks_places ++ (row 96 16 bytes ∷ []))

abbrev pub instrument_places : List Row
instrument_places = terms_places ++ market_places

-- ---- the letters

abbrev pub system_event_places : List Row
system_event_places = stamp_places ++ (code_place ∷ [])

abbrev pub directory_places : List Row
directory_places = stamp_places ++ instrument_places

-- H, and the fields of a quote before its sides
abbrev pub head_places : List Row
head_places = stamp_places ++ (id_place ∷ code_place ∷ [])

-- a quote in numbers of w bytes: both of its sides, or one
abbrev pub whole_quote_places : ℕ → List Row
whole_quote_places w = head_places ++ (side_places w (side_at Bid) ++ side_places w (side_at Ask))

abbrev pub one_side_places : ℕ → Side → List Row
one_side_places w side = head_places ++ side_places w (side_at side)

abbrev pub short_quote_places : List Row
short_quote_places = whole_quote_places 2

abbrev pub long_quote_places : List Row
long_quote_places = whole_quote_places 4

abbrev pub short_side_places : Side → List Row
short_side_places = one_side_places 2

abbrev pub long_side_places : Side → List Row
long_side_places = one_side_places 4

abbrev pub end_of_replay_places : List Row
end_of_replay_places = number 16 8 ∷ []

abbrev pub places_for : Message → List Row
places_for (message.SystemEvent m) = system_event_places
places_for (message.Directory m) = directory_places
places_for (message.TradingAction m) = head_places
places_for (message.ShortQuote m) = short_quote_places
places_for (message.LongQuote m) = long_quote_places
places_for (message.ShortSide m) = short_side_places m.side
places_for (message.LongSide m) = long_side_places m.side
places_for (message.EndOfReplay m) = end_of_replay_places

-- a letter of the feed, with its fields at their places in a record
abbrev pub record_letter : Letter Content → List Row → Letter Content
record_letter l rows = record { code = l.code; size = record_size; rows = rows; makes = l.makes }

unfoldable pub record_letters : List (Letter Content)
record_letters =
    record_letter system_event_letter system_event_places
    ∷ record_letter directory_letter directory_places
    ∷ record_letter trading_action_letter head_places
    ∷ record_letter short_quote_letter short_quote_places
    ∷ record_letter long_quote_letter long_quote_places
    ∷ record_letter (short_side_letter Bid) (short_side_places Bid)
    ∷ record_letter (short_side_letter Ask) (short_side_places Ask)
    ∷ record_letter (long_side_letter Bid) (long_side_places Bid)
    ∷ record_letter (long_side_letter Ask) (long_side_places Ask)
    ∷ record_letter end_of_replay_letter end_of_replay_places
    ∷ []

abbrev pub record_letter_for : Message → Letter Content
record_letter_for m = record_letter (letter_for m) (places_for m)
