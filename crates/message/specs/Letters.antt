-- The ten letters: the layout of each, row for row as the feed publishes it, and the record that its fields make.
-- Byte 0 is the letter; the rows are the fields after it.
-- Assumes nothing.
use Rattle.std.specs.Prelude.{ℕ, ◌+◌, ◌*◌, ◌≡◌, Bool, true, false, cond, List, [], ◌∷◌, ◌++◌, eqb, drop, replicate}
use Rattle.field.specs.Limits.{time_in_range, price_in_range}
use Rattle.field.specs.Text.{within}
use Rattle.message.specs.Layout.{Value, num, raw, priced, number_at, bytes_at, price_at, binary, decimal, text, bytes, price, Row, row, from}
use Rattle.message.specs.Feed.{Letter, letter_among}
use Rattle.message.specs.declared.Stamp.{Stamp}
use Rattle.message.specs.declared.Side.{Side}
use Rattle.message.specs.declared.Side.TheVariants.{Bid, Ask}
use Rattle.std.specs.Prelude.{Option, Some, option_map}
use Rattle.message.specs.declared.SideNumbers.{SideNumbers}
use Rattle.message.specs.declared.Quote.{Quote}
use Rattle.message.specs.declared.OneSide.{OneSide}
use Rattle.message.specs.declared.SystemEvent.{SystemEvent}
use Rattle.message.specs.declared.Instrument.{Instrument}
use Rattle.message.specs.declared.Directory.{Directory}
use Rattle.message.specs.declared.TradingAction.{TradingAction}
use Rattle.message.specs.declared.EndOfReplay.{EndOfReplay}
use Rattle.message.specs.declared.Message.{Message}
use Rattle.message.specs.declared.Message.TheVariants as message
use Rattle.message.specs.declared.Texts.{Texts}

-- ---- what a field may hold

unfoldable pub listed : List ℕ → ℕ → Bool
listed [] c = false
listed (x ∷ xs) c = cond (eqb x c) true (listed xs c)

abbrev pub anything : ℕ → Bool
anything n = true

-- O S Q N L E C W
abbrev pub event_codes : List ℕ
event_codes = 79 ∷ 83 ∷ 81 ∷ 78 ∷ 76 ∷ 69 ∷ 67 ∷ 87 ∷ []

-- C P N
abbrev pub option_types : List ℕ
option_types = 67 ∷ 80 ∷ 78 ∷ []

-- N L W
abbrev pub closings : List ℕ
closings = 78 ∷ 76 ∷ 87 ∷ []

-- Y N
abbrev pub tradables : List ℕ
tradables = 89 ∷ 78 ∷ []

-- E S P
abbrev pub variations : List ℕ
variations = 69 ∷ 83 ∷ 80 ∷ []

-- B S H T I O R X
abbrev pub states : List ℕ
states = 66 ∷ 83 ∷ 72 ∷ 84 ∷ 73 ∷ 79 ∷ 82 ∷ 88 ∷ []

-- space, X, Y
abbrev pub conditions : List ℕ
conditions = 32 ∷ 88 ∷ 89 ∷ []

-- ---- THE LAYOUTS

-- tracking number, time
abbrev pub stamp_rows : List Row
stamp_rows = row 1 2 (binary anything) ∷ row 3 8 (binary time_in_range) ∷ []

-- S: event code
abbrev pub system_event_rows : List Row
system_event_rows = stamp_rows ++ (row 11 1 (binary (listed event_codes)) ∷ [])

-- m: the instrument's own fields
abbrev pub instrument_rows : List Row
instrument_rows =
    row 11 4 (binary anything)  -- instrument id
    ∷ row 15 8 text  -- symbol
    ∷ row 23 1 (binary (within 0 99))  -- year
    ∷ row 24 1 (binary (within 1 12))  -- month
    ∷ row 25 1 (binary (within 1 31))  -- day
    ∷ row 26 4 (binary price_in_range)  -- strike
    ∷ row 30 1 (binary (listed option_types))  -- type
    ∷ row 31 13 text  -- underlying
    ∷ row 44 1 (binary (listed closings))  -- closing
    ∷ row 45 1 (binary (listed tradables))  -- tradable
    ∷ row 46 1 (binary (listed variations))  -- variation
    ∷ row 47 16 bytes  -- reserved
    ∷ []

abbrev pub directory_rows : List Row
directory_rows = stamp_rows ++ instrument_rows

-- the same bytes by themselves, from byte 0, and how many they are
abbrev pub entry_rows : List Row
entry_rows = from 11 instrument_rows

abbrev pub entry_size : ℕ
entry_size = 52

-- H: instrument id, state
abbrev pub trading_action_rows : List Row
trading_action_rows = stamp_rows ++ (row 11 4 (binary anything) ∷ row 15 1 (binary (listed states)) ∷ [])

-- the fields of a quote before its sides: instrument id, condition
abbrev pub quote_rows : List Row
quote_rows = stamp_rows ++ (row 11 4 (binary anything) ∷ row 15 1 (binary (listed conditions)) ∷ [])

-- a side in numbers of w bytes each: market order size, price, size, customer, professional; a price of 0 says that there is none
abbrev pub numbers_rows : ℕ → (ℕ → Bool) → ℕ → List Row
numbers_rows w keeps at =
    row at w (binary anything)
    ∷ row (at + w) w (price keeps)
    ∷ row (at + 2 * w) w (binary anything)
    ∷ row (at + 3 * w) w (binary anything)
    ∷ row (at + 4 * w) w (binary anything)
    ∷ []

-- bid, ask
abbrev pub whole_quote_rows : ℕ → (ℕ → Bool) → List Row
whole_quote_rows w keeps = quote_rows ++ (numbers_rows w keeps 16 ++ numbers_rows w keeps (16 + 5 * w))

-- one side
abbrev pub one_side_rows : ℕ → (ℕ → Bool) → List Row
one_side_rows w keeps = quote_rows ++ numbers_rows w keeps 16

-- in two bytes a price is pennies, and in four ten-thousandths of a dollar
abbrev pub short_numbers_rows : ℕ → List Row
short_numbers_rows = numbers_rows 2 anything

abbrev pub long_numbers_rows : ℕ → List Row
long_numbers_rows = numbers_rows 4 price_in_range

-- q: bid, ask
abbrev pub short_quote_rows : List Row
short_quote_rows = whole_quote_rows 2 anything

-- Q: bid, ask
abbrev pub long_quote_rows : List Row
long_quote_rows = whole_quote_rows 4 price_in_range

-- b a: one side
abbrev pub short_side_rows : List Row
short_side_rows = one_side_rows 2 anything

-- B A: one side
abbrev pub long_side_rows : List Row
long_side_rows = one_side_rows 4 price_in_range

-- M: number
abbrev pub end_of_replay_rows : List Row
end_of_replay_rows = row 1 20 decimal ∷ []

-- ---- THE RECORDS: made of the fields, in the order of the rows, and taken apart again

abbrev pub stamp_of : List Value → Stamp
stamp_of vs = record { tracking = number_at vs 0; time = number_at vs 1 }

abbrev pub stamp_fields : Stamp → List Value
stamp_fields s = num s.tracking ∷ num s.time ∷ []

abbrev pub system_event_of : List Value → SystemEvent
system_event_of vs = record { stamp = stamp_of vs; code = number_at vs 2 }

abbrev pub system_event_fields : SystemEvent → List Value
system_event_fields m = stamp_fields m.stamp ++ (num m.code ∷ [])

abbrev pub instrument_of : List Value → Instrument
instrument_of vs =
    record {
      id = number_at vs 0;
      year = number_at vs 2;
      month = number_at vs 3;
      day = number_at vs 4;
      strike = number_at vs 5;
      kind = number_at vs 6;
      closing = number_at vs 8;
      tradable = number_at vs 9;
      variation = number_at vs 10;
    }

abbrev pub texts_of : List Value → Texts
texts_of vs = record { symbol = bytes_at vs 1; underlying = bytes_at vs 7; reserved = bytes_at vs 11 }

abbrev pub instrument_fields : Instrument → Texts → List Value
instrument_fields m t =
    num m.id
    ∷ raw t.symbol
    ∷ num m.year
    ∷ num m.month
    ∷ num m.day
    ∷ num m.strike
    ∷ num m.kind
    ∷ raw t.underlying
    ∷ num m.closing
    ∷ num m.tradable
    ∷ num m.variation
    ∷ raw t.reserved
    ∷ []

abbrev pub directory_of : List Value → Directory
directory_of vs = record { stamp = stamp_of vs; instrument = instrument_of (drop 2 vs) }

abbrev pub directory_fields : Directory → Texts → List Value
directory_fields m t = stamp_fields m.stamp ++ instrument_fields m.instrument t

abbrev pub trading_action_of : List Value → TradingAction
trading_action_of vs = record { stamp = stamp_of vs; id = number_at vs 2; state = number_at vs 3 }

abbrev pub trading_action_fields : TradingAction → List Value
trading_action_fields m = stamp_fields m.stamp ++ (num m.id ∷ num m.state ∷ [])

-- a side, a quote and a quote of one side, in numbers of two bytes and of four: as numbers they are the same records, and the messages that hold them differ
abbrev pub ShortNumbers : Type 0
ShortNumbers = SideNumbers ℕ

abbrev pub LongNumbers : Type 0
LongNumbers = SideNumbers ℕ

abbrev pub ShortQuote : Type 0
ShortQuote = Quote ℕ

abbrev pub LongQuote : Type 0
LongQuote = Quote ℕ

abbrev pub ShortSide : Type 0
ShortSide = OneSide ℕ

abbrev pub LongSide : Type 0
LongSide = OneSide ℕ

abbrev pub numbers_of : List Value → SideNumbers ℕ
numbers_of vs =
    record {
      market = number_at vs 0;
      price = price_at vs 1;
      size = number_at vs 2;
      customer = number_at vs 3;
      professional = number_at vs 4;
    }

abbrev pub numbers_fields : SideNumbers ℕ → List Value
numbers_fields m = num m.market ∷ priced m.price ∷ num m.size ∷ num m.customer ∷ num m.professional ∷ []

-- the fields of a quote before its sides
abbrev pub quote_fields : Stamp → ℕ → ℕ → List Value
quote_fields s id condition = stamp_fields s ++ (num id ∷ num condition ∷ [])

abbrev pub whole_quote_of : List Value → Quote ℕ
whole_quote_of vs =
    record {
      stamp = stamp_of vs;
      id = number_at vs 2;
      condition = number_at vs 3;
      bid = numbers_of (drop 4 vs);
      ask = numbers_of (drop 9 vs);
    }

abbrev pub whole_quote_fields : Quote ℕ → List Value
whole_quote_fields m = quote_fields m.stamp m.id m.condition ++ (numbers_fields m.bid ++ numbers_fields m.ask)

abbrev pub one_side_of : Side → List Value → OneSide ℕ
one_side_of side vs =
    record {
      stamp = stamp_of vs;
      id = number_at vs 2;
      condition = number_at vs 3;
      side = side;
      numbers = numbers_of (drop 4 vs);
    }

abbrev pub one_side_fields : OneSide ℕ → List Value
one_side_fields m = quote_fields m.stamp m.id m.condition ++ numbers_fields m.numbers

-- the same records with f of each of their numbers, as where T holds them in two bytes or in four and f says which number it is
module _ {T : Type 0} (f : T → ℕ) where
  abbrev pub map_numbers : SideNumbers T → SideNumbers ℕ
  map_numbers m =
      record {
        market = f m.market;
        price = option_map f m.price;
        size = f m.size;
        customer = f m.customer;
        professional = f m.professional;
      }

  abbrev pub map_quote : Quote T → Quote ℕ
  map_quote m =
      record {
        stamp = m.stamp;
        id = m.id;
        condition = m.condition;
        bid = map_numbers m.bid;
        ask = map_numbers m.ask;
      }

  abbrev pub map_side : OneSide T → OneSide ℕ
  map_side m =
      record {
        stamp = m.stamp;
        id = m.id;
        condition = m.condition;
        side = m.side;
        numbers = map_numbers m.numbers;
      }

abbrev pub end_of_replay_of : List Value → EndOfReplay
end_of_replay_of vs = record { number = number_at vs 0 }

abbrev pub end_of_replay_fields : EndOfReplay → List Value
end_of_replay_fields m = num m.number ∷ []

-- the fields of a message of any kind; only a directory has texts
abbrev pub fields_of : Message → Texts → List Value
fields_of (message.SystemEvent m) t = system_event_fields m
fields_of (message.Directory m) t = directory_fields m t
fields_of (message.TradingAction m) t = trading_action_fields m
fields_of (message.ShortQuote m) t = whole_quote_fields m
fields_of (message.LongQuote m) t = whole_quote_fields m
fields_of (message.ShortSide m) t = one_side_fields m
fields_of (message.LongSide m) t = one_side_fields m
fields_of (message.EndOfReplay m) t = end_of_replay_fields m

abbrev pub no_texts : Texts
no_texts = record { symbol = replicate 8 0; underlying = replicate 13 0; reserved = replicate 16 0 }

-- the prices that a message holds; a strike is a number
abbrev pub prices_of : Message → List (Option ℕ)
prices_of (message.SystemEvent m) = []
prices_of (message.Directory m) = []
prices_of (message.TradingAction m) = []
prices_of (message.ShortQuote m) = m.bid.price ∷ m.ask.price ∷ []
prices_of (message.LongQuote m) = m.bid.price ∷ m.ask.price ∷ []
prices_of (message.ShortSide m) = m.numbers.price ∷ []
prices_of (message.LongSide m) = m.numbers.price ∷ []
prices_of (message.EndOfReplay m) = []

-- zero is held as a price above zero by none of them
abbrev pub NoZero : List (Option ℕ) → Type 0
NoZero [] = Unit
NoZero (x ∷ xs) = (x ≡ Some 0 → ⊥) × NoZero xs

-- ---- THE TEN LETTERS, each with its exact length

-- what a message says: its record, and the texts beside it
abbrev pub Content : Type 0
Content = Message × Texts

abbrev pub letter : ℕ → ℕ → List Row → (List Value → Message) → Letter Content
letter code size rows makes = record { code = code; size = size; rows = rows; makes = λ vs. (makes vs, no_texts) }

-- S 12
abbrev pub system_event_letter : Letter Content
system_event_letter = letter 83 12 system_event_rows (λ vs. message.SystemEvent (system_event_of vs))

-- m 63
abbrev pub directory_letter : Letter Content
directory_letter =
    record {
      code = 109;
      size = 63;
      rows = directory_rows;
      makes = λ vs. (message.Directory (directory_of vs), texts_of (drop 2 vs));
    }

-- H 16
abbrev pub trading_action_letter : Letter Content
trading_action_letter = letter 72 16 trading_action_rows (λ vs. message.TradingAction (trading_action_of vs))

-- a form of a quote, beside the width of its numbers: the rule of a price, the letters, and the messages that hold it
pub record Form : Type 0 where
  pub keeps : ℕ → Bool
  pub quote_code : ℕ
  pub side_code : Side → ℕ
  pub quote : Quote ℕ → Message
  pub side : OneSide ℕ → Message

abbrev pub quote_letter : ℕ → Form → Letter Content
quote_letter w f = letter f.quote_code (16 + 10 * w) (whole_quote_rows w f.keeps) (λ vs. f.quote (whole_quote_of vs))

abbrev pub side_letter : ℕ → Form → Side → Letter Content
side_letter w f s = letter (f.side_code s) (16 + 5 * w) (one_side_rows w f.keeps) (λ vs. f.side (one_side_of s vs))

-- b a; bid is b
abbrev pub short_side_code : Side → ℕ
short_side_code Bid = 98
short_side_code Ask = 97

-- B A; bid is B
abbrev pub long_side_code : Side → ℕ
long_side_code Bid = 66
long_side_code Ask = 65

abbrev pub short_form : Form
short_form = record { keeps = anything; quote_code = 113; side_code = short_side_code; quote = message.ShortQuote; side = message.ShortSide }

abbrev pub long_form : Form
long_form = record { keeps = price_in_range; quote_code = 81; side_code = long_side_code; quote = message.LongQuote; side = message.LongSide }

-- q 36
abbrev pub short_quote_letter : Letter Content
short_quote_letter = quote_letter 2 short_form

-- Q 56
abbrev pub long_quote_letter : Letter Content
long_quote_letter = quote_letter 4 long_form

-- b a 26
abbrev pub short_side_letter : Side → Letter Content
short_side_letter = side_letter 2 short_form

-- B A 36
abbrev pub long_side_letter : Side → Letter Content
long_side_letter = side_letter 4 long_form

-- M 21
abbrev pub end_of_replay_letter : Letter Content
end_of_replay_letter = letter 77 21 end_of_replay_rows (λ vs. message.EndOfReplay (end_of_replay_of vs))

unfoldable pub letters : List (Letter Content)
letters =
    system_event_letter
    ∷ directory_letter
    ∷ trading_action_letter
    ∷ short_quote_letter
    ∷ long_quote_letter
    ∷ short_side_letter Bid
    ∷ short_side_letter Ask
    ∷ long_side_letter Bid
    ∷ long_side_letter Ask
    ∷ end_of_replay_letter
    ∷ []

-- the letter of a message
abbrev pub letter_for : Message → Letter Content
letter_for (message.SystemEvent m) = system_event_letter
letter_for (message.Directory m) = directory_letter
letter_for (message.TradingAction m) = trading_action_letter
letter_for (message.ShortQuote m) = short_quote_letter
letter_for (message.LongQuote m) = long_quote_letter
letter_for (message.ShortSide m) = short_side_letter m.side
letter_for (message.LongSide m) = long_side_letter m.side
letter_for (message.EndOfReplay m) = end_of_replay_letter

-- a code that is not listed: no message is of its length
abbrev pub unlisted : Letter Content
unlisted = letter 0 0 [] (λ vs. message.EndOfReplay (end_of_replay_of vs))

abbrev pub letter_in : List (Letter Content) → ℕ → Letter Content
letter_in = letter_among unlisted
