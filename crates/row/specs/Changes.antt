-- What each message does to a row: bytes laid over it at document 01's places, and nothing else.
-- Assumes nothing.
use Rattle.std.specs.Prelude.{ℕ, ◌+◌, Bool, true, ◌&&◌, ◌||◌, cond, List, [], ◌∷◌, ◌++◌, eqb, leb, replicate}
use Rattle.field.specs.Bytes.{overlay, bytes_be, same}
use Rattle.field.specs.Limits.{ten_thousandths}
use Rattle.message.specs.Layout.{bytes_for}
use Rattle.message.specs.Letters.{stamp_rows, stamp_fields, long_numbers_rows, numbers_fields, instrument_rows, instrument_fields, entry_size, ShortNumbers, LongNumbers}
use Rattle.message.specs.declared.Stamp.{Stamp}
use Rattle.message.specs.declared.Side.{Side}
use Rattle.message.specs.declared.Side.TheVariants.{Bid, Ask}
use Rattle.std.specs.Prelude.{Option, Some, None}
use Rattle.message.specs.declared.Instrument.{Instrument}
use Rattle.message.specs.declared.Directory.{Directory}
use Rattle.message.specs.declared.TradingAction.{TradingAction}
use Rattle.message.specs.declared.Texts.{Texts}
use Rattle.row.specs.Fields.{row_size, instrument_in, texts_in, side_at, side_time_at, sides_of, seen_with}
use Rattle.row.specs.declared.Sides.{Sides}
use Rattle.row.specs.declared.Sides.TheVariants.{One, Both}
use Rattle.row.specs.declared.Quote.{Quote}

-- so many bytes, laid over a row from a place on
pub record Change : Type 0 where
  pub at : ℕ
  pub width : ℕ
  pub bytes : List ℕ

abbrev pub change : ℕ → ℕ → List ℕ → Change
change at width bytes = record { at = at; width = width; bytes = bytes }

-- a row after some changes
unfoldable pub changed : List Change → List ℕ → List ℕ
changed [] r = r
changed (c ∷ cs) r = changed cs (overlay r c.at c.bytes)

-- so many bytes from a place on
pub record Place : Type 0 where
  pub at : ℕ
  pub width : ℕ

abbrev pub place : ℕ → ℕ → Place
place at width = record { at = at; width = width }

-- the n bytes from byte i on are outside of all the places
unfoldable pub outside : ℕ → ℕ → List Place → Bool
outside i n [] = true
outside i n (p ∷ ps) = (leb (i + n) p.at || leb (p.at + p.width) i) && outside i n ps

abbrev pub places : List Change → List Place
places [] = []
places (c ∷ cs) = place c.at c.width ∷ places cs

-- ---- the changes, by their place

-- bytes 11-62 of a directory
abbrev pub entry_change : Instrument → Texts → Change
entry_change i t = change 0 entry_size (bytes_for instrument_rows (instrument_fields i t))

abbrev pub state_change : ℕ → Change
state_change state = change 52 1 (bytes_be 1 state)

abbrev pub condition_change : ℕ → Change
condition_change condition = change 53 1 (bytes_be 1 condition)

abbrev pub seen_change : ℕ → Change
seen_change sides = change 54 1 (bytes_be 1 sides)

abbrev pub numbers_change : ℕ → LongNumbers → Change
numbers_change at n = change at 20 (bytes_for (long_numbers_rows at) (numbers_fields n))

-- tracking and time
abbrev pub stamp_change : Stamp → Change
stamp_change s = change 96 10 (bytes_for stamp_rows (stamp_fields s))

-- the time of the latest message that set the side (W-209)
abbrev pub side_time_change : Side → ℕ → Change
side_time_change side time = change (side_time_at side) 8 (bytes_be 8 time)

-- the quotes are purged: condition space, bytes 54-95 zero, and the times of both sides zero again (W-209)
abbrev pub purge : List Change
purge = change 53 1 (bytes_be 1 32) ∷ change 54 42 (replicate 42 0) ∷ change 106 16 (replicate 16 0) ∷ []

-- ---- a directory

-- with tradable N the quotes are purged
abbrev pub purge_for : Bool → List Change
purge_for b = cond b purge []

-- for a known id
unfoldable pub directory_changes : Directory → Texts → List Change
directory_changes d t =
    entry_change d.instrument t ∷ stamp_change d.stamp ∷ purge_for (eqb d.instrument.tradable 78)

-- symbol, date, strike and type must not differ
unfoldable pub unchanged : Instrument → Texts → List ℕ → Bool
unchanged i t r =
    same (texts_in r).symbol t.symbol
    && (eqb (instrument_in r).year i.year
    && (eqb (instrument_in r).month i.month
    && (eqb (instrument_in r).day i.day
    && (eqb (instrument_in r).strike i.strike && eqb (instrument_in r).kind i.kind))))

-- for a new id: bytes 0-51, condition space, all else zero, and the stamp
unfoldable pub new_row : Directory → Texts → List ℕ
new_row d t = changed (entry_change d.instrument t ∷ condition_change 32 ∷ stamp_change d.stamp ∷ []) (replicate row_size 0)

-- ---- a trading action

unfoldable pub action_changes : TradingAction → List Change
action_changes a = state_change a.state ∷ stamp_change a.stamp ∷ []

-- ---- a quote

-- the table keeps ten-thousandths: short prices are pennies
abbrev pub widened_price : Option ℕ → Option ℕ
widened_price (Some n) = Some (ten_thousandths n)
widened_price None = None

abbrev pub widened : ShortNumbers → LongNumbers
widened n =
    record {
      market = n.market;
      price = widened_price n.price;
      size = n.size;
      customer = n.customer;
      professional = n.professional;
    }

-- its own side or sides
unfoldable pub sides_changes : Sides → ℕ → List Change
sides_changes (One side n) seen = seen_change (seen_with side seen) ∷ numbers_change (side_at side) n ∷ []
sides_changes (Both bid ask) seen =
    seen_change (seen_with Ask (seen_with Bid seen)) ∷ numbers_change (side_at Bid) bid ∷ numbers_change (side_at Ask) ask ∷ []

-- and their times (W-209)
unfoldable pub times_changes : Sides → ℕ → List Change
times_changes (One side n) time = side_time_change side time ∷ []
times_changes (Both bid ask) time = side_time_change Bid time ∷ side_time_change Ask time ∷ []

abbrev pub own_changes : Sides → ℕ → ℕ → List Change
own_changes sides seen time = sides_changes sides seen ++ times_changes sides time

unfoldable pub quote_changes : Quote → List ℕ → List Change
quote_changes q r = condition_change q.condition ∷ stamp_change q.stamp ∷ own_changes q.sides (sides_of r) q.stamp.time

-- the numbers that it sets a side to, or none
pub data Quoted : Type 0 where
  quoted : LongNumbers → Quoted
  unquoted : Quoted

abbrev pub quoted_by : Sides → Side → Quoted
quoted_by (One Bid n) Bid = quoted n
quoted_by (One Bid n) Ask = unquoted
quoted_by (One Ask n) Bid = unquoted
quoted_by (One Ask n) Ask = quoted n
quoted_by (Both bid ask) Bid = quoted bid
quoted_by (Both bid ask) Ask = quoted ask

-- ---- which bytes of a row a message may change

-- a directory for a known id: its own bytes, and those of the quotes with tradable N
abbrev pub directory_places : Directory → List Place
directory_places d = place 0 entry_size ∷ place 96 10 ∷ cond (eqb d.instrument.tradable 78) (place 53 1 ∷ place 54 42 ∷ place 106 16 ∷ []) []

-- a state
abbrev pub action_places : List Place
action_places = place 52 1 ∷ place 96 10 ∷ []

-- a quote: the condition, the sides seen, and its own side or sides and their times
abbrev pub sides_places : Sides → List Place
sides_places (One side n) = place (side_at side) 20 ∷ []
sides_places (Both bid ask) = place 56 20 ∷ place 76 20 ∷ []

abbrev pub times_places : Sides → List Place
times_places (One side n) = place (side_time_at side) 8 ∷ []
times_places (Both bid ask) = place 106 8 ∷ place 114 8 ∷ []

abbrev pub quote_places : Sides → List Place
quote_places sides = place 53 1 ∷ place 96 10 ∷ place 54 1 ∷ sides_places sides ++ times_places sides
