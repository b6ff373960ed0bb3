-- What the bytes of a message say to a row: the same records that reading makes of them.
-- Assumes nothing.
use Rattle.std.specs.Prelude.{ℕ, cond, List, eqb, get_or}
use Rattle.field.specs.Bytes.{part, be}
use Rattle.message.specs.Layout.{values}
use Rattle.message.specs.Letters.{stamp_rows, stamp_of, short_numbers_rows, numbers_of, long_numbers_rows, instrument_rows, instrument_of, texts_of, trading_action_rows, trading_action_of, LongNumbers}
use Rattle.message.specs.declared.Stamp.{Stamp}
use Rattle.message.specs.declared.Directory.{Directory}
use Rattle.message.specs.declared.Instrument.{Instrument}
use Rattle.message.specs.declared.TradingAction.{TradingAction}
use Rattle.message.specs.declared.Texts.{Texts}
use Rattle.message.specs.declared.Side.TheVariants.{Bid, Ask}
use Rattle.row.specs.Changes.{widened}
use Rattle.row.specs.declared.Sides.{Sides}
use Rattle.row.specs.declared.Sides.TheVariants.{One, Both}
use Rattle.row.specs.declared.Quote.{Quote}

abbrev pub stamp_in : List ℕ → Stamp
stamp_in bs = stamp_of (values stamp_rows bs)

abbrev pub long_in : ℕ → List ℕ → LongNumbers
long_in from bs = numbers_of (values (long_numbers_rows from) bs)

-- a row keeps ten-thousandths
abbrev pub short_in : ℕ → List ℕ → LongNumbers
short_in from bs = widened (numbers_of (values (short_numbers_rows from) bs))

abbrev pub action_in : List ℕ → TradingAction
action_in bs = trading_action_of (values trading_action_rows bs)

abbrev pub instrument_in : List ℕ → Instrument
instrument_in bs = instrument_of (values instrument_rows bs)

abbrev pub texts_in : List ℕ → Texts
texts_in bs = texts_of (values instrument_rows bs)

abbrev pub directory_in : List ℕ → Directory
directory_in bs = record { stamp = stamp_in bs; instrument = instrument_in bs }

-- b a q B A Q
unfoldable pub sides_in : ℕ → List ℕ → Sides
sides_in c bs =
    cond (eqb c 98) (One Bid (short_in 16 bs))
    (cond (eqb c 97) (One Ask (short_in 16 bs))
    (cond (eqb c 113) (Both (short_in 16 bs) (short_in 26 bs))
    (cond (eqb c 66) (One Bid (long_in 16 bs))
    (cond (eqb c 65) (One Ask (long_in 16 bs)) (Both (long_in 16 bs) (long_in 36 bs))))))

abbrev pub quote_in : List ℕ → Quote
quote_in bs =
    record { stamp = stamp_in bs; id = be (part bs 11 4); condition = be (part bs 15 1); sides = sides_in (get_or bs 0 0) bs }
