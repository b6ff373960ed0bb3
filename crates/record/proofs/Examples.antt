-- The definitions compute on messages.
-- Assumes nothing.
use mathlib.Core.Path.{◌≡◌, refl}
use mathlib.Core.List.{List, [], ◌∷◌, ◌++◌}
use Prim.Native.Nat.{ℕ}
use lib.ListN.{replicate, set}
use Rattle.field.specs.Bytes.{part, overlay, digits, value, same}
use Rattle.message.specs.Layout.{price_from, values}
use Rattle.message.specs.Feed.{letter_among}
use Rattle.message.specs.Letters.{no_texts}
use Rattle.message.specs.declared.Message.{Message}
use Rattle.message.specs.declared.Message.TheVariants as message
use Rattle.message.specs.declared.Side.TheVariants.{Ask}
use Rattle.std.specs.Prelude.{Option}
use Rattle.std.specs.Prelude.{Some, None}
use Rattle.record.specs.Places.{record_letters}
use Rattle.record.specs.Record.{laid, laid_over, record_bytes, held, no_record, said_by, said_of, confirmed, record_of}

-- a short ask, tracking number 1, id 7, condition space, time 2: 3 at 125 pennies, of them 5 in size, 6 of customers, 8 of professionals
ask_at : Option ℕ → Message
ask_at price =
    message.ShortSide
    (record {
      stamp = record { tracking = 1; time = 2 };
      id = 7;
      condition = 32;
      side = Ask;
      numbers = record { market = 3; price = price; size = 5; customer = 6; professional = 8 };
    })

ask : Message
ask = ask_at (Some 125)

ask_record : List ℕ
ask_record =
    (97 ∷ 32 ∷ 0 ∷ 1 ∷ 0 ∷ 0 ∷ 0 ∷ 7 ∷ 0 ∷ 0 ∷ 0 ∷ 0 ∷ 0 ∷ 0 ∷ 0 ∷ 2 ∷ [])
    ++ (replicate 28 0 ++ ((0 ∷ 0 ∷ 0 ∷ 3 ∷ 0 ∷ 0 ∷ 0 ∷ 125 ∷ 0 ∷ 0 ∷ 0 ∷ 5 ∷ 0 ∷ 0 ∷ 0 ∷ 6 ∷ 0 ∷ 0 ∷ 0 ∷ 8 ∷ []) ++ replicate 48 0))

put-ask : record_bytes ask no_texts ≡ ask_record
unfolding ask_at ask ask_record record_bytes laid_over laid overlay digits
put-ask = refl

take-ask : record_of ask_record ≡ held ask no_texts
unfolding ask_at ask ask_record record_of confirmed said_of said_by record_letters letter_among values price_from part value same record_bytes laid_over laid overlay digits
take-ask = refl

-- a price of 65,536, a byte of the bid, a letter that is not listed
wide-price : record_of (set ask_record 49 1) ≡ no_record
unfolding ask_record record_of confirmed said_of said_by record_letters letter_among values price_from part value same record_bytes laid_over laid overlay digits
wide-price = refl

stray-byte : record_of (set ask_record 24 1) ≡ no_record
unfolding ask_record record_of confirmed said_of said_by record_letters letter_among values price_from part value same record_bytes laid_over laid overlay digits
stray-byte = refl

unknown-letter : record_of (set ask_record 0 115) ≡ no_record
unfolding ask_record record_of confirmed said_of said_by record_letters letter_among values price_from part value same record_bytes laid_over laid overlay digits
unknown-letter = refl

-- a price of 0 is none; and so a record can't tell zero held as a price above zero from none
put-none : record_bytes (ask_at None) no_texts ≡ set ask_record 51 0
unfolding ask_at ask_record record_bytes laid_over laid overlay digits
put-none = refl

take_none : record_of (set ask_record 51 0) ≡ held (ask_at None) no_texts
unfolding ask_at ask_record record_of confirmed said_of said_by record_letters letter_among values price_from part value same record_bytes laid_over laid overlay digits
take_none = refl

put-zero : record_bytes (ask_at (Some 0)) no_texts ≡ record_bytes (ask_at None) no_texts
unfolding ask_at record_bytes laid_over laid overlay digits
put-zero = refl
