-- The definitions compute on messages.
-- Assumes nothing.
use mathlib.Core.Path.{◌≡◌, refl}
use mathlib.Core.List.{List, [], ◌∷◌, ◌++◌}
use Prim.Native.Nat.{ℕ, ◌^◌, ◌<◌}
use native.Mathlib.Omega.{arith}
use lib.ListN.{replicate}
use Rattle.field.specs.Bytes.{part, value, digits}
use Rattle.message.specs.Layout.{price_from, num, number_at, binary, row, values, keeps_all, bytes_for, tiled}
use Rattle.message.specs.Feed.{Letter, letter_among, fields_read, letter_read, bytes_read}
use Rattle.message.specs.Letters.{anything, listed, letters, no_texts}
use Rattle.message.specs.Message.{accepted, refused, read_of, bytes_of, keeps, outcome, write_of}
use Rattle.message.specs.declared.Message.{Message}
use Rattle.message.specs.declared.Message.TheVariants as message
use Rattle.std.specs.Prelude.{Option}
use Rattle.std.specs.Prelude.{Some, None}
use Rattle.message.specs.declared.Side.TheVariants.{Bid}
use Rattle.message.specs.declared.WriteRefusal.TheVariants.{BrokenRecord}
use Rattle.message.specs.declared.Refusal.{Refusal}
use Rattle.message.specs.declared.Refusal.TheVariants.{UnknownLetter, WrongLength, BadField}
use Rattle.message.proofs.Feeds.{written_read}
use Rattle.std.specs.Prelude.{Err}

-- start of messages, tracking number 7, at 9:30:00.123456789
start : Message
start = message.SystemEvent (record { stamp = record { tracking = 7; time = 34_200_123_456_789 }; code = 79 })

start_bytes : List ℕ
start_bytes = 83 ∷ 0 ∷ 7 ∷ 0 ∷ 0 ∷ 0x1F ∷ 0x1A ∷ 0xD6 ∷ 0x35 ∷ 0xBD ∷ 0x15 ∷ 79 ∷ []

read-start : read_of start_bytes ≡ accepted start no_texts
unfolding start start_bytes read_of bytes_read letter_read fields_read letters letter_among values keeps_all listed part value
read-start = refl

write-start : bytes_of start no_texts ≡ start_bytes
unfolding start start_bytes bytes_of bytes_for digits
write-start = refl

-- no event has the code A; the letter s is not listed; a byte is missing
bad-code : read_of (83 ∷ 0 ∷ 7 ∷ 0 ∷ 0 ∷ 0 ∷ 0 ∷ 0 ∷ 0 ∷ 0 ∷ 0 ∷ 65 ∷ []) ≡ refused BadField
unfolding read_of bytes_read letter_read fields_read letters letter_among values keeps_all listed part value
bad-code = refl

unknown-letter : read_of (115 ∷ []) ≡ refused UnknownLetter
unfolding read_of bytes_read letter_read letters letter_among
unknown-letter = refl

one-short : read_of (83 ∷ 0 ∷ 7 ∷ 0 ∷ 0 ∷ 0 ∷ 0 ∷ 0 ∷ 0 ∷ 0 ∷ 0 ∷ []) ≡ refused WrongLength
unfolding read_of bytes_read letter_read letters letter_among
one-short = refl

-- a bid for id 7: of 125 pennies, and of none
bid : Option ℕ → Message
bid p =
    message.ShortSide
    (record {
      stamp = record { tracking = 0; time = 0 };
      id = 7;
      condition = 32;
      side = Bid;
      numbers = record { market = 0; price = p; size = 0; customer = 0; professional = 0 };
    })

bid_bytes : ℕ → List ℕ
bid_bytes pennies = 98 ∷ (replicate 13 0 ++ (7 ∷ 32 ∷ 0 ∷ 0 ∷ 0 ∷ pennies ∷ replicate 6 0))

read-bid : read_of (bid_bytes 125) ≡ accepted (bid (Some 125)) no_texts
unfolding bid bid_bytes read_of bytes_read letter_read fields_read letters letter_among values keeps_all price_from listed part value
read-bid = refl

read_none : read_of (bid_bytes 0) ≡ accepted (bid None) no_texts
unfolding bid bid_bytes read_of bytes_read letter_read fields_read letters letter_among values keeps_all price_from listed part value
read_none = refl

-- zero held as a price above zero is not written, to output of any length, though its bytes would be those of none
zero-broken : (out : List ℕ) → write_of (bid (Some 0)) no_texts out ≡ outcome (Err BrokenRecord) out
unfolding bid write_of keeps keeps_all listed
zero-broken out = refl

same_bytes : bytes_of (bid (Some 0)) no_texts ≡ bytes_of (bid None) no_texts
unfolding bid bytes_of bytes_for digits
same_bytes = refl

-- another feed is another list: here of one letter, T, whose record is its one number
data Heard : Type 0 where
  heard : ℕ → Heard
  unheard : Refusal → Heard

abbrev tick : Letter ℕ
tick = record { code = 84; size = 3; rows = row 1 2 (binary anything) ∷ []; makes = λ vs. number_at vs 0 }

abbrev no_tick : Letter ℕ
no_tick = record { code = 0; size = 0; rows = []; makes = λ vs. 0 }

read-tick : bytes_read heard unheard no_tick (tick ∷ []) (84 ∷ 1 ∷ 2 ∷ []) ≡ heard 258
unfolding bytes_read letter_read fields_read letter_among values keeps_all part value
read-tick = refl

tick-back : (n : ℕ) → n < 256 ^ 2 → bytes_read heard unheard no_tick (tick ∷ []) (84 ∷ bytes_for tick.rows (num n ∷ [])) ≡ heard n
unfolding letter_among tiled keeps_all
tick-back n h = written_read heard unheard no_tick (tick ∷ []) tick (num n ∷ []) refl (λ e. omega arith) refl (h, tt) refl
