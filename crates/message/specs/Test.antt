-- Bytes tested where they lie: what a test says of a reading, and what it asks of a quote.
-- Assumes nothing.
use Rattle.std.specs.Prelude.{ℕ, ◌+◌, Bool, true, ◌&&◌, cond, List, [], ◌∷◌, eqb, leb}
use Rattle.field.specs.Bytes.{part, be}
use Rattle.field.specs.Limits.{price_in_range}
use Rattle.field.specs.Text.{within, is_text}
use Rattle.message.specs.Letters.{Content, letter_in, listed, option_types, closings, tradables, variations, short_quote_letter, long_quote_letter, short_side_letter, long_side_letter}
use Rattle.message.specs.Feed.{Letter}
use Rattle.message.specs.Message.{refusal_number}
use Rattle.message.specs.declared.Side.TheVariants.{Bid, Ask}
use Rattle.message.specs.declared.Reading.{Reading}
use Rattle.std.specs.Prelude.{Err}
use Rattle.std.specs.Prelude.{Ok}
use Rattle.std.specs.Prelude.{Result}
use Rattle.message.specs.declared.Refusal.{Refusal}
use Rattle.message.specs.declared.Message.{Message}

-- 0 for a message, or the number of the refusal
abbrev pub tested_as : Result Message Refusal → ℕ
tested_as (Ok m) = 0
tested_as (Err r) = refusal_number r

abbrev pub tested : Reading → ℕ
tested r = tested_as r.answer

-- that a reading is a message, or its refusal
abbrev pub checked_as : Result Message Refusal → Result (Unit {0}) Refusal
checked_as (Ok m) = Ok (tt {0})
checked_as (Err r) = Err r

abbrev pub checked : Reading → Result (Unit {0}) Refusal
checked r = checked_as r.answer

abbrev pub number_in : Result (Unit {0}) Refusal → ℕ
number_in (Ok u) = 0
number_in (Err r) = refusal_number r

unfoldable pub quote_letters : List (Letter Content)
quote_letters =
    short_quote_letter ∷ long_quote_letter ∷ short_side_letter Bid ∷ short_side_letter Ask ∷ long_side_letter Bid ∷ long_side_letter Ask ∷ []

-- the length of a quote's letter, 0 for any other letter
unfoldable pub quote_length : ℕ → ℕ
quote_length c = (letter_in quote_letters c).size

-- the prices of a long form, whose letter is a capital; Q has two
unfoldable pub prices_keep : ℕ → List ℕ → Bool
prices_keep c bs =
    cond (leb 97 c) true (price_in_range (be (part bs 20 4)) && cond (eqb c 81) (price_in_range (be (part bs 40 4))) true)

-- the rules of an instrument's fields, at these places
unfoldable pub entry_keeps : List ℕ → ℕ → ℕ → ℕ → ℕ → ℕ → ℕ → Bool
entry_keeps bs symbol date strike kind underlying marks =
    is_text (part bs symbol 8)
    && (within 0 99 (be (part bs date 1))
    && (within 1 12 (be (part bs (date + 1) 1))
    && (within 1 31 (be (part bs (date + 2) 1))
    && (price_in_range (be (part bs strike 4))
    && (listed option_types (be (part bs kind 1))
    && (is_text (part bs underlying 13)
    && (listed closings (be (part bs marks 1))
    && (listed tradables (be (part bs (marks + 1) 1))
    && listed variations (be (part bs (marks + 2) 1))))))))))
