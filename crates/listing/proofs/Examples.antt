-- Document 01's example of a listing, by computing.
-- Assumes nothing.
use mathlib.Core.Path.{◌≡◌, refl}
use mathlib.Core.List.{List, [], ◌∷◌, ◌++◌}
use Prim.Native.Nat.{ℕ}
use lib.ListN.{replicate, set}
use Rattle.field.specs.Bytes.{part, value, digits}
use Rattle.field.specs.Decimal.{chars, digit_chars, digit_count, digit_count_in}
use Rattle.message.specs.Layout.{price_from, values}
use Rattle.row.specs.Fields.{id_of}
use Rattle.listing.specs.Lines.{next_line, dollars, price_text, state_text, side_text, row_line, last_line}
use Rattle.listing.specs.declared.Ending.TheVariants.{RanOut, Ended, Refused}

-- `next 4`
next-4 : next_line 4 ≡ 110 ∷ 101 ∷ 120 ∷ 116 ∷ 32 ∷ 52 ∷ 10 ∷ []
unfolding next_line chars digit_chars digit_count digit_count_in digits
next-4 = refl

-- a row with id 7, state T, and a bid of 12,500 ten-thousandths
abbrev seven : List ℕ
seven =
    (0 ∷ 0 ∷ 0 ∷ 7 ∷ replicate 48 0) ++ (84 ∷ 32 ∷ 1 ∷ 0 ∷ 0 ∷ 0 ∷ 0 ∷ 0 ∷ 0 ∷ 0 ∷ 48 ∷ 212 ∷ replicate 60 0)

-- `7 T 1.2500 -`
row-7 : row_line seven ≡ 55 ∷ 32 ∷ 84 ∷ 32 ∷ 49 ∷ 46 ∷ 50 ∷ 53 ∷ 48 ∷ 48 ∷ 32 ∷ 45 ∷ 10 ∷ []
unfolding price_from row_line id_of values state_text side_text price_text dollars chars digit_chars digit_count digit_count_in digits value part
row-7 = refl

-- the same row with the ask seen too, at no price: `7 T 1.2500 none` (W-206)
row-none : row_line (set seven 54 3) ≡ 55 ∷ 32 ∷ 84 ∷ 32 ∷ 49 ∷ 46 ∷ 50 ∷ 53 ∷ 48 ∷ 48 ∷ 32 ∷ 110 ∷ 111 ∷ 110 ∷ 101 ∷ 10 ∷ []
unfolding price_from row_line id_of values state_text side_text price_text dollars chars digit_chars digit_count digit_count_in digits value part
row-none = refl

-- `ok`, `end`, `refused 12`
ok : last_line RanOut ≡ 111 ∷ 107 ∷ 10 ∷ []
unfolding last_line
ok = refl

end : last_line Ended ≡ 101 ∷ 110 ∷ 100 ∷ 10 ∷ []
unfolding last_line
end = refl

refused-12 : last_line (Refused 12) ≡ 114 ∷ 101 ∷ 102 ∷ 117 ∷ 115 ∷ 101 ∷ 100 ∷ 32 ∷ 49 ∷ 50 ∷ 10 ∷ []
unfolding last_line chars digit_chars digit_count digit_count_in digits
refused-12 = refl
