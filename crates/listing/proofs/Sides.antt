-- WHAT A SIDE'S TEXT SAYS: `none` exactly for a side that was seen and has no price, and `-` exactly for one never seen.
-- Assumes nothing.
use mathlib.Core.Path.{◌≡◌, refl, ap}
use mathlib.Core.Bool.{Bool, true, false, cond}
use mathlib.Core.List.{List, [], ◌∷◌}
use Prim.Native.Nat.{ℕ, ◌/◌, ◌≤◌}
use native.Mathlib.Omega.{arith}
use lib.ListN.{length, length-append}
use Rattle.field.specs.Decimal.{chars, digit_chars}
use Rattle.field.proofs.Decimals.{chars-length}
use Rattle.std.specs.Prelude.{Option}
use Rattle.std.specs.Prelude.{Some, None}
use Rattle.message.specs.declared.Side.{Side}
use Rattle.row.specs.Fields.{sides_of, price_of, has_seen}
use Rattle.listing.specs.Lines.{none_word, dash, dollars, price_text, side_text}

-- dollars are longer than either word
long : (n : ℕ) → 5 ≤ length (dollars n)
unfolding dollars
long n = omega (arith, length-append (chars (n / 10_000)) (46 ∷ digit_chars 4 n), chars-length 4 n)

-- the text of a price, by whether there is one
is_none : (x : Option ℕ) → 32 ∷ price_text x ≡ 32 ∷ none_word → x ≡ None
unfolding price_text
is_none (Some n) e = absurd (let l : length (32 ∷ dollars n) ≡ 5 = ap length e in omega (arith, long n))
is_none None e = refl

no-dash : (x : Option ℕ) → 32 ∷ price_text x ≡ 32 ∷ dash ∷ [] → ⊥
unfolding price_text
no-dash (Some n) e = let l : length (32 ∷ dollars n) ≡ 2 = ap length e in omega (arith, long n)
no-dash None e = let l : ◌≡◌ {A = ℕ} 5 2 = ap length e in omega arith

module _ (side : Side) (r : List ℕ) where
  abbrev seen : Bool
  seen = has_seen side (sides_of r)

  -- THEOREM: `none`
  pub none_written : seen ≡ true → price_of side r ≡ None → side_text side r ≡ 32 ∷ none_word
  unfolding side_text price_text
  none_written y e = rw (y, e)

  pub none-says : side_text side r ≡ 32 ∷ none_word → (seen ≡ true) × (price_of side r ≡ None)
  unfolding side_text
  none-says e = by seen refl e
    where
      by : (y : Bool) → seen ≡ y → 32 ∷ cond y (price_text (price_of side r)) (dash ∷ []) ≡ 32 ∷ none_word → (seen ≡ true) × (price_of side r ≡ None)
      by true y i = (y, is_none (price_of side r) i)
      by false y i = absurd (let l : ◌≡◌ {A = ℕ} 2 5 = ap length i in omega arith)

  -- THEOREM: `-`
  pub dash-written : seen ≡ false → side_text side r ≡ 32 ∷ dash ∷ []
  unfolding side_text
  dash-written y = rw y

  pub dash-says : side_text side r ≡ 32 ∷ dash ∷ [] → seen ≡ false
  unfolding side_text
  dash-says e = by seen refl e
    where
      by : (y : Bool) → seen ≡ y → 32 ∷ cond y (price_text (price_of side r)) (dash ∷ []) ≡ 32 ∷ dash ∷ [] → seen ≡ false
      by true y i = absurd (no-dash (price_of side r) i)
      by false y i = y
