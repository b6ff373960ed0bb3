-- A quote read at either width: each number is of w bytes, which the code's own count of them, k, says too.
-- Assumes nothing.
use mathlib.Core.Path.{◌≡◌, ap, ◌∙◌}
use mathlib.Core.Bool.{Bool}
use mathlib.Core.List.{List}
use Prim.Native.Nat.{ℕ, ◌+◌, ◌*◌}
use Rattle.field.specs.Bytes.{part, be}
use Rattle.message.specs.Layout.{price_by, price_from, values}
use Rattle.message.specs.Letters.{numbers_rows, numbers_of, map_numbers}
use Rattle.message.specs.declared.SideNumbers.{SideNumbers}
use Rattle.message.proofs.Amounts.{by-from}
use Rattle.std.specs.Prelude.{Option, option_map}

module _ {T : Type 0} (f : T → ℕ) (w : ℕ) (keeps : ℕ → Bool) (bs : List ℕ) {k : ℕ} (wide : k ≡ w) where
  pub numbers-read : (at : ℕ) {market x size customer professional : T} {price : Option T} → f market ≡ be (part bs at w) → f x ≡ be (part bs (at + k) w)
      → price ≡ price_by f x → f size ≡ be (part bs (at + 2 * k) w) → f customer ≡ be (part bs (at + 3 * k) w)
      → f professional ≡ be (part bs (at + 4 * k) w)
      → map_numbers f (record { market = market; price = price; size = size; customer = customer; professional = professional })
      ≡ numbers_of (values (numbers_rows w keeps at) bs)
  unfolding values
  numbers-read at {x = x} a b p c d e i =
      record {
        market = a i;
        price = (ap (option_map f) p ∙ by-from f x ∙ ap price_from (b ∙ ap (λ (j : ℕ). be (part bs (at + j) w)) wide)) i;
        size = (c ∙ ap (λ (j : ℕ). be (part bs (at + 2 * j) w)) wide) i;
        customer = (d ∙ ap (λ (j : ℕ). be (part bs (at + 3 * j) w)) wide) i;
        professional = (e ∙ ap (λ (j : ℕ). be (part bs (at + 4 * j) w)) wide) i;
      }

-- the numbers that stand at p, where the code's own reckoning of the place says q
pub numbers-at : (w : ℕ) (keeps : ℕ → Bool) (bs : List ℕ) (q : ℕ) {p : ℕ} {n : SideNumbers ℕ} → n ≡ numbers_of (values (numbers_rows w keeps p) bs) → p ≡ q
    → n ≡ numbers_of (values (numbers_rows w keeps q) bs)
numbers-at w keeps bs q e is = e ∙ ap (λ (k : ℕ). numbers_of (values (numbers_rows w keeps k) bs)) is
