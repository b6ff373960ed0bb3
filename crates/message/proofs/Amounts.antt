-- Prices and the numbers that say them: what a number says, a price held at a width, and what the rule of a price asks.
-- Assumes nothing.
use mathlib.Core.Path.{◌≡◌, refl, sym}
use mathlib.Core.Bool.{Bool, true, false, ◌&&◌, cond}
use Prim.Native.Nat.{ℕ}
use native.Mathlib.Omega.{arith}
use borrow.Author.Tests.{eqb-true, eqb-false, eq-eqb, ne_eqb, leb-true, le-leb}
use lib.Dec.{eqb, leb}
use Rattle.message.specs.Layout.{price_by, price_from, amount, is_price, priced, price, holds}
use Rattle.message.specs.Letters.{map_numbers, map_quote, map_side}
use Rattle.message.specs.declared.SideNumbers.{SideNumbers}
use Rattle.message.specs.declared.Quote.{Quote}
use Rattle.message.specs.declared.OneSide.{OneSide}
use Rattle.std.specs.Prelude.{Option, Some, None, option_map}

-- ---- what a number says

module _ (n : ℕ) where
  -- a rule of the price that a number says, by whether it is zero
  by_number : (P : Option ℕ → Type 0) → (n ≡ 0 → P None) → ((n ≡ 0 → ⊥) → P (Some n)) → P (price_from n)
  unfolding price_from
  by_number P zero above = by (eqb n 0) refl
    where
      by : (b : Bool) → eqb n 0 ≡ b → P (cond b None (Some n))
      by true e = zero (eqb-true n 0 e)
      by false e = above (eqb-false n 0 e)

  -- A NUMBER AND THE PRICE THAT IT SAYS ARE AS GOOD AS EACH OTHER, and the price is one
  pub amount-from : amount (price_from n) ≡ n
  amount-from = by_number (λ x. amount x ≡ n) sym (λ h. refl)

  pub from-is-price : is_price (price_from n) ≡ true
  from-is-price = by_number (λ x. is_price x ≡ true) (λ e. refl) (λ h. le-leb 1 n (omega arith))

pub from-amount : (x : Option ℕ) → is_price x ≡ true → price_from (amount x) ≡ x
unfolding price_from
from-amount (Some n) h = rw (ne_eqb n 0 (λ e. omega (arith, leb-true 1 n h)))
from-amount None h = refl

-- ---- a price held at a width, where f is the number that each x is

module _ {T : Type 0} (f : T → ℕ) where
  pub by-from : (x : T) → option_map f (price_by f x) ≡ price_from (f x)
  unfolding price_from
  by-from x = by (eqb (f x) 0)
    where
      by : (b : Bool) → option_map f (cond b None (Some x)) ≡ cond b None (Some (f x))
      by true = refl
      by false = refl

  pub above-by : (x : T) → (f x ≡ 0 → ⊥) → Some x ≡ price_by f x
  above-by x h = rw (ne_eqb (f x) 0 h)

  pub none-by : (x : T) → f x ≡ 0 → None ≡ price_by f x
  none-by x e = rw (eq-eqb (f x) 0 e)

  -- the rule of a price that a record holds
  pub above-keeps : (p : ℕ → Bool) (o : Option T) (x : T) {v : ℕ} {r : Bool} → o ≡ Some x → v ≡ f x → r ≡ p (f x)
      → leb 1 v && r ≡ holds (price p) (priced (option_map f o))
  above-keeps p o x e v k = rw (e, v, k)

  pub none-keeps : (p : ℕ → Bool) (o : Option T) → p 0 ≡ true → o ≡ None → true ≡ holds (price p) (priced (option_map f o))
  none-keeps p o z e = rw (e, z)

-- ---- at a width whose values are numbers

pub same-price : (x : Option ℕ) → option_map (λ n. n) x ≡ x
same-price (Some n) = refl
same-price None = refl

pub same-numbers : (n : SideNumbers ℕ) → map_numbers (λ v. v) n ≡ n
same-numbers n i = record { market = n.market; price = same-price n.price i; size = n.size; customer = n.customer; professional = n.professional }

pub same-quote : (q : Quote ℕ) → map_quote (λ v. v) q ≡ q
same-quote q i = record { stamp = q.stamp; id = q.id; condition = q.condition; bid = same-numbers q.bid i; ask = same-numbers q.ask i }

pub same-side : (s : OneSide ℕ) → map_side (λ v. v) s ≡ s
same-side s i = record { stamp = s.stamp; id = s.id; condition = s.condition; side = s.side; numbers = same-numbers s.numbers i }
