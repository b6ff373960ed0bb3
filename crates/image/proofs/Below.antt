-- A test of every number below n: the loop that makes it, and what it says.
-- Assumes nothing.
use mathlib.Core.Path.{◌≡◌, refl, sym}
use mathlib.Core.Bool.{Bool, true, false, ◌&&◌, not, and-false}
use Prim.Native.Nat.{ℕ, zero, suc, ◌+◌, ◌-◌, ◌≤◌, ◌<◌}
use native.Mathlib.Nat.{zero-add, suc-add, not-suc-le-zero}
use native.Mathlib.Numerals.{add-one}
use native.Mathlib.Decide.{ℕ_discrete}
use native.Mathlib.Omega.{arith}
use Rattle.field.proofs.Bools.{both_left, both_right}
use Rattle.image.specs.Shape.{all_below}

-- a call that answers no, or yes
pub was-no : {r p : Bool} → r ≡ p → not r ≡ true → p ≡ false
was-no {r = false} e f = sym e
was-no {r = true} e f = let z : false ≡ true = f in cc

pub was-yes : {r p : Bool} → r ≡ p → not r ≡ false → p ≡ true
was-yes {r = true} e f = sym e
was-yes {r = false} e f = let z : true ≡ false = f in cc

-- ---- the loop

pub below_none : (p : ℕ → Bool) → all_below p 0 ≡ true
unfolding all_below
below_none p = refl

pub below-turn : (p : ℕ → Bool) (k : ℕ) → all_below p k ≡ true → p k ≡ true → all_below p (k + 1) ≡ true
unfolding all_below
below-turn p k e f = rw (add-one, e, f)

-- without a branch
pub below_more : (p : ℕ → Bool) (k : ℕ) {so : Bool} → so ≡ all_below p k → so && p k ≡ all_below p (k + 1)
unfolding all_below
below_more p k e = rw (add-one, e)

fails : (p : ℕ → Bool) (k d : ℕ) → p k ≡ false → all_below p (suc (d + k)) ≡ false
unfolding all_below
fails p k zero e = rw (zero-add, e) (and-false (all_below p k))
fails p k (suc d) e = rw (suc-add, fails p k d e)

pub below-stop : (p : ℕ → Bool) (k n : ℕ) → k < n → p k ≡ false → false ≡ all_below p n
below-stop p k n h e =
    let d : suc (n - k - 1 + k) ≡ n = omega arith in
    rw d at (sym (fails p k (n - k - 1) e))

pub below_end : (p : ℕ → Bool) (k n : ℕ) → k ≤ n → n ≤ k → all_below p k ≡ true → true ≡ all_below p n
below_end p k n h g e = let d : k ≡ n = omega arith in rw d at (sym e)

pub below-same : (p q : ℕ → Bool) (n : ℕ) → ((k : ℕ) → k < n → p k ≡ q k) → all_below p n ≡ all_below q n
unfolding all_below
below-same p q zero f = refl
below-same p q (suc n) f = rw (below-same p q n (λ k h. f k (omega arith)), f n (omega arith))

-- ---- what it says

pub below_all : (p : ℕ → Bool) (n : ℕ) → ((k : ℕ) → k < n → p k ≡ true) → all_below p n ≡ true
unfolding all_below
below_all p zero f = refl
below_all p (suc n) f = rw (below_all p n (λ k h. f k (omega arith)), f n (omega arith))

last_or : (p : ℕ → Bool) (n k : ℕ) → all_below p n && p n ≡ true → k < suc n → (k < n → p k ≡ true) → Dec (k ≡ n) → p k ≡ true
last_or p n k e h r (yes q) = rw q (both_right (all_below p n) (p n) e)
last_or p n k e h r (no q) = r (omega (arith, q))

pub below_at : (p : ℕ → Bool) (n k : ℕ) → all_below p n ≡ true → k < n → p k ≡ true
unfolding all_below
below_at p zero k e h = absurd (not-suc-le-zero h)
below_at p (suc n) k e h = last_or p n k e h (below_at p n k (both_left (all_below p n) (p n) e)) (ℕ_discrete k n)
