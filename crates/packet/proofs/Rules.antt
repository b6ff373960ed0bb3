-- What tests decide, a law for each way through a chain of them.
-- Assumes nothing.
use mathlib.Core.Path.{◌≡◌, refl, sym}
use mathlib.Core.Bool.{Bool, true, false, ◌&&◌, not, cond}
use Prim.Native.Nat.{ℕ}
use native.Mathlib.Omega.{arith}

pub if_no : {A : Type 0} (a : Bool) (b d x : A) → a ≡ false → x ≡ d → x ≡ cond a b d
if_no a b d x e f = rw (e, f)

-- what holds of both ways holds of a test
pub both : {A : Type 0} (P : A → Type 0) (t : Bool) {a b : A} → (t ≡ true → P a) → (t ≡ false → P b) → P (cond t a b)
both P true f g = f refl
both P false f g = g refl

-- a test that a call made
pub yes-call : (r a : Bool) → r ≡ a → r ≡ true → a ≡ true
yes-call r a e f = cc

pub no_call : (r a : Bool) → r ≡ a → r ≡ false → a ≡ false
no_call r a e f = cc

pub not_call : (r a : Bool) → r ≡ a → not r ≡ true → a ≡ false
not_call true a e f = let z : false ≡ true = f in cc
not_call false a e f = sym e

pub not-not-call : (r a : Bool) → r ≡ a → not r ≡ false → a ≡ true
not-not-call true a e f = sym e
not-not-call false a e f = let z : true ≡ false = f in cc

pub never : false ≡ true → ⊥
never e = let z : ◌≡◌ {A = ℕ} 0 1 = cc in omega arith

pub and_both : (a b : Bool) → a && b ≡ true → (a ≡ true) × (b ≡ true)
and_both true b e = (refl, e)
and_both false b e = absurd (never e)
