-- Names from numbers: a promise gives document 01's number of a refusal, and no two names have one number.
-- Assumes nothing.
use mathlib.Core.Path.{◌≡◌, refl, sym, ap, ◌∙◌}
use mathlib.Core.Bool.{cond, false}
use mathlib.Core.List.{List}
use Prim.Native.Nat.{ℕ}
use borrow.Author.Tests.{eqb-false}
use lib.Dec.{eqb}
use Rattle.image.specs.Save.{refusal_number, saving}
use Rattle.image.specs.declared.Refusal.{Refusal}
use Rattle.image.specs.declared.Refusal.TheVariants.{Unfit, BadLength, BadCheck, BadHead, BadContents, ShortOutput}
use Rattle.reader.specs.Saving.{Written, written_of, restore_number}
use Rattle.std.specs.Prelude.{Err}
use Rattle.std.specs.Prelude.{Ok}
use Rattle.std.specs.Prelude.{Result}

-- ---- the refusals of saving and restoring

abbrev name_of : ℕ → Refusal
name_of n =
    cond (eqb n 20) Unfit
    (cond (eqb n 21) BadLength (cond (eqb n 22) BadCheck (cond (eqb n 23) BadHead (cond (eqb n 24) BadContents ShortOutput))))

name_back : (r : Refusal) → name_of (refusal_number r) ≡ r
name_back Unfit = refl
name_back BadLength = refl
name_back BadCheck = refl
name_back BadHead = refl
name_back BadContents = refl
name_back ShortOutput = refl

names_same : (r q : Refusal) → refusal_number r ≡ refusal_number q → r ≡ q
names_same r q e = sym (name_back r) ∙ ap name_of e ∙ name_back q

-- none has the number of no refusal
no_name : (r : Refusal) → eqb (refusal_number r) 0 ≡ false
no_name Unfit = refl
no_name BadLength = refl
no_name BadCheck = refl
no_name BadHead = refl
no_name BadContents = refl
no_name ShortOutput = refl

some-name : (r : Refusal) → refusal_number r ≡ 0 → ⊥
some-name r = eqb-false (refusal_number r) 0 (no_name r)

-- ---- what is said of saving, and the verdict of restoring

pub saved-same : (a b : Result ℕ Refusal) (z y : List ℕ) → written_of a z ≡ written_of b y → saving a z ≡ saving b y
saved-same (Ok n) (Ok m) z y e = ap (λ (w : Written). saving (Ok w.count) w.out) e
saved-same (Ok n) (Err r) z y e = absurd (some-name r (sym (ap (λ (w : Written). w.refusal) e)))
saved-same (Err r) (Ok m) z y e = absurd (some-name r (ap (λ (w : Written). w.refusal) e))
saved-same (Err r) (Err q) z y e =
    ap (λ (x : Refusal). saving (Err x) z) (names_same r q (ap (λ (w : Written). w.refusal) e))
    ∙ ap (saving (Err q)) (ap (λ (w : Written). w.out) e)

pub verdicts-same : (v w : Result (Unit {0}) Refusal) → restore_number v ≡ restore_number w → v ≡ w
verdicts-same (Ok u) (Ok w) e = refl
verdicts-same (Ok u) (Err r) e = absurd (some-name r (sym e))
verdicts-same (Err r) (Ok u) e = absurd (some-name r e)
verdicts-same (Err r) (Err q) e = ap Err (names_same r q e)
