-- The laws of characters: a range, a run of characters that pass a test, and what such runs make of a text.
-- Assumes nothing.
use mathlib.Core.Path.{◌≡◌, refl, sym, ap, ◌∙◌}
use mathlib.Core.Bool.{Bool, true, false, ◌&&◌, cond, not, and-false, and_assoc}
use mathlib.Core.List.{List, [], ◌∷◌, ◌++◌}
use Prim.Native.Nat.{ℕ, zero, suc, ◌+◌, ◌-◌, ◌≤◌, ◌<◌, zero-le, suc-le-suc}
use native.Mathlib.Decide.{dec_lt}
use native.Mathlib.Nat.{zero-add, suc-add, not-suc-le-zero, le_of_suc-le-suc}
use native.Mathlib.Omega.{arith}
use borrow.Author.Tests.{le-leb, lt-leb, leb-true}
use lib.Dec.{leb, eqb, eqb-zero-suc, eqb-suc-suc}
use lib.ListN.{length, take, drop, get_or, replicate}
use Rattle.field.specs.Bytes.{part}
use Rattle.field.specs.Text.{within, every, leading, is_space, is_printable, is_text, begins_with_non_space, only_spaces_after_space, is_zero}
use Rattle.field.proofs.Bools.{both_left, both_right}
use Rattle.field.proofs.Parts.{part_length, part-drop, rest-cons, rest-none}

-- ---- a range

pub within-yes : (low high c : ℕ) → low ≤ c → c ≤ high → within low high c ≡ true
within-yes low high c a b = rw (le-leb low c a, le-leb c high b)

pub within_low : (low high c : ℕ) → c < low → within low high c ≡ false
within_low low high c a = rw (lt-leb low c a)

pub within-high : (low high c : ℕ) → high < c → within low high c ≡ false
within-high low high c a = rw (lt-leb c high a) (and-false (leb low c))

-- ---- a run at what is left of a part after k elements

module _ (p : ℕ → Bool) (xs : List ℕ) (at n k : ℕ) (h : k < n) (f : at + n ≤ length xs) where
  pub leading-stop : p (get_or xs (at + k) 0) ≡ false → leading p (part xs (at + k) (n - k)) ≡ 0
  unfolding leading
  leading-stop e = rw (rest-cons xs at n k h f, e)

pub leading_end : (p : ℕ → Bool) (xs : List ℕ) (at n k : ℕ) → n ≤ k → leading p (part xs (at + k) (n - k)) ≡ 0
unfolding leading
leading_end p xs at n k g = rw (rest-none xs at n k g)

-- ---- a run and the test of every character

pub every_append : (p : ℕ → Bool) (xs ys : List ℕ) → every p (xs ++ ys) ≡ every p xs && every p ys
unfolding every
every_append p [] ys = refl
every_append p (x ∷ xs) ys = rw (every_append p xs ys) (sym (and_assoc (p x) (every p xs) (every p ys)))

pub every-at : (p : ℕ → Bool) (xs : List ℕ) → every p xs ≡ true → (i : ℕ) → i < length xs → p (get_or xs i 0) ≡ true
unfolding every
every-at p [] e i h = absurd (not-suc-le-zero h)
every-at p (x ∷ xs) e zero h = both_left (p x) (every p xs) e
every-at p (x ∷ xs) e (suc i) h = every-at p xs (both_right (p x) (every p xs) e) i (le_of_suc-le-suc h)

module _ (p : ℕ → Bool) where
  pub leading_le : (cs : List ℕ) → leading p cs ≤ length cs
  unfolding leading
  leading_le [] = zero-le
  leading_le (c ∷ cs) = by (p c) (leading_le cs)
    where
      by : (b : Bool) → leading p cs ≤ length cs → cond b (suc (leading p cs)) 0 ≤ suc (length cs)
      by true h = suc-le-suc h
      by false h = zero-le

  -- the run is the whole exactly where every character passes
  pub leading-every : (cs : List ℕ) → eqb (leading p cs) (length cs) ≡ every p cs
  unfolding leading every
  leading-every [] = refl
  leading-every (c ∷ cs) = by (p c) (leading-every cs)
    where
      by : (b : Bool) → eqb (leading p cs) (length cs) ≡ every p cs
          → eqb (cond b (suc (leading p cs)) 0) (suc (length cs)) ≡ b && every p cs
      by true e = eqb-suc-suc (leading p cs) (length cs) ∙ e
      by false e = eqb-zero-suc (length cs)

  -- every character of the run passes
  pub every-leading : (cs : List ℕ) → every p (take (leading p cs) cs) ≡ true
  unfolding leading every
  every-leading [] = refl
  every-leading (c ∷ cs) = by (p c) refl (every-leading cs)
    where
      by : (b : Bool) → p c ≡ b → every p (take (leading p cs) cs) ≡ true → every p (take (cond b (suc (leading p cs)) 0) (c ∷ cs)) ≡ true
      by true e h = rw (e, h)
      by false e h = refl

  -- a run goes through what passes, and stops at what does not
  pub leading-append : (xs ys : List ℕ) → every p xs ≡ true → leading p (xs ++ ys) ≡ length xs + leading p ys
  unfolding leading every
  leading-append [] ys e = sym (zero-add (leading p ys))
  leading-append (x ∷ xs) ys e =
      rw (both_left (p x) (every p xs) e, leading-append xs ys (both_right (p x) (every p xs) e)) (sym (suc-add (length xs) (leading p ys)))

  pub every-replicate : (n c : ℕ) → p c ≡ true → every p (replicate n c) ≡ true
  unfolding every
  every-replicate zero c e = refl
  every-replicate (suc n) c e = rw (e, every-replicate n c e)

  pub leading-replicate : (n c : ℕ) → p c ≡ false → leading p (replicate n c) ≡ 0
  unfolding leading
  leading-replicate zero c e = refl
  leading-replicate (suc n) c e = rw e

-- ---- spaces

is-space : (c : ℕ) → is_space c ≡ true → c ≡ 32
is-space c e = omega (arith, leb-true 32 c (both_left (leb 32 c) (leb c 32) e), leb-true c 32 (both_right (leb 32 c) (leb c 32) e))

pub spaces-are : (cs : List ℕ) → every is_space cs ≡ true → cs ≡ replicate (length cs) 32
unfolding every
spaces-are [] e = refl
spaces-are (c ∷ cs) e =
    let a : c ≡ 32 = is-space c (both_left (is_space c) (every is_space cs) e) in
    let b : cs ≡ replicate (length cs) 32 = spaces-are cs (both_right (is_space c) (every is_space cs) e) in
    cc

-- ---- a text

-- a printable character that is no space
abbrev pub is_graphic : ℕ → Bool
is_graphic = within 33 126

-- the four kinds of character
below : (c : ℕ) → c < 32 → (is_printable c ≡ false) × (is_space c ≡ false) × (is_graphic c ≡ false)
below c h = (within_low 32 126 c h, within_low 32 32 c h, within_low 33 126 c (omega arith))

space : (c : ℕ) → c ≡ 32 → (is_printable c ≡ true) × (is_space c ≡ true) × (is_graphic c ≡ false)
space c h = rw h (refl, refl, refl)

graphic : (c : ℕ) → 32 < c → c ≤ 126 → (is_printable c ≡ true) × (is_space c ≡ false) × (is_graphic c ≡ true)
graphic c h k = (within-yes 32 126 c (omega arith) k, within-high 32 32 c h, within-yes 33 126 c (omega arith) k)

above : (c : ℕ) → 126 < c → (is_printable c ≡ false) × (is_space c ≡ false) × (is_graphic c ≡ false)
above c h = (within-high 32 126 c h, within-high 32 32 c (omega arith), within-high 33 126 c h)

-- spaces are printable
printable-spaces : (cs : List ℕ) → every is_printable cs && every is_space cs ≡ every is_space cs
printable-spaces cs = by (every is_space cs) refl
  where
    by : (b : Bool) → every is_space cs ≡ b → every is_printable cs && b ≡ b
    by true e = ap (λ (l : List ℕ). every is_printable l && true) (spaces-are cs e) ∙ rw (every-replicate is_printable (length cs) 32 refl)
    by false e = and-false (every is_printable cs)

-- printable, with only spaces after a space: graphic characters, then spaces
printable-run : (cs : List ℕ) → every is_printable cs && only_spaces_after_space cs ≡ every is_space (drop (leading is_graphic cs) cs)
unfolding every leading only_spaces_after_space
printable-run [] = refl
printable-run (c ∷ cs) = by (printable-run cs) (dec_lt c 32) (dec_lt 32 c) (dec_lt 126 c)
  where
    by : every is_printable cs && only_spaces_after_space cs ≡ every is_space (drop (leading is_graphic cs) cs)
        → Dec (c < 32) → Dec (32 < c) → Dec (126 < c)
        → every is_printable (c ∷ cs) && only_spaces_after_space (c ∷ cs) ≡ every is_space (drop (leading is_graphic (c ∷ cs)) (c ∷ cs))
    by e (yes l) g h = let k = below c l in rw (k.2, k.1, k.0)
    by e (no l) (no g) h = let k = space c (omega (arith, l, g)) in rw (k.2, k.1, k.0) (printable-spaces cs)
    by e (no l) (yes g) (no h) = let k = graphic c g (omega (arith, h)) in rw (k.2, k.1, k.0) e
    by e (no l) (yes g) (yes h) = let k = above c h in rw (k.2, k.1, k.0)

-- the run of graphic characters at the front decides: none, and it is no text; some, and spaces must follow them
pub text-none : (cs : List ℕ) → leading is_graphic cs ≡ 0 → is_text cs ≡ false
unfolding is_text begins_with_non_space every
text-none [] e = refl
text-none (c ∷ cs) e = by (is_space c) refl
  where
    by : (b : Bool) → is_space c ≡ b → not b && every is_printable (c ∷ cs) && only_spaces_after_space (c ∷ cs) ≡ false
    by true s = refl
    by false s = rw e at (printable-run (c ∷ cs)) ∙ rw s

pub text-run : (cs : List ℕ) → (leading is_graphic cs ≡ 0 → ⊥) → is_text cs ≡ every is_space (drop (leading is_graphic cs) cs)
unfolding is_text begins_with_non_space leading
text-run [] some = absurd (some refl)
text-run (c ∷ cs) some = by (is_space c) refl
  where
    by : (b : Bool) → is_space c ≡ b
        → not b && every is_printable (c ∷ cs) && only_spaces_after_space (c ∷ cs) ≡ every is_space (drop (leading is_graphic (c ∷ cs)) (c ∷ cs))
    by true s = absurd (some (rw (space c (is-space c s)).2))
    by false s = printable-run (c ∷ cs)

-- ---- zeros

pub zeros-are : (xs : List ℕ) → every is_zero xs ≡ true → xs ≡ replicate (length xs) 0
unfolding every
zeros-are [] e = refl
zeros-are (x ∷ xs) e =
    let z : x ≤ 0 = leb-true x 0 (both_right (leb 0 x) (leb x 0) (both_left (is_zero x) (every is_zero xs) e)) in
    let a : x ≡ 0 = omega arith in
    let b : xs ≡ replicate (length xs) 0 = zeros-are xs (both_right (is_zero x) (every is_zero xs) e) in
    cc

-- ---- what the code finds at a part

-- as many at the front as there are: each of them
pub only_part : (xs : List ℕ) (at n k : ℕ) → at + n ≤ length xs → (p : ℕ → Bool) → k ≡ leading p (part xs at n) → eqb k n ≡ every p (part xs at n)
only_part xs at n k fits p e = rw e (rw (part_length xs at n fits) at (leading-every p (part xs at n)))

module _ (xs : List ℕ) (at n k : ℕ) (fits : at + n ≤ length xs) where
  pub no-text-part : k ≡ leading is_graphic (part xs at n) → k ≡ 0 → false ≡ is_text (part xs at n)
  no-text-part e z = sym (text-none (part xs at n) (sym e ∙ z))

  pub text-part : {r : Bool} → k ≡ leading is_graphic (part xs at n) → k ≤ n → (k ≡ 0 → ⊥) → r ≡ every is_space (part xs (at + k) (n - k))
      → r ≡ is_text (part xs at n)
  text-part {r} e h z t =
      t ∙ ap (every is_space) (sym (part-drop xs at n k h)) ∙ ap (λ (j : ℕ). every is_space (drop j (part xs at n))) e
      ∙ sym (text-run (part xs at n) (λ f. z (e ∙ f)))

  -- as many spaces follow as there are bytes left
  pub text-ends : {j : ℕ} → k ≡ leading is_graphic (part xs at n) → k ≤ n → (k ≡ 0 → ⊥) → j ≡ leading is_space (part xs (at + k) (n - k))
      → eqb j (n - k) ≡ is_text (part xs at n)
  text-ends {j} e h z f = text-part e h z (only_part xs (at + k) (n - k) j (omega arith) is_space f)
