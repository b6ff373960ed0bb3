-- The test that two lists are the same, and a loop that makes it.
-- Assumes nothing.
use mathlib.Core.Path.{◌≡◌, refl, sym, ap, ◌∙◌}
use mathlib.Core.Bool.{Bool, true, false, ◌&&◌, and_assoc}
use mathlib.Core.List.{List, [], ◌∷◌, ◌++◌}
use Prim.Native.Nat.{ℕ, ◌+◌, ◌≤◌, ◌<◌}
use native.Mathlib.Decide.{dec_lt}
use native.Mathlib.Omega.{arith}
use borrow.Author.Tests.{eq-eqb, ne_eqb, eqb-true}
use lib.Dec.{lit<, eqb}
use lib.ListN.{length, get_or}
use Rattle.field.specs.Bytes.{part, be, bytes_be, Bytes, same}
use Rattle.field.specs.Text.{every, within}
use Rattle.field.proofs.Bools.{both_left, both_right}
use Rattle.field.proofs.Parts.{part_length, part-more, part_none, part-split}
use Rattle.field.proofs.Numbers.{total, part_bytes, digits_value}
use Rattle.field.proofs.Runs.{every_append, within-yes, within_low, within-high}

-- the test says true of lists that are the same, and of no others
pub test-same : (xs ys : List ℕ) → same xs ys ≡ true → xs ≡ ys
unfolding same
test-same [] [] e = refl
test-same [] (y ∷ ys) e = cc
test-same (x ∷ xs) [] e = cc
test-same (x ∷ xs) (y ∷ ys) e =
    let p : x ≡ y = eqb-true x y (both_left (eqb x y) (same xs ys) e) in
    let q : xs ≡ ys = test-same xs ys (both_right (eqb x y) (same xs ys) e) in
    cc

pub test-self : (xs : List ℕ) → same xs xs ≡ true
unfolding same
test-self [] = refl
test-self (x ∷ xs) = rw (eq-eqb x x refl, test-self xs)

pub same_test : {xs ys : List ℕ} → xs ≡ ys → same xs ys ≡ true
same_test {xs} {ys} e = rw (← e) (test-self xs)

last : (b : Bool) → b && true ≡ b
last true = refl
last false = refl

-- lists side by side are the same where the first are and the second are
same-append : (xs ys us vs : List ℕ) → length xs ≡ length ys → same (xs ++ us) (ys ++ vs) ≡ same xs ys && same us vs
unfolding same
same-append [] [] us vs e = refl
same-append [] (w ∷ ys) us vs e = cc
same-append (v ∷ xs) [] us vs e = cc
same-append (v ∷ xs) (w ∷ ys) us vs e = rw (same-append xs ys us vs (omega arith)) (sym (and_assoc (eqb v w) (same xs ys) (same us vs)))

same_ends : (xs ys : List ℕ) (x y : ℕ) → length xs ≡ length ys → same (xs ++ (x ∷ [])) (ys ++ (y ∷ [])) ≡ same xs ys && eqb x y
unfolding same
same_ends xs ys x y e = same-append xs ys (x ∷ []) (y ∷ []) e ∙ ap (λ (b : Bool). same xs ys && b) (last (eqb x y))

-- what a loop learns that compares: nothing is the same as nothing, and one more element on both sides
pub same_none : (a : List ℕ) (i : ℕ) (b : List ℕ) (j : ℕ) → true ≡ same (part a i 0) (part b j 0)
unfolding same
same_none a i b j = rw (part_none a i, part_none b j)

pub same_more : (a : List ℕ) (i : ℕ) (b : List ℕ) (j n k : ℕ) {so : Bool} → i + n ≤ length a → j + n ≤ length b → k < n → so ≡ same (part a i k) (part b j k)
    → so && eqb (get_or a (i + k) 0) (get_or b (j + k) 0) ≡ same (part a i (k + 1)) (part b j (k + 1))
same_more a i b j n k g h l e =
    rw (e, part-more a i k (omega arith), part-more b j k (omega arith))
    (sym (same_ends (part a i k) (part b j k) (get_or a (i + k) 0) (get_or b (j + k) 0) (part_length a i k (omega arith) ∙ sym (part_length b j k (omega arith)))))

within-self : (c x : ℕ) → within c c x ≡ eqb x c
within-self c x = by (dec_lt x c) (dec_lt c x)
  where
    by : Dec (x < c) → Dec (c < x) → within c c x ≡ eqb x c
    by (yes l) g = within_low c c x l ∙ sym (ne_eqb x c (λ e. omega (arith, e, l)))
    by (no l) (yes g) = within-high c c x g ∙ sym (ne_eqb x c (λ e. omega (arith, e, g)))
    by (no l) (no g) = within-yes c c x (omega (arith, l, g)) (omega (arith, l, g)) ∙ sym (eq-eqb x c (omega (arith, l, g)))

-- every byte of none is the one asked for, and one more
pub every-none : (s : List ℕ) (at c : ℕ) → true ≡ every (within c c) (part s at 0)
unfolding every
every-none s at c = rw (part_none s at)

pub every_more : (s : List ℕ) (at n k c : ℕ) {so : Bool} → at + n ≤ length s → k < n → so ≡ every (within c c) (part s at k)
    → so && eqb (get_or s (at + k) 0) c ≡ every (within c c) (part s at (k + 1))
unfolding every
every_more s at n k c h l e =
    ap (λ (b : Bool). b && eqb (get_or s (at + k) 0) c) e
    ∙ ap (λ (b : Bool). every (within c c) (part s at k) && b) (sym (within-self c (get_or s (at + k) 0)) ∙ sym (last (within c c (get_or s (at + k) 0))))
    ∙ sym (every_append (within c c) (part s at k) (get_or s (at + k) 0 ∷ []))
    ∙ ap (every (within c c)) (sym (part-more s at k (omega arith)))

-- ---- bytes compared as numbers

pub numbers-same : (xs ys : List ℕ) → Bytes xs → Bytes ys → length xs ≡ length ys → eqb (be xs) (be ys) ≡ same xs ys
numbers-same xs ys b c e = by (same xs ys) refl
  where
    back : be xs ≡ be ys → xs ≡ ys
    back p = sym (digits_value 256 (lit< tt) xs b) ∙ ap (bytes_be (length xs)) p ∙ ap (λ (n : ℕ). bytes_be n (be ys)) e ∙ digits_value 256 (lit< tt) ys c

    by : (so : Bool) → same xs ys ≡ so → eqb (be xs) (be ys) ≡ so
    by true s = eq-eqb (be xs) (be ys) (ap be (test-same xs ys s))
    by false s = ne_eqb (be xs) (be ys) (λ p. let z : ◌≡◌ {A = Bool} true false = sym (same_test (back p)) ∙ s in let w : ◌≡◌ {A = ℕ} 0 1 = cc in omega arith)

-- so two runs of bytes are the same where the numbers of their fields are
abbrev pub same_fields : List ℕ → ℕ → List ℕ → ℕ → List ℕ → Bool
same_fields xs i ys j [] = true
same_fields xs i ys j (w ∷ ws) = eqb (be (part xs i w)) (be (part ys j w)) && same_fields xs (i + w) ys (j + w) ws

module _ (xs ys : List ℕ) (b : Bytes xs) (c : Bytes ys) where
  pub part-numbers : (n i j : ℕ) → i + n ≤ length xs → j + n ≤ length ys → eqb (be (part xs i n)) (be (part ys j n)) ≡ same (part xs i n) (part ys j n)
  part-numbers n i j g h = numbers-same (part xs i n) (part ys j n) (part_bytes xs i n b) (part_bytes ys j n c) (part_length xs i n g ∙ sym (part_length ys j n h))

  pub fields-same : (ws : List ℕ) (i j : ℕ) → i + total ws ≤ length xs → j + total ws ≤ length ys
      → same (part xs i (total ws)) (part ys j (total ws)) ≡ same_fields xs i ys j ws
  unfolding same
  fields-same [] i j g h = rw (part_none xs i, part_none ys j)
  fields-same (w ∷ ws) i j g h =
      rw (part-split xs i w (total ws), part-split ys j w (total ws))
      (same-append (part xs i w) (part ys j w) (part xs (i + w) (total ws)) (part ys (j + w) (total ws)) (part_length xs i w (omega arith) ∙ sym (part_length ys j w (omega arith)))
      ∙ ap (λ (so : Bool). so && same (part xs (i + w) (total ws)) (part ys (j + w) (total ws))) (sym (part-numbers w i j (omega arith) (omega arith)))
      ∙ ap (λ (so : Bool). eqb (be (part xs i w)) (be (part ys j w)) && so) (fields-same ws (i + w) (j + w) (omega arith) (omega arith)))
