-- The weighted sum: of joined bytes, by its summands, and the greatest.
-- Assumes nothing.
use mathlib.Core.Path.{◌≡◌, refl, sym, ap, ◌∙◌}
use mathlib.Core.List.{List, [], ◌∷◌, ◌++◌}
use Prim.Native.Nat.{ℕ, zero, suc, ◌+◌, ◌*◌, ◌≤◌}
use native.Mathlib.Nat.{add-zero, zero-add, add-suc, add_assoc, mul-le-mul}
use native.Mathlib.Numerals.{add-one}
use native.Mathlib.Omega.{arith}
use lib.ListN.{length, get_or, replicate}
use Rattle.field.specs.Bytes.{part, Bytes}
use Rattle.field.proofs.Parts.{part_length, part_none, part-more}
use Rattle.block.specs.Block.{checked_size, weighted}

-- ---- f 0, f 1 and so on, n of them, summed

unfoldable pub up_to : (ℕ → ℕ) → ℕ → ℕ
up_to f zero = 0
up_to f (suc n) = up_to f n + f n

pub up-to-more : (f : ℕ → ℕ) (n : ℕ) → up_to f (n + 1) ≡ up_to f n + f n
unfolding up_to
up-to-more f n = rw add-one

pub up-to-same : (f g : ℕ → ℕ) (n : ℕ) → ((j : ℕ) → f j ≡ g j) → up_to f n ≡ up_to g n
unfolding up_to
up-to-same f g zero e = refl
up-to-same f g (suc n) e = rw (up-to-same f g n e, e n)

pub up-to-none : (n : ℕ) → up_to (λ (j : ℕ). 0) n ≡ 0
unfolding up_to
up-to-none zero = refl
up-to-none (suc n) = rw (up-to-none n)

pub up-to-added : (f g : ℕ → ℕ) (n : ℕ) → up_to (λ (j : ℕ). f j + g j) n ≡ up_to f n + up_to g n
unfolding up_to
up-to-added f g zero = refl
up-to-added f g (suc n) = let h = up-to-added f g n in omega arith

pub up-to-grows : (f : ℕ → ℕ) (m n : ℕ) → up_to f m ≤ up_to f (m + n)
unfolding up_to
up-to-grows f m zero = rw add-zero (omega arith)
up-to-grows f m (suc n) = let h = up-to-grows f m n in rw add-suc (omega arith)

-- ---- the weighted sum

pub weighted-joined : (k : ℕ) (xs ys : List ℕ) → weighted k (xs ++ ys) ≡ weighted k xs + weighted (k + length xs) ys
unfolding weighted
weighted-joined k [] ys = simp (add-zero, zero-add)
weighted-joined k (x ∷ xs) ys =
    let e : k + 1 + length xs ≡ k + suc (length xs) = omega arith in
    rw (weighted-joined (k + 1) xs ys, e) (sym (add_assoc (k * x) (weighted (k + 1) xs) _))

pub weighted-part : (s : List ℕ) (k at n : ℕ) → at + n ≤ length s → weighted k (part s at n) ≡ up_to (λ (j : ℕ). (j + k) * get_or s (at + j) 0) n
unfolding weighted up_to
weighted-part s k at zero h = rw part_none
weighted-part s k at (suc n) h =
    let l : k + length (part s at n) ≡ n + k = omega (arith, part_length s at n (omega arith)) in
    let more : part s at (suc n) ≡ part s at n ++ (get_or s (at + n) 0 ∷ []) = rw add-one at (part-more s at n (omega arith)) in
    ap (weighted k) more ∙ weighted-joined k (part s at n) (get_or s (at + n) 0 ∷ [])
    ∙ rw (l, weighted-part s k at n (omega arith), add-zero)

-- ---- the greatest

weighted-most : (k : ℕ) (xs : List ℕ) → Bytes xs → weighted k xs ≤ weighted k (replicate (length xs) 255)
unfolding weighted
weighted-most k [] b = omega arith
weighted-most k (x ∷ xs) b =
    let h = weighted-most (k + 1) xs (λ i. b (suc i)) in
    let g : k * x ≤ k * 255 = mul-le-mul {n₁ = k} {m₁ = x} {n₂ = k} {m₂ = 255} (omega arith) (let f = b 0 in omega arith) in
    omega arith

-- that of a block whose bytes are all 255
abbrev pub greatest : ℕ
greatest = 33_227_775

greatest-is : weighted 1 (replicate checked_size 255) ≡ greatest
unfolding weighted
greatest-is = refl

pub sum-most : (xs : List ℕ) → Bytes xs → length xs ≡ checked_size → weighted 1 xs ≤ greatest
sum-most xs b l = rw (l, greatest-is) at (weighted-most 1 xs b)
