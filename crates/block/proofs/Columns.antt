-- The weighted sum of a block, column by column.
-- Assumes nothing.
use mathlib.Core.Path.{◌≡◌, refl, ◌∙◌}
use mathlib.Core.List.{List}
use Prim.Native.Nat.{ℕ, zero, suc, ◌+◌, ◌-◌, ◌*◌, ◌≤◌, ◌<◌}
use native.Mathlib.Nat.{add_comm, add_assoc, zero-mul, suc-mul, add-mul, mul-add, mul-le-mul}
use native.Mathlib.Omega.{arith}
use mir.Val.{Fits}
use mir.Syntax.{w8}
use lib.ListN.{length, get_or}
use Rattle.field.specs.Bytes.{part, be, Bytes}
use Rattle.field.proofs.Parts.{part_length, part_none, part-split}
use Rattle.field.proofs.Numbers.{be-one, part_bytes}
use Rattle.block.specs.Block.{checked_size, weighted}
use Rattle.block.specs.Shapes.{strips, strip_size, column_sum}
use Rattle.block.proofs.Sums.{up_to, up-to-more, up-to-same, up-to-none, up-to-added, up-to-grows, weighted-joined, weighted-part, greatest, sum-most}

-- ---- a column by two running sums

-- from this strip on the column is summed, whatever its first byte weighs
abbrev pub Runs : List ℕ → ℕ → ℕ → ℕ → ℕ → Type 0
Runs s at strip bytes sums = (k : ℕ) → k * bytes + strip_size * sums ≡ column_sum strip_size s (at + strip * strip_size) k (strips - strip)

pub runs_none : (s : List ℕ) (at : ℕ) → Runs s at strips 0 0
unfolding column_sum
runs_none s at k = omega arith

pub runs-turn : (s : List ℕ) (at strip bytes sums : ℕ) {b : ℕ} → 0 < strip → strip ≤ strips → at + (strip - 1) * strip_size < length s
    → b ≡ be (part s (at + (strip - 1) * strip_size) 1) → Runs s at strip bytes sums → Runs s at (strip - 1) (bytes + b) (sums + bytes)
unfolding column_sum
runs-turn s at strip bytes sums {b} some few h e r k =
    let n : strips - (strip - 1) ≡ suc (strips - strip) = omega arith in
    let p : at + (strip - 1) * strip_size + strip_size ≡ at + strip * strip_size = omega arith in
    let g : b ≡ get_or s (at + (strip - 1) * strip_size) 0 = e ∙ be-one s _ h in
    let x : k * (bytes + b) ≡ k * bytes + k * b = mul-add k bytes b in
    let y : (k + strip_size) * bytes ≡ k * bytes + strip_size * bytes = add-mul k strip_size bytes in
    rw (n, p, ← g, ← r (k + strip_size), x, y) (omega arith)

pub runs-whole : (s : List ℕ) (at strip k bytes sums : ℕ) → strip ≡ 0 → Runs s at strip bytes sums
    → k * bytes + strip_size * sums ≡ column_sum strip_size s at k strips
runs-whole s at strip k bytes sums e r =
    let p : at + strip * strip_size ≡ at = omega arith in
    let n : strips - strip ≡ strips = omega arith in
    rw (p, n) at (r k)

-- a column's bytes, weighed by the place of the first, are few
pub weighed : (weight bytes : ℕ) → weight ≤ strip_size → bytes ≤ strips * 255 → weight * bytes ≤ strip_size * (strips * 255)
weighed weight bytes f g = mul-le-mul {n₁ = weight} {m₁ = bytes} {n₂ = strip_size} {m₂ = strips * 255} f g

-- ---- all columns

column-none : (size : ℕ) (s : List ℕ) (at k j : ℕ) → column_sum size s (at + j) (j + k) 0 ≡ 0
unfolding column_sum
column-none size s at k j = refl

-- the first strip's byte, and the column of the strips behind it
column-more : (size : ℕ) (s : List ℕ) (at k n j : ℕ)
    → column_sum size s (at + j) (j + k) (suc n) ≡ (j + k) * get_or s (at + j) 0 + column_sum size s (at + size + j) (j + (k + size)) n
unfolding column_sum
column-more size s at k n j =
    let p : at + j + size ≡ at + size + j = omega arith in
    rw (p, add_assoc j k size)

-- the columns of n strips, the first byte weighing k
columns : (size : ℕ) (s : List ℕ) (at k n : ℕ) → at + n * size ≤ length s
    → up_to (λ (j : ℕ). column_sum size s (at + j) (j + k) n) size ≡ weighted k (part s at (n * size))
unfolding weighted
columns size s at k zero h = up-to-same _ _ size (column-none size s at k) ∙ up-to-none size ∙ rw (zero-mul, part_none)
columns size s at k (suc n) h =
    let m : suc n * size ≡ size + n * size = suc-mul n size ∙ add_comm (n * size) size in
    let l : length (part s at size) ≡ size = part_length s at size (omega arith) in
    let first = weighted-part s k at size (omega arith) in
    let behind = columns size s (at + size) (k + size) n (omega arith) in
    up-to-same _ _ size (column-more size s at k n)
    ∙ up-to-added (λ (j : ℕ). (j + k) * get_or s (at + j) 0) (λ (j : ℕ). column_sum size s (at + size + j) (j + (k + size)) n) size
    ∙ rw (← first, behind, m, part-split s at size (n * size), weighted-joined, l)

-- ---- the loop over the columns of a block

-- what the code knows of lent bytes: each of them fits in eight bits
abbrev Lent : List ℕ → Type 0
Lent s = (i : ℕ) → Fits w8 (get_or s i 0)

-- the sum of the first columns of the block at `at`
abbrev pub summed : List ℕ → ℕ → ℕ → ℕ
summed s at = up_to (λ (j : ℕ). column_sum strip_size s (at + j) (j + 1) strips)

module _ (s : List ℕ) (at : ℕ) (h : at + checked_size ≤ length s) where
  pub summed-all : summed s at strip_size ≡ weighted 1 (part s at checked_size)
  summed-all = columns strip_size s at 1 strips h

  pub summed_turn : (i : ℕ) {c sum : ℕ} → c ≡ column_sum strip_size s (at + i) (i + 1) strips → sum ≡ summed s at i
      → sum + c ≡ summed s at (i + 1)
  summed_turn i e f = rw (e, f, up-to-more)

  pub summed-most : (i : ℕ) → Lent s → i ≤ strip_size → summed s at i ≤ greatest
  summed-most i k f =
      let b : Bytes s = λ j. let g = k j in omega arith in
      let n : i + (strip_size - i) ≡ strip_size = omega arith in
      let g = rw n at (up-to-grows (λ (j : ℕ). column_sum strip_size s (at + j) (j + 1) strips) i (strip_size - i)) in
      let w = sum-most (part s at checked_size) (part_bytes s at checked_size b) (part_length s at checked_size h) in
      let a = summed-all in
      omega arith

  -- the sum after a turn is not above the greatest
  pub turn-most : (i : ℕ) {c sum : ℕ} → Lent s → i < strip_size → c ≡ column_sum strip_size s (at + i) (i + 1) strips → sum ≡ summed s at i
      → sum + c ≤ greatest
  turn-most i k f e g = rw (summed_turn i e g) (summed-most (i + 1) k (omega arith))
