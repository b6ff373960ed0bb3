-- The laws of pages: their bytes, and the rows in them.
-- Assumes nothing.
use mathlib.Core.Path.{◌≡◌, refl, sym, ap, ◌∙◌}
use mathlib.Core.List.{List, ◌++◌}
use Prim.Native.Nat.{ℕ, zero, suc, ◌+◌, ◌*◌, ◌/◌, ◌%◌, ◌≤◌, ◌<◌}
use native.Mathlib.Nat.{add-zero, not-suc-le-zero}
use native.Mathlib.Decide.{ℕ_discrete}
use native.Mathlib.Omega.{arith}
use lib.Dec.{lit≤}
use lib.ListN.{length, length-append}
use Rattle.field.specs.Bytes.{part, be}
use Rattle.field.proofs.Parts.{part_length, part-part, part-split, part_none}
use Rattle.block.specs.Block.{body_size}
use Rattle.block.proofs.Joins.{part-first, part-past}
use Rattle.row.specs.Fields.{row_size}
use Rattle.table.specs.Memory.{most_rows, row}
use Rattle.image.specs.Shape.{page_rows, pages_for, blocks_for, most_blocks, pages, PagesIn, place_of}

-- ---- the sizes fit one another

pub most-blocks : blocks_for most_rows ≡ most_blocks
unfolding blocks_for pages_for
most-blocks = refl

-- ---- how many

-- row j is in one of the pages for so many rows
pub row-page : (rows j : ℕ) → j < rows → j / page_rows < pages_for rows
unfolding pages_for
row-page rows j h = omega arith

pub page-row : (rows k : ℕ) → k < pages_for rows → k * page_rows < rows
unfolding pages_for
page-row rows k h = omega arith

-- ---- the bytes

module _ (bs : List ℕ) (base stride : ℕ) where
  pub pages-length : (n : ℕ) → PagesIn bs base stride n → length (pages bs base stride n) ≡ n * body_size
  unfolding pages
  pages-length zero f = refl
  pages-length (suc n) f =
      rw (length-append, pages-length n (λ k h. f k (omega arith)), part_length bs (base + n * stride) body_size (f n (omega arith))) (omega arith)

  last-page : (n k i m : ℕ) → PagesIn bs base stride (suc n) → k < suc n → i + m ≤ body_size
      → (k < n → part (pages bs base stride n) (k * body_size + i) m ≡ part bs (base + k * stride + i) m) → Dec (k ≡ n)
      → part (pages bs base stride n ++ part bs (base + n * stride) body_size) (k * body_size + i) m ≡ part bs (base + k * stride + i) m
  last-page n k i m f g e rec (yes q) =
      let l = pages-length n (λ k h. f k (omega arith)) in
      rw q
      (part-past (pages bs base stride n) (part bs (base + n * stride) body_size) (n * body_size) i m l
      ∙ part-part bs (base + n * stride) body_size i m e)
  last-page n k i m f g e rec (no q) =
      let l = pages-length n (λ k h. f k (omega arith)) in
      part-first (pages bs base stride n) (part bs (base + n * stride) body_size) (k * body_size + i) m (omega (arith, q))
      ∙ rec (omega (arith, q))

  pub pages-part : (n k i m : ℕ) → PagesIn bs base stride n → k < n → i + m ≤ body_size
      → part (pages bs base stride n) (k * body_size + i) m ≡ part bs (base + k * stride + i) m
  unfolding pages
  pages-part zero k i m f g e = absurd (not-suc-le-zero g)
  pages-part (suc n) k i m f g e =
      last-page n k i m f g e (λ d. pages-part n k i m (λ j h. f j (omega arith)) d e) (ℕ_discrete k n)

  -- ---- the rows

  module _ (n j : ℕ) (f : PagesIn bs base stride n) (h : j / page_rows < n) where
    -- a part of row j, in the pages and where it stands
    pub place-part : (i m : ℕ) → i + m ≤ row_size → part (pages bs base stride n) (j * row_size + i) m ≡ part bs (place_of base stride j + i) m
    unfolding place_of
    place-part i m e =
        let a : j * row_size + i ≡ j / page_rows * body_size + (j % page_rows * row_size + i) = omega arith in
        let b : base + j / page_rows * stride + j % page_rows * row_size + i ≡ base + j / page_rows * stride + (j % page_rows * row_size + i) = omega arith in
        rw (a, b) (pages-part n (j / page_rows) (j % page_rows * row_size + i) m f h (omega arith))

    pub place-row : row j (pages bs base stride n) ≡ part bs (place_of base stride j) row_size
    unfolding row
    place-row = rw (add-zero, add-zero) at (place-part 0 row_size (lit≤ tt))

    pub place-id : be (part bs (place_of base stride j) 4) ≡ be (part (pages bs base stride n) (j * row_size) 4)
    place-id = ap be (sym (rw (add-zero, add-zero) at (place-part 0 4 (lit≤ tt))))

    pub place-fits : place_of base stride j + row_size ≤ length bs
    unfolding place_of
    place-fits = let g = f (j / page_rows) h in omega arith

pub row_fits : (bs : List ℕ) (base stride rows j : ℕ) → PagesIn bs base stride (pages_for rows) → j < rows → place_of base stride j + row_size ≤ length bs
row_fits bs base stride rows j f h = place-fits bs base stride (pages_for rows) j f (row-page rows j h)

-- pages that touch are a part
pub pages-touch : (bs : List ℕ) (n : ℕ) → pages bs 0 body_size n ≡ part bs 0 (n * body_size)
unfolding pages
pages-touch bs zero = sym (part_none bs 0)
pages-touch bs (suc n) =
    let a : suc n * body_size ≡ n * body_size + body_size = omega arith in
    rw (a, part-split bs 0 (n * body_size) body_size, pages-touch bs n)
