-- The blocks of an image, made by writes one after the other.
-- Assumes nothing.
use mathlib.Core.Path.{◌≡◌, refl, sym, ap, ◌∙◌}
use mathlib.Core.List.{List, ◌++◌}
use Prim.Native.Nat.{ℕ, zero, suc, ◌+◌, ◌-◌, ◌*◌, ◌/◌, ◌≤◌, ◌<◌}
use native.Mathlib.Nat.{zero-add}
use native.Mathlib.Numerals.{add-one}
use native.Mathlib.Omega.{arith}
use lib.ListN.{length, replicate, length-append, length-replicate}
use Rattle.field.specs.Bytes.{part, overlay, bytes_be}
use Rattle.field.proofs.Parts.{part_length, part-part, overlay-none, overlay-next, overlay-whole, part-replicate}
use Rattle.block.specs.Block.{block_size, head_size, body_size, checked_size, check_of, head_bytes}
use Rattle.block.specs.declared.Head.{Head}
use Rattle.block.proofs.Joins.{part-first, part-both}
use Rattle.block.proofs.Blocks.{block-length, block-put}
use Rattle.table.specs.Memory.{most_rows, table_size, row_at}
use Rattle.image.specs.Shape.{page_rows, pages_for, blocks_for, most_blocks, head_for, pages, PagesIn, first_page}
use Rattle.image.specs.Header.{first_body}
use Rattle.image.specs.Save.{cleared, page_of, body_of, saved_block, blocks, image_in}
use Rattle.image.specs.declared.Header.{Header}
use Rattle.image.proofs.Laid.{page-row, pages-length}
use Rattle.image.proofs.Beside.{first-length}

pub count-few : (rows : ℕ) → rows ≤ most_rows → blocks_for rows ≤ most_blocks
unfolding blocks_for pages_for
count-few rows h = omega arith

-- ---- a page

module _ (rows : ℕ) (mem : List ℕ) (l : length mem ≡ table_size) (r : rows ≤ most_rows) where
  pub used-length : length (part mem 0 (row_at rows)) ≡ row_at rows
  used-length = part_length mem 0 (row_at rows) (omega arith)

  pub cleared-length : length (cleared rows mem) ≡ table_size
  unfolding cleared
  cleared-length = rw (length-append, used-length, length-replicate) (omega arith)

  module _ (k : ℕ) (there : k < pages_for rows) where
    inside : k * page_rows < rows
    inside = page-row rows k there

    pub page-length : length (page_of rows mem k) ≡ body_size
    unfolding page_of
    page-length = part_length (cleared rows mem) (k * body_size) body_size (omega (arith, cleared-length, inside))

    module _ (xs : List ℕ) (at : ℕ) where
      -- a page that is full
      pub full_put : {zs : List ℕ} → body_size ≤ row_at rows - k * body_size → zs ≡ overlay xs at (part mem (k * body_size) body_size)
          → zs ≡ overlay xs at (page_of rows mem k)
      unfolding page_of cleared
      full_put h e =
          e ∙ ap (overlay xs at)
          (sym (part-first (part mem 0 (row_at rows)) _ (k * body_size) body_size (omega (arith, used-length))
          ∙ part-part mem 0 (row_at rows) (k * body_size) body_size (omega arith) ∙ rw zero-add))

      -- and the last, of so many bytes
      last-page : (used : ℕ) → used ≡ row_at rows - k * body_size → used < body_size
          → page_of rows mem k ≡ part mem (k * body_size) used ++ replicate (body_size - used) 0
      unfolding page_of cleared
      last-page used e h =
          let i = inside in
          let few : k + 1 ≤ most_rows / page_rows = omega arith in
          let f : k * body_size + used ≡ row_at rows = omega arith in
          let g : used + (body_size - used) ≡ body_size = omega arith in
          rw g at (part-both (part mem 0 (row_at rows)) (replicate (table_size - row_at rows) 0) (k * body_size) used (body_size - used) (omega (arith, used-length)))
          ∙ rw (part-part mem 0 (row_at rows) (k * body_size) used (omega arith), zero-add, part-replicate (table_size - row_at rows) 0 (body_size - used) 0 (omega arith))

      pub last-put : {ys zs : List ℕ} → at + body_size ≤ length xs → row_at rows - k * body_size < body_size
          → ys ≡ overlay xs at (part mem (k * body_size) (row_at rows - k * body_size))
          → zs ≡ overlay ys (at + (row_at rows - k * body_size)) (replicate (body_size - (row_at rows - k * body_size)) 0)
          → zs ≡ overlay xs at (page_of rows mem k)
      last-put f h ey ez =
          let i = inside in
          let used : ℕ = row_at rows - k * body_size in
          let p : length (part mem (k * body_size) used) ≡ used = part_length mem (k * body_size) used (omega arith) in
          let q : length (replicate (body_size - used) zero) ≡ body_size - used = length-replicate _ zero in
          ez ∙ rw (ey, last-page used refl h)
          (rw p at (overlay-next xs at (part mem (k * body_size) used) (replicate (body_size - used) 0) (omega arith)))

-- ---- a block, and the blocks

pub page-there : (rows k : ℕ) → (k ≡ 0 → ⊥) → k < blocks_for rows → k - 1 < pages_for rows
unfolding blocks_for
page-there rows k z f = omega (arith, z)

module _ (v : ℕ) (h : Header) (mem : List ℕ) where
  pub body-first : (xs : List ℕ) (at k : ℕ) {zs : List ℕ} → k ≡ 0 → zs ≡ overlay xs at (first_body h) → zs ≡ overlay xs at (body_of h mem k)
  unfolding body_of
  body-first xs at k z e = e ∙ rw z

  pub body-later : (xs : List ℕ) (at k : ℕ) {zs : List ℕ} → (k ≡ 0 → ⊥) → zs ≡ overlay xs at (page_of h.board.rows mem (k - 1))
      → zs ≡ overlay xs at (body_of h mem k)
  unfolding body_of
  body-later xs at k z e =
      let s : suc (k - 1) ≡ k = omega (arith, z) in
      e ∙ ap (λ (j : ℕ). overlay xs at (body_of h mem j)) s

  module _ (s : length h.session ≡ 10) (l : length mem ≡ table_size) (r : h.board.rows ≤ most_rows) where
    pub body-length : (k : ℕ) → k < blocks_for h.board.rows → length (body_of h mem k) ≡ body_size
    unfolding body_of blocks_for
    body-length zero f = first-length h s
    body-length (suc k) f = page-length h.board.rows mem l r k (omega arith)

    pub saved-length : (k : ℕ) → k < blocks_for h.board.rows → length (saved_block v h mem k) ≡ block_size
    unfolding saved_block
    saved-length k f = block-length _ (body_of h mem k) (body-length k f)

    pub blocks-length : (k : ℕ) → k ≤ blocks_for h.board.rows → length (blocks v h mem k) ≡ k * block_size
    unfolding blocks
    blocks-length zero f = refl
    blocks-length (suc k) f =
        rw (length-append, blocks-length k (omega arith), saved-length k (omega arith)) (omega arith)

    pub saved-put : (xs : List ℕ) (k count : ℕ) {head : Head} {us vs zs : List ℕ} → k * block_size + block_size ≤ length xs
        → count ≡ blocks_for h.board.rows → k < count → head ≡ head_for count v h.next k
        → us ≡ overlay xs (k * block_size) (head_bytes head) → vs ≡ overlay us (k * block_size + head_size) (body_of h mem k)
        → zs ≡ overlay vs (k * block_size + checked_size) (bytes_be 2 (check_of (part vs (k * block_size) checked_size)))
        → zs ≡ overlay xs (k * block_size) (saved_block v h mem k)
    unfolding saved_block
    saved-put xs k count f ec kc eh a b c =
        block-put xs (k * block_size) (head_for (blocks_for h.board.rows) v h.next k) (body_of h mem k)
        (body-length k (rw ec at kc)) f (a ∙ rw (eh, ec)) b c

    pub blocks-turn : (xs : List ℕ) (k count : ℕ) {a z : List ℕ} → count * block_size ≤ length xs → count ≡ blocks_for h.board.rows → k < count
        → a ≡ overlay xs 0 (blocks v h mem k) → z ≡ overlay a (k * block_size) (saved_block v h mem k) → z ≡ overlay xs 0 (blocks v h mem (k + 1))
    unfolding blocks
    blocks-turn xs k count f ec g ea ez =
        let p : length (blocks v h mem k) ≡ k * block_size = blocks-length k (omega arith) in
        let q : length (saved_block v h mem k) ≡ block_size = saved-length k (omega arith) in
        ez ∙ rw (ea, add-one, ← p) (rw zero-add at (overlay-next xs 0 (blocks v h mem k) (saved_block v h mem k) (omega arith)))

  pub blocks-none : (xs : List ℕ) → xs ≡ overlay xs 0 (blocks v h mem 0)
  unfolding blocks
  blocks-none xs = sym (overlay-none xs 0)

  pub blocks-all : (xs : List ℕ) (count k : ℕ) {z : List ℕ} → count ≡ blocks_for h.board.rows → k ≤ count → count ≤ k → z ≡ overlay xs 0 (blocks v h mem k)
      → z ≡ overlay xs 0 (image_in v h mem)
  unfolding image_in
  blocks-all xs count k e f g ez = let d : k ≡ blocks_for h.board.rows = omega arith in ez ∙ rw d

-- ---- the pages of an image

pub image-pages : (image : List ℕ) (n : ℕ) → n * block_size + block_size ≤ length image → PagesIn image first_page block_size n
image-pages image n l k h = omega arith

pub taken_none : (image xs : List ℕ) → xs ≡ overlay xs 0 (pages image first_page block_size 0)
unfolding pages
taken_none image xs = sym (overlay-none xs 0)

module _ (image : List ℕ) (n : ℕ) (l : n * block_size + block_size ≤ length image) (xs : List ℕ) (k : ℕ) (t : length xs ≡ table_size) (m : n < most_blocks) where
  pub taken-turn : {a z : List ℕ} → k < n → a ≡ overlay xs 0 (pages image first_page block_size k)
      → z ≡ overlay a (k * body_size) (part image (first_page + k * block_size) body_size)
      → z ≡ overlay xs 0 (pages image first_page block_size (k + 1))
  unfolding pages
  taken-turn h ea ez =
      let p : length (pages image first_page block_size k) ≡ k * body_size = pages-length image first_page block_size k (image-pages image k (omega arith)) in
      let q : length (part image (first_page + k * block_size) body_size) ≡ body_size = part_length image (first_page + k * block_size) body_size (omega arith) in
      ez ∙ rw (ea, add-one, ← p) (rw zero-add at (overlay-next xs 0 (pages image first_page block_size k) (part image (first_page + k * block_size) body_size) (omega arith)))

  pub taken-all : {a z : List ℕ} → k ≤ n → n ≤ k → a ≡ overlay xs 0 (pages image first_page block_size k)
      → z ≡ overlay a (n * body_size) (replicate (table_size - n * body_size) 0)
      → z ≡ pages image first_page block_size n ++ replicate (table_size - n * body_size) 0
  taken-all {a} h g ea ez =
      let d : k ≡ n = omega arith in
      let p : length (pages image first_page block_size n) ≡ n * body_size = pages-length image first_page block_size n (image-pages image n l) in
      let q : length (replicate (table_size - n * body_size) zero) ≡ table_size - n * body_size = length-replicate (table_size - n * body_size) zero in
      let w : a ≡ overlay xs 0 (pages image first_page block_size n) = ea ∙ rw d in
      let o : overlay (overlay xs 0 (pages image first_page block_size n)) (n * body_size) (replicate (table_size - n * body_size) 0) ≡ overlay xs 0 (pages image first_page block_size n ++ replicate (table_size - n * body_size) 0)
      = rw p at (rw zero-add at (overlay-next xs 0 (pages image first_page block_size n) (replicate (table_size - n * body_size) 0) (omega arith))) in
      ez ∙ rw w o ∙ overlay-whole xs (pages image first_page block_size n ++ replicate (table_size - n * body_size) 0) (rw (length-append, length-replicate) (omega arith))
