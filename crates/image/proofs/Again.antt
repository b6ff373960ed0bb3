-- What an accepted image says, and that the image of what it says, in its version, is the image itself.
-- Assumes nothing.
use mathlib.Core.Path.{◌≡◌, refl, sym, ap, ◌∙◌}
use mathlib.Core.Bool.{Bool, true, false, ◌&&◌, cond}
use mathlib.Core.List.{List, ◌++◌}
use Prim.Native.Nat.{ℕ, zero, suc, ◌+◌, ◌-◌, ◌*◌, ◌≤◌, ◌<◌}
use native.Mathlib.Nat.{add-zero, zero-add}
use native.Mathlib.Omega.{arith}
use lib.Dec.{eqb, leb, lit≤}
use lib.ListN.{length, drop, replicate, length-append, length-drop, length-replicate, replicate-append-replicate}
use lib.Seq.{drop-append-le}
use borrow.Author.Tests.{eq-eqb, le-leb, eqb-true, leb-true}
use Rattle.field.specs.Bytes.{part, be, Bytes}
use Rattle.field.specs.Limits.{number_in_range}
use Rattle.field.specs.Text.{every, is_zero}
use Rattle.field.proofs.Bools.{both_left, both_right}
use Rattle.field.proofs.Parts.{part_length, part-split, part_none, part-all}
use Rattle.field.proofs.Runs.{zeros-are}
use Rattle.block.specs.Block.{block_size, head_size, body_size, head_at, check_keeps}
use Rattle.block.proofs.Joins.{part-first, read-bytes}
use Rattle.block.proofs.Blocks.{head-is, block-again}
use Rattle.row.specs.Fields.{row_size}
use Rattle.table.specs.Memory.{most_rows, table_size, row_at, row}
use Rattle.table.specs.Board.{fits}
use Rattle.table.specs.Rules.{rows_keep}
use Rattle.image.specs.Shape.{pages_for, blocks_for, most_blocks, version_fits, welcome, head_for, pages, PagesIn, first_page}
use Rattle.image.specs.Header.{within_limits, header_keeps, flag, session_bytes, board_bytes, facts_size, first_body, header_of}
use Rattle.image.specs.Save.{page_of, body_of, saved_block, blocks, image_in}
use Rattle.image.specs.Restore.{count_of, length_keeps, checks_keep, head_keeps, heads_keep, facts_keep, slots_keep, contents_keep, version_of, verdict_in, rows_of}
use Rattle.image.specs.declared.Refusal.{Refusal}
use Rattle.image.specs.declared.Refusal.TheVariants.{BadLength, BadCheck, BadHead, BadContents}
use Rattle.std.specs.Prelude.{Result, Ok, Err}
use Rattle.image.specs.declared.Wanted.{Wanted}
use Rattle.image.proofs.Below.{below_at}
use Rattle.image.proofs.Laid.{pages-length, pages-part}
use Rattle.image.proofs.Walk.{rows-equal}
use Rattle.image.proofs.Puts.{image-pages}
use Rattle.image.proofs.Judged.{Long, long, rows-in-pages}
use Rattle.image.proofs.Zeros.{cleared-own}

-- ---- what acceptance says, test by test

pub accepted-if : (b : Bool) (v : Result (Unit {0}) Refusal) (r : Refusal) → cond b v (Err r) ≡ Ok (tt {0}) → (b ≡ true) × (v ≡ Ok (tt {0}))
accepted-if true v r e = (refl, e)
accepted-if false v r e = let z : Err r ≡ Ok (tt {0}) = e in (cc, cc)

pub record Kept (image : List ℕ) : Type 0 where
  pub size : Long image
  pub checks : checks_keep image (count_of image) ≡ true
  pub heads : heads_keep image (count_of image) (header_of image) ≡ true
  pub contents : contents_keep image (count_of image) (header_of image) ≡ true

pub kept : (wanted : Wanted) (image : List ℕ) → verdict_in wanted image ≡ Ok (tt {0}) → Kept image × (welcome wanted (version_of image) ≡ true)
unfolding verdict_in
kept wanted image e =
    let a = accepted-if (length_keeps image) _ BadLength e in
    let b = accepted-if (checks_keep image (count_of image)) _ BadCheck a.1 in
    let c = accepted-if (heads_keep image (count_of image) (header_of image) && welcome wanted (version_of image)) _ BadHead b.1 in
    let d = accepted-if (contents_keep image (count_of image) (header_of image)) (Ok (tt {0})) BadContents c.1 in (
      record { size = long image a.0; checks = b.0; heads = both_left _ (welcome wanted (version_of image)) c.0; contents = d.0 },
      both_right (heads_keep image (count_of image) (header_of image)) _ c.0,
    )

-- a byte for "known" that is 0 or 1
flag-byte : (b : ℕ) → b ≤ 1 → flag (eqb b 1) ≡ b
flag-byte zero h = refl
flag-byte (suc zero) h = refl
flag-byte (suc (suc b)) h = absurd (omega arith)

-- the rows of an image that fit the count are no more than the table has
few-rows : (rows count : ℕ) → blocks_for rows ≡ count → count ≤ most_blocks → rows ≤ most_rows
unfolding blocks_for pages_for
few-rows rows count e f = omega arith

pub pages-are : (rows count : ℕ) → blocks_for rows ≡ count → count - 1 ≡ pages_for rows
unfolding blocks_for
pages-are rows count e = omega arith

module _ (image : List ℕ) (k : Kept image) where
  facts-good : facts_keep image ≡ true
  unfolding contents_keep
  facts-good = both_left _ _ k.contents

  past-facts : header_keeps (header_of image) && slots_keep image (count_of image) (header_of image).board.rows ≡ true
  unfolding contents_keep
  past-facts = both_right (facts_keep image) _ k.contents

  pub header-good : header_keeps (header_of image) ≡ true
  header-good = both_left _ _ past-facts

  slots-good : slots_keep image (count_of image) (header_of image).board.rows ≡ true
  slots-good = both_right (header_keeps (header_of image)) _ past-facts

  pub count-is : blocks_for (header_of image).board.rows ≡ count_of image
  unfolding slots_keep
  count-is = eqb-true _ _ (both_left _ _ slots-good)

  past-count : rows_keep (version_of image) (header_of image).board.rows (pages image first_page block_size (count_of image - 1))
      && every is_zero (drop (row_at (header_of image).board.rows) (pages image first_page block_size (count_of image - 1))) ≡ true
  unfolding slots_keep
  past-count = both_right (eqb (blocks_for (header_of image).board.rows) (count_of image)) _ slots-good

  pub next-good : number_in_range (header_of image).next ≡ true
  unfolding heads_keep
  next-good = both_left _ _ (both_left _ _ k.heads)

  pub version-good : version_fits (version_of image) (header_of image).board.rows ≡ true
  unfolding heads_keep
  version-good = both_right (number_in_range (header_of image).next) _ (both_left _ _ k.heads)

  pub rows_few : (header_of image).board.rows ≤ most_rows
  rows_few = few-rows (header_of image).board.rows (count_of image) count-is k.size.few

  -- ---- heads and checks

  pub head_at_lem : (i : ℕ) → i < count_of image
      → head_at image (i * block_size) ≡ head_for (count_of image) (version_of image) (header_of image).next i
  unfolding heads_keep head_keeps
  head_at_lem i f =
      head-is _ _ (below_at (head_keeps image (count_of image) (header_of image)) (count_of image) i (both_right (number_in_range (header_of image).next && version_fits (version_of image) (header_of image).board.rows) _ k.heads) f)

  check-at : (i : ℕ) → i < count_of image → check_keeps image (i * block_size) ≡ true
  unfolding checks_keep
  check-at i f = below_at _ (count_of image) i k.checks f

  -- ---- the pages

  pub within : PagesIn image first_page block_size (count_of image - 1)
  within = image-pages image (count_of image - 1) (omega (arith, k.size.least, k.size.whole))

  all-length : length (pages image first_page block_size (count_of image - 1)) ≡ (count_of image - 1) * body_size
  all-length = pages-length image first_page block_size (count_of image - 1) within

  pub rows-length : length (rows_of image) ≡ table_size
  unfolding rows_of
  rows-length = rw (length-append, all-length, length-replicate) (omega (arith, k.size.few))

  pub rows_inside : row_at (header_of image).board.rows ≤ (count_of image - 1) * body_size
  rows_inside = rw (pages-are (header_of image).board.rows (count_of image) count-is) (rows-in-pages (header_of image).board.rows)

  spare-again : drop (row_at (header_of image).board.rows) (pages image first_page block_size (count_of image - 1))
      ≡ replicate ((count_of image - 1) * body_size - row_at (header_of image).board.rows) 0
  spare-again =
      let all = pages image first_page block_size (count_of image - 1) in
      let taken = row_at (header_of image).board.rows in
      let d : length (drop taken all) ≡ (count_of image - 1) * body_size - taken = length-drop taken all ∙ ap (λ (n : ℕ). n - taken) all-length in
      zeros-are _ (both_right (rows_keep (version_of image) (header_of image).board.rows all) _ past-count) ∙ ap (λ (n : ℕ). replicate n 0) d

  -- past the rows the memory is zero
  pub rows-blank : drop (row_at (header_of image).board.rows) (rows_of image) ≡ replicate (table_size - row_at (header_of image).board.rows) 0
  unfolding rows_of
  rows-blank =
      let i = rows_inside in
      let s = k.size.few in
      let a : (count_of image - 1) * body_size - row_at (header_of image).board.rows + (table_size - (count_of image - 1) * body_size) ≡ table_size - row_at (header_of image).board.rows = omega arith in
      drop-append-le (row_at (header_of image).board.rows) (pages image first_page block_size (count_of image - 1)) _ (omega (arith, all-length))
      ∙ rw (spare-again, replicate-append-replicate ((count_of image - 1) * body_size - row_at (header_of image).board.rows) (table_size - (count_of image - 1) * body_size) zero, a)

  pub memory_start : (at n : ℕ) → at + n ≤ (count_of image - 1) * body_size → part (rows_of image) at n ≡ part (pages image first_page block_size (count_of image - 1)) at n
  unfolding rows_of
  memory_start at n f = part-first (pages image first_page block_size (count_of image - 1)) _ at n (omega (arith, all-length))

  page-again : (i : ℕ) → suc i < count_of image → page_of (header_of image).board.rows (rows_of image) i ≡ part image (suc i * block_size + head_size) body_size
  unfolding page_of
  page-again i f =
      let a : first_page + i * block_size + 0 ≡ suc i * block_size + head_size = omega arith in
      rw (cleared-own (header_of image).board.rows (rows_of image) rows-blank)
      (memory_start (i * body_size) body_size (omega arith)
      ∙ rw add-zero at (pages-part image first_page block_size (count_of image - 1) i 0 body_size within (omega arith) (lit≤ tt)) ∙ rw a)

  -- ---- the rules hold of what is restored

  pub rows-again : rows_keep (version_of image) (header_of image).board.rows (rows_of image) ≡ true
  unfolding row
  rows-again =
      rows-equal (version_of image) (header_of image).board.rows (rows_of image) (pages image first_page block_size (count_of image - 1))
      (λ j f. memory_start (row_at j) row_size (omega (arith, rows_inside)))
      ∙ both_left _ _ past-count

  pub limits-again : within_limits (header_of image) (rows_of image) ≡ true
  unfolding within_limits fits
  limits-again =
      rw (eq-eqb (length (rows_of image)) table_size rows-length, le-leb (header_of image).board.rows most_rows rows_few) next-good

  -- ---- the bytes

  module _ (bytes : Bytes image) where
    session-again : session_bytes (header_of image) ≡ part image 14 11
    unfolding session_bytes header_of facts_keep
    session-again =
        let l = k.size.some in
        let f = flag-byte (be (part image 24 1)) (leb-true _ _ (both_left _ _ facts-good)) in
        rw (f, read-bytes image 24 1 bytes (omega arith)) (sym (part-split image 14 10 1))

    board-again : board_bytes (header_of image).board ≡ part image 25 11
    unfolding board_bytes header_of
    board-again =
        let l = k.size.some in
        rw (read-bytes image 25 1 bytes (omega arith), read-bytes image 26 2 bytes (omega arith), read-bytes image 28 8 bytes (omega arith))
        (sym (part-split image 25 1 10 ∙ ap (λ (r : List ℕ). part image 25 1 ++ r) (part-split image 26 2 8)))

    zeros-again : replicate (body_size - facts_size) 0 ≡ part image (head_size + facts_size) (body_size - facts_size)
    unfolding facts_keep
    zeros-again =
        let l = k.size.some in
        sym (zeros-are (part image (head_size + facts_size) (body_size - facts_size)) (both_right (leb (be (part image 24 1)) 1) _ facts-good)
        ∙ ap (λ (n : ℕ). replicate n 0) (part_length image (head_size + facts_size) (body_size - facts_size) (omega arith)))

    first-again : first_body (header_of image) ≡ part image head_size body_size
    unfolding first_body
    first-again =
        rw (session-again, board-again, zeros-again)
        (sym (part-split image head_size 11 485 ∙ ap (λ (r : List ℕ). part image head_size 11 ++ r) (part-split image 25 11 (body_size - facts_size))))

    -- ---- the blocks

    body-again : (i : ℕ) → i < count_of image → body_of (header_of image) (rows_of image) i ≡ part image (i * block_size + head_size) body_size
    unfolding body_of
    body-again zero f = first-again
    body-again (suc i) f = page-again i f

    block_same : (i : ℕ) → i < count_of image → saved_block (version_of image) (header_of image) (rows_of image) i ≡ part image (i * block_size) block_size
    unfolding saved_block
    block_same i f =
        rw (count-is, ← head_at_lem i f, body-again i f)
        (block-again image (i * block_size) bytes (omega (arith, k.size.whole)) (check-at i f))

    blocks-same : (n : ℕ) → n ≤ count_of image → blocks (version_of image) (header_of image) (rows_of image) n ≡ part image 0 (n * block_size)
    unfolding blocks
    blocks-same zero f = sym (part_none _ _)
    blocks-same (suc n) f =
        let a : suc n * block_size ≡ n * block_size + block_size = omega arith in
        rw (a, part-split image 0 (n * block_size) block_size, zero-add, blocks-same n (omega arith), block_same n (omega arith))

    -- THE IMAGE, IN ITS VERSION, OF WHAT AN IMAGE SAYS IS THE IMAGE
    pub image-again : image_in (version_of image) (header_of image) (rows_of image) ≡ image
    unfolding image_in
    image-again = rw count-is (blocks-same (count_of image) (omega arith) ∙ rw k.size.whole (part-all image))
