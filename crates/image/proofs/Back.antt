-- What the image of a table says: its header and its rows come back, and it keeps every rule.
-- Assumes nothing.
use mathlib.Core.Path.{◌≡◌, refl, sym, ap, ◌∙◌}
use mathlib.Core.Bool.{Bool, true, false}
use mathlib.Core.List.{List, ◌++◌}
use Prim.Native.Nat.{ℕ, zero, suc, ◌+◌, ◌-◌, ◌*◌, ◌%◌, ◌^◌, ◌≤◌, ◌<◌}
use native.Mathlib.Nat.{add-zero, zero-add, not-suc-le-zero}
use native.Mathlib.Decide.{ℕ_discrete}
use native.Mathlib.Omega.{arith}
use lib.Dec.{eqb, leb, lit<, lit≤}
use lib.ListN.{length, drop, replicate, length-replicate}
use borrow.Author.Tests.{eq-eqb, le-leb}
use Rattle.field.specs.Bytes.{part, digits, be, bytes_be}
use Rattle.field.specs.Limits.{number_in_range}
use Rattle.field.proofs.Parts.{part-part, part-split, part_none, part-whole, part-drop}
use Rattle.field.proofs.Numbers.{value-digits, digits-length}
use Rattle.block.specs.Block.{block_size, head_size, body_size, head_at, check_keeps}
use Rattle.block.specs.declared.Head.{Head}
use Rattle.block.proofs.Joins.{part-first, part-past, part-second}
use Rattle.block.proofs.Blocks.{same_head_lem, head_read, check-here, body-here}
use Rattle.row.specs.Fields.{row_size}
use Rattle.row.specs.Rules.{newest}
use Rattle.table.specs.Memory.{most_rows, table_size, row_at, row}
use Rattle.table.specs.Rules.{rows_keep}
use Rattle.image.specs.Shape.{pages_for, blocks_for, most_blocks, version_fits, welcome, head_for, pages, first_page}
use Rattle.image.specs.Header.{header_keeps, flag, session_bytes, board_bytes, facts_size, first_body, header_of}
use Rattle.image.specs.Save.{cleared, page_of, body_of, saved_block, blocks, image_in, image_of}
use Rattle.image.specs.Restore.{count_of, length_keeps, checks_keep, head_keeps, heads_keep, facts_keep, slots_keep, contents_keep, version_of, verdict_in, rows_of, renewed, memory_of}
use Rattle.image.specs.declared.Header.{Header}
use Rattle.std.specs.Prelude.{Ok}
use Rattle.image.specs.declared.Wanted.{Wanted}
use Rattle.image.proofs.Below.{below_all}
use Rattle.image.proofs.Walk.{rows-equal}
use Rattle.image.proofs.Beside.{session-length, board-length}
use Rattle.image.proofs.Puts.{count-few, body-length, saved-length, blocks-length}
use Rattle.image.proofs.Judged.{rows-in-pages}
use Rattle.image.proofs.Ways.{row-start}
use Rattle.image.proofs.Zeros.{zeros-pass, cleared-start, cleared-past, cleared-whole}

-- the values of a header have room in their fields, as those of every header that the code holds have
pub record HeaderFits (h : Header) : Type 0 where
  pub session : length h.session ≡ 10
  pub event : h.board.event < 256
  pub next : h.next < 256 ^ 8
  pub live : h.board.live < 256 ^ 8

-- ---- the fields in the body of block 0

module _ (h : Header) (s : length h.session ≡ 10) where
  first-session : part (first_body h) 0 10 ≡ h.session
  unfolding first_body session_bytes
  first-session =
      part-first (session_bytes h) _ 0 10 (omega (arith, session-length h s))
      ∙ part-first h.session _ 0 10 (omega arith) ∙ part-whole h.session 10 s

  first-known : part (first_body h) 10 1 ≡ bytes_be 1 (flag h.known)
  unfolding first_body session_bytes
  first-known =
      part-first (session_bytes h) _ 10 1 (omega (arith, session-length h s))
      ∙ part-second h.session _ 10 1 s ∙ part-whole _ 1 (digits-length 256 1 (flag h.known))

  -- behind the session
  past : (at n : ℕ) → part (first_body h) (11 + at) n ≡ part (board_bytes h.board ++ replicate (body_size - facts_size) 0) at n
  unfolding first_body
  past at n = part-past (session_bytes h) _ 11 at n (session-length h s)

  first-event : part (first_body h) 11 1 ≡ bytes_be 1 h.board.event
  unfolding board_bytes digits part
  first-event = past 0 1

  first_rows : part (first_body h) 12 2 ≡ bytes_be 2 h.board.rows
  unfolding board_bytes digits part
  first_rows = past 1 2

  first_live : part (first_body h) 14 8 ≡ bytes_be 8 h.board.live
  unfolding board_bytes digits part
  first_live = past 3 8

  first-zeros : part (first_body h) facts_size (body_size - facts_size) ≡ replicate (body_size - facts_size) 0
  first-zeros =
      past 11 (body_size - facts_size) ∙ part-second (board_bytes h.board) _ 11 (body_size - facts_size) (board-length h.board)
      ∙ part-whole _ (body_size - facts_size) (length-replicate (body_size - facts_size) zero)

flag-below : (b : Bool) → flag b < 256 ^ 1
flag-below true = lit< tt
flag-below false = lit< tt

flag_small : (b : Bool) → leb (flag b) 1 ≡ true
flag_small true = refl
flag_small false = refl

flag-back : (b : Bool) → eqb (flag b) 1 ≡ b
flag-back true = refl
flag-back false = refl

module _ (v : ℕ) (small : v < 256 ^ 2) (h : Header) (mem : List ℕ) (fit : HeaderFits h) (l : length mem ≡ table_size) (r : h.board.rows ≤ most_rows) where
  some : (1 ≤ blocks_for h.board.rows) × (blocks_for h.board.rows ≡ 1 + pages_for h.board.rows)
  unfolding blocks_for
  some = (omega arith, refl)

  few : blocks_for h.board.rows ≤ most_blocks
  few = count-few h.board.rows r

  -- ---- each block stands at its place

  pub image-length : length (image_in v h mem) ≡ blocks_for h.board.rows * block_size
  unfolding image_in
  image-length = blocks-length v h mem fit.session l r (blocks_for h.board.rows) (omega arith)

  pub image-count : count_of (image_in v h mem) ≡ blocks_for h.board.rows
  image-count = omega (arith, image-length)

  last_block : (n k : ℕ) → n < blocks_for h.board.rows → k < suc n
      → (k < n → part (blocks v h mem n) (k * block_size) block_size ≡ saved_block v h mem k)
      → Dec (k ≡ n) → part (blocks v h mem n ++ saved_block v h mem n) (k * block_size) block_size ≡ saved_block v h mem k
  last_block n k f g rec (yes q) =
      rw q
      (part-second (blocks v h mem n) (saved_block v h mem n) (n * block_size) block_size (blocks-length v h mem fit.session l r n (omega arith))
      ∙ part-whole (saved_block v h mem n) block_size (saved-length v h mem fit.session l r n f))
  last_block n k f g rec (no q) =
      part-first (blocks v h mem n) (saved_block v h mem n) (k * block_size) block_size (omega (arith, q, blocks-length v h mem fit.session l r n (omega arith)))
      ∙ rec (omega (arith, q))

  blocks-part : (n k : ℕ) → n ≤ blocks_for h.board.rows → k < n → part (blocks v h mem n) (k * block_size) block_size ≡ saved_block v h mem k
  unfolding blocks
  blocks-part zero k f g = absurd (not-suc-le-zero g)
  blocks-part (suc n) k f g =
      last_block n k f g (λ d. blocks-part n k (omega arith) d) (ℕ_discrete k n)

  module _ (k : ℕ) (there : k < blocks_for h.board.rows) where
    image-block : part (image_in v h mem) (k * block_size) block_size ≡ saved_block v h mem k
    unfolding image_in
    image-block = blocks-part (blocks_for h.board.rows) k (omega arith) there

    pub image-body : (i n : ℕ) → i + n ≤ body_size → part (image_in v h mem) (k * block_size + head_size + i) n ≡ part (body_of h mem k) i n
    unfolding saved_block
    image-body = body-here (image_in v h mem) (k * block_size) _ (body_of h mem k) (body-length v h mem fit.session l r k there) image-block

    pub image-head : head_at (image_in v h mem) (k * block_size) ≡ head_for (blocks_for h.board.rows) v h.next k
    unfolding saved_block head_for
    image-head =
        head_read (image_in v h mem) (k * block_size) _ (body_of h mem k) (body-length v h mem fit.session l r k there) image-block
        (record { number = omega (arith, few); count = omega (arith, few); version = small; next = fit.next })

    image-check : check_keeps (image_in v h mem) (k * block_size) ≡ true
    unfolding saved_block
    image-check = check-here (image_in v h mem) (k * block_size) _ (body_of h mem k) (body-length v h mem fit.session l r k there) image-block

  -- ---- block 0

  image-fact : (i n : ℕ) → i + n ≤ body_size → part (image_in v h mem) (head_size + i) n ≡ part (first_body h) i n
  unfolding body_of
  image-fact i n e = image-body 0 some.0 i n e

  number-back : (i n x : ℕ) → i + n ≤ body_size → part (first_body h) i n ≡ bytes_be n x → x < 256 ^ n → be (part (image_in v h mem) (head_size + i) n) ≡ x
  number-back i n x e f b = ap be (image-fact i n e ∙ f) ∙ value-digits 256 (lit< tt) n x b

  known_is : be (part (image_in v h mem) 24 1) ≡ flag h.known
  known_is = number-back 10 1 (flag h.known) (lit≤ tt) (first-known h fit.session) (flag-below h.known)

  -- THE HEADER COMES BACK
  pub header-back : header_of (image_in v h mem) ≡ h
  unfolding header_of head_for
  header-back =
      let a : part (image_in v h mem) 14 10 ≡ h.session = image-fact 0 10 (lit≤ tt) ∙ first-session h fit.session in
      let b : eqb (be (part (image_in v h mem) 24 1)) 1 ≡ h.known = rw known_is (flag-back h.known) in
      let d : (head_at (image_in v h mem) 0).next ≡ h.next = ap (λ (g : Head). g.next) (image-head 0 some.0) in
      let e : be (part (image_in v h mem) 25 1) ≡ h.board.event = number-back 11 1 h.board.event (lit≤ tt) (first-event h fit.session) fit.event in
      let f : be (part (image_in v h mem) 26 2) ≡ h.board.rows = number-back 12 2 h.board.rows (lit≤ tt) (first_rows h fit.session) (omega arith) in
      let g : be (part (image_in v h mem) 28 8) ≡ h.board.live = number-back 14 8 h.board.live (lit≤ tt) (first_live h fit.session) fit.live in
      λ i. record { session = a i; known = b i; next = d i; board = record { rows = f i; event = e i; live = g i } }

  facts-back : facts_keep (image_in v h mem) ≡ true
  unfolding facts_keep
  facts-back =
      rw (known_is, flag_small h.known, image-fact facts_size (body_size - facts_size) (lit≤ tt), first-zeros h fit.session)
      (zeros-pass (body_size - facts_size))

  -- ---- the pages

  image-page : (n : ℕ) → suc n < blocks_for h.board.rows
      → part (image_in v h mem) (first_page + n * block_size) body_size ≡ part (cleared h.board.rows mem) (n * body_size) body_size
  unfolding body_of page_of
  image-page n f =
      let a : first_page + n * block_size ≡ suc n * block_size + head_size + 0 = omega arith in
      rw a (image-body (suc n) f 0 body_size (lit≤ tt))
      ∙ part-part (cleared h.board.rows mem) (n * body_size) body_size 0 body_size (lit≤ tt) ∙ rw add-zero

  image-pages : (n : ℕ) → n < blocks_for h.board.rows
      → pages (image_in v h mem) first_page block_size n ≡ part (cleared h.board.rows mem) 0 (n * body_size)
  unfolding pages
  image-pages zero f = sym (part_none _ _)
  image-pages (suc n) f =
      let a : suc n * body_size ≡ n * body_size + body_size = omega arith in
      rw (a, part-split (cleared h.board.rows mem) 0 (n * body_size) body_size, zero-add, image-pages n (omega arith), image-page n f)

  -- the rows end in the pages, and the pages in the table
  ends : (row_at h.board.rows ≤ pages_for h.board.rows * body_size) × (pages_for h.board.rows * body_size ≤ table_size)
  ends = (rows-in-pages h.board.rows, omega (arith, few, some))

  all-pages : pages (image_in v h mem) first_page block_size (blocks_for h.board.rows - 1) ≡ part (cleared h.board.rows mem) 0 (pages_for h.board.rows * body_size)
  all-pages =
      let a : blocks_for h.board.rows - 1 ≡ pages_for h.board.rows = omega (arith, some) in
      rw a (image-pages (pages_for h.board.rows) (omega (arith, some)))

  -- THE VERSION COMES BACK
  pub version-back : version_of (image_in v h mem) ≡ v
  unfolding version_of head_for
  version-back = ap (λ (g : Head). g.version) (image-head 0 some.0)

  -- THE ROWS COME BACK, AND ZEROS PAST THEM
  pub rows-of-back : rows_of (image_in v h mem) ≡ cleared h.board.rows mem
  unfolding rows_of
  rows-of-back =
      let a : blocks_for h.board.rows - 1 ≡ pages_for h.board.rows = omega (arith, some) in
      rw (image-count, all-pages, a) (cleared-whole h.board.rows mem l r (pages_for h.board.rows * body_size) ends.0 ends.1)

  rows_back : rows_keep v h.board.rows (part (cleared h.board.rows mem) 0 (pages_for h.board.rows * body_size)) ≡ rows_keep v h.board.rows mem
  unfolding row
  rows_back =
      rows-equal v h.board.rows _ mem
      (λ j f. row-start (cleared h.board.rows mem) j (pages_for h.board.rows * body_size) (omega (arith, ends))
      ∙ cleared-start h.board.rows mem l r (row_at j) row_size (omega arith))

  spare-back : drop (row_at h.board.rows) (part (cleared h.board.rows mem) 0 (pages_for h.board.rows * body_size))
      ≡ replicate (pages_for h.board.rows * body_size - row_at h.board.rows) 0
  spare-back =
      part-drop (cleared h.board.rows mem) 0 (pages_for h.board.rows * body_size) (row_at h.board.rows) ends.0
      ∙ rw zero-add (cleared-past h.board.rows mem l r (pages_for h.board.rows * body_size - row_at h.board.rows) (omega (arith, ends)))

  -- ---- the rules, one after the other

  module _ (in_range : number_in_range h.next ≡ true) (fits : version_fits v h.board.rows ≡ true) (good : header_keeps h ≡ true) (kept : rows_keep v h.board.rows mem ≡ true) where
    length-good : length_keeps (image_in v h mem) ≡ true
    unfolding length_keeps
    length-good =
        rw (
          image-count,
          eq-eqb (length (image_in v h mem) % block_size) 0 (omega (arith, image-length)),
          le-leb 1 (blocks_for h.board.rows) some.0,
          le-leb (blocks_for h.board.rows) most_blocks few,
        )

    checks-good : checks_keep (image_in v h mem) (blocks_for h.board.rows) ≡ true
    unfolding checks_keep
    checks-good = below_all _ (blocks_for h.board.rows) image-check

    heads-good : heads_keep (image_in v h mem) (blocks_for h.board.rows) h ≡ true
    unfolding heads_keep head_keeps
    heads-good =
        rw (in_range, version-back, fits)
        (below_all (head_keeps (image_in v h mem) (blocks_for h.board.rows) h) (blocks_for h.board.rows) (λ k f. rw (image-head k f, version-back) (same_head_lem _)))

    slots-good : slots_keep (image_in v h mem) (blocks_for h.board.rows) h.board.rows ≡ true
    unfolding slots_keep
    slots-good =
        rw (eq-eqb (blocks_for h.board.rows) _ refl, all-pages, version-back, rows_back, kept, spare-back)
        (zeros-pass (pages_for h.board.rows * body_size - row_at h.board.rows))

    -- THE IMAGE OF A TABLE IS ACCEPTED
    pub image-accepted : (wanted : Wanted) → welcome wanted v ≡ true → verdict_in wanted (image_in v h mem) ≡ Ok (tt {0})
    unfolding verdict_in contents_keep
    image-accepted wanted w = rw (length-good, image-count, checks-good, header-back, heads-good, version-back, w, facts-back, good, slots-good)

-- AN IMAGE OF VERSION 3 IS RESTORED AS IT STANDS
pub memory-back : (h : Header) (mem : List ℕ) → HeaderFits h → length mem ≡ table_size → h.board.rows ≤ most_rows → memory_of (image_of h mem) ≡ cleared h.board.rows mem
unfolding memory_of renewed
memory-back h mem fit l r = rw (version-back newest (lit< tt) h mem fit l r) (rows-of-back newest (lit< tt) h mem fit l r)
