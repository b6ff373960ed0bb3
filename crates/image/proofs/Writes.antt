-- The blocks of a moved image, made by writes one after the other.
-- Assumes nothing.
use mathlib.Core.Path.{◌≡◌, refl, sym, ap, subst, ◌∙◌}
use mathlib.Core.Bool.{Bool, true, false, cond}
use mathlib.Core.List.{List}
use Prim.Native.Nat.{ℕ, ◌+◌, ◌-◌, ◌*◌, ◌≤◌, ◌<◌}
use native.Mathlib.Decide.{ℕ_discrete}
use native.Mathlib.Numerals.{add-one}
use native.Mathlib.Omega.{arith}
use borrow.Author.Tests.{le-leb, lt-leb, leb-true, leb-false}
use borrow.Rule.Slice.PartMut.{put_mid}
use lib.Dec.{leb}
use lib.ListN.{length, take, drop}
use Rattle.field.specs.Bytes.{part, overlay}
use Rattle.field.proofs.Parts.{part_length, part-part, part_none, part-overlay, overlay-again, overlay-length, part-back}
use Rattle.block.specs.Block.{block_size, body_size}
use Rattle.row.specs.Fields.{row_size}
use Rattle.row.specs.Moves.{known_times}
use Rattle.table.specs.Memory.{most_rows, table_size, row_at, row, each_row}
use Rattle.table.proofs.Each.{rows_whole, each-length, each-past, each_row_lem}
use Rattle.image.specs.Shape.{page_rows, pages_for, blocks_for, most_blocks, PagesIn, place_of, first_page}
use Rattle.image.specs.Header.{header_of}
use Rattle.image.specs.Save.{Sizes, page_of, image_in, saving, unsaved}
use Rattle.image.specs.Restore.{count_of, verdict_in, verdict_of, rows_of}
use Rattle.image.specs.Moves.{used_in, wanted_by, version_after, along, moved_of, moved_by, move_of, known_in, lost_by, lost_of}
use Rattle.image.specs.declared.Header.{Header}
use Rattle.image.specs.declared.Refusal.{Refusal}
use Rattle.image.specs.declared.Refusal.TheVariants.{ShortOutput}
use Rattle.std.specs.Prelude.{Result, Ok, Err}
use Rattle.image.specs.declared.Wanted.{Wanted}
use Rattle.image.specs.declared.Wanted.TheVariants.{Any, Newest}
use Rattle.image.specs.declared.Way.{Way}
use Rattle.image.specs.declared.moves.Moving.{Moving}
use Rattle.image.proofs.Laid.{pages-part}
use Rattle.image.proofs.Zeros.{cleared-own}
use Rattle.image.proofs.Again.{Kept, kept, count-is, pages-are, within, memory_start, rows_few, rows-length}
use Rattle.image.proofs.Renewed.{along-size, moved_row, moved_length, moved-blank}
use Rattle.image.proofs.Moved.{fit, any-accepted, rows_are}

pub used-four : (rows k : ℕ) → page_rows ≤ rows - k * page_rows → page_rows ≡ used_in rows k
unfolding used_in
used-four rows k h = rw (le-leb page_rows (rows - k * page_rows) h)

pub used-left : (rows k : ℕ) → rows - k * page_rows < page_rows → rows - k * page_rows ≡ used_in rows k
unfolding used_in
used-left rows k h = rw (lt-leb page_rows (rows - k * page_rows) h)

-- a page has at most four rows, and where it has fewer the rows end in it
record Used (rows k u : ℕ) : Type 0 where
  few : u ≤ page_rows
  there : k * page_rows + u ≤ rows
  ends : (u ≡ page_rows → ⊥) → k * page_rows + u ≡ rows

used : (rows k : ℕ) → k * page_rows < rows → Used rows k (used_in rows k)
unfolding used_in
used rows k h = by (leb page_rows (rows - k * page_rows)) refl
  where
    by : (b : Bool) → leb page_rows (rows - k * page_rows) ≡ b → Used rows k (cond b page_rows (rows - k * page_rows))
    by true e = let l = leb-true page_rows (rows - k * page_rows) e in record { few = omega arith; there = omega arith; ends = λ n. absurd (n refl) }
    by false e = let l = leb-false page_rows (rows - k * page_rows) e in record { few = omega arith; there = omega arith; ends = λ n. omega arith }

page-there : (rows k : ℕ) → k < pages_for rows → k * page_rows < rows
unfolding pages_for
page-there rows k h = omega arith

pub used-fits : (rows k : ℕ) → k < pages_for rows → k * page_rows ≤ rows
used-fits rows k h = omega (arith, page-there rows k h)

module _ (image : List ℕ) (k : Kept image) (way : Way) (i : ℕ) (h : i < pages_for (header_of image).board.rows) where
  abbrev rows : ℕ
  rows = (header_of image).board.rows

  abbrev moved : List ℕ
  moved = each_row (along way) rows (rows_of image)

  abbrev page : List ℕ
  page = part image (first_page + i * block_size) body_size

  u : Used rows i (used_in rows i)
  u = used rows i (page-there rows i h)

  inside : i < count_of image - 1
  inside = rw (pages-are rows (count_of image) (count-is image k)) h

  page-long : length page ≡ body_size
  page-long = part_length image (first_page + i * block_size) body_size (within image k i inside)

  in_table : i * body_size + body_size ≤ table_size
  in_table = omega (arith, page-there rows i h, rows_few image k)

  -- a part of the page, in the rows of the image
  page-part : (at n : ℕ) → at + n ≤ body_size → part (rows_of image) (i * body_size + at) n ≡ part page at n
  page-part at n f =
      memory_start image k (i * body_size + at) n (omega (arith, inside))
      ∙ pages-part image first_page block_size (count_of image - 1) i at n (within image k) inside f
      ∙ sym (part-part image (first_page + i * block_size) body_size at n f)

  used-here : row_at (used_in rows i) ≤ length page
  used-here = omega (arith, u.few, page-long)

  long : length (each_row (along way) (used_in rows i) page) ≡ body_size
  long = each-length (along way) (along-size way) page (used_in rows i) used-here ∙ page-long

  same_rows : (j : ℕ) → j < used_in rows i → row j (part moved (i * body_size) body_size) ≡ row j (each_row (along way) (used_in rows i) page)
  unfolding row
  same_rows j g =
      let a : (i * page_rows + j) * row_size ≡ i * body_size + j * row_size = omega arith in
      part-part moved (i * body_size) body_size (j * row_size) row_size (omega (arith, u.few))
      ∙ ap (λ (x : ℕ). part moved x row_size) (sym a)
      ∙ moved_row image k way (i * page_rows + j) (omega (arith, u.there))
      ∙ ap (along way) (ap (λ (x : ℕ). part (rows_of image) x row_size) a ∙ page-part (j * row_size) row_size (omega (arith, u.few)))
      ∙ sym (each_row_lem (along way) (along-size way) page (used_in rows i) j used-here g)

  same_rest : (n : ℕ) → n ≡ body_size - row_at (used_in rows i) → Dec (used_in rows i ≡ page_rows)
      → part (part moved (i * body_size) body_size) (row_at (used_in rows i)) n ≡ part (each_row (along way) (used_in rows i) page) (row_at (used_in rows i)) n
  same_rest n e (yes d) =
      let z : n ≡ 0 = omega arith in
      ap (part (part moved (i * body_size) body_size) (row_at (used_in rows i))) z ∙ part_none _ _
      ∙ sym (ap (part (each_row (along way) (used_in rows i) page) (row_at (used_in rows i))) z ∙ part_none _ _)
  same_rest n e (no d) =
      let w : i * page_rows + used_in rows i ≡ rows = u.ends d in
      part-part moved (i * body_size) body_size (row_at (used_in rows i)) n (omega (arith, u.few))
      ∙ each-past (along way) (along-size way) (rows_of image) rows (i * body_size + row_at (used_in rows i)) n (omega (arith, rows_few image k, rows-length image k)) (omega arith)
      ∙ page-part (row_at (used_in rows i)) n (omega (arith, u.few))
      ∙ sym (each-past (along way) (along-size way) page (used_in rows i) (row_at (used_in rows i)) n used-here (omega arith))

  -- THE MOVED PAGE IS THE PAGE WITH ITS ROWS MOVED
  pub page_moved : page_of rows moved i ≡ each_row (along way) (used_in rows i) page
  unfolding page_of
  page_moved =
      rw (cleared-own rows moved (moved-blank image k way))
      (rows_whole (used_in rows i) (part moved (i * body_size) body_size) (each_row (along way) (used_in rows i) page)
      (part_length moved (i * body_size) body_size (omega (arith, moved_length image k way, in_table)) ∙ sym long)
      (omega (arith, u.few, long)) same_rows
      (same_rest (length (each_row (along way) (used_in rows i) page) - row_at (used_in rows i)) (ap (λ (m : ℕ). m - row_at (used_in rows i)) long) (ℕ_discrete (used_in rows i) page_rows)))

-- ---- in the output

pub lent-long : (xs : List ℕ) (at u : ℕ) → at + body_size ≤ length xs → u ≤ page_rows → row_at u ≤ length (take (at + body_size - at) (drop at xs))
unfolding part
lent-long xs at u f h =
    let d : at + body_size - at ≡ body_size = omega arith in
    rw (d, part_length xs at body_size f) (omega arith)

module _ (image : List ℕ) (a : verdict_of image ≡ Ok (tt {0})) (way : Way) (rows i : ℕ) (er : rows ≡ (header_of image).board.rows) (h : i < pages_for rows) where
  k : Kept image
  k = (kept Any image a).0

  pub image-long : (first_page + i * block_size + body_size ≤ length image) × (i < most_blocks)
  image-long =
      let n = pages-are rows (count_of image) (rw (← er) at (count-is image k)) in
      (omega (arith, within image k i (rw n h)), omega (arith, k.size.few, n))

  pub used-small : used_in rows i ≤ page_rows
  used-small = (used rows i (page-there rows i h)).few

  pub page-put : (xs : List ℕ) (at m : ℕ) {w : ℕ} {us r : List ℕ} → at + body_size ≤ length xs → m ≡ at + body_size - at
      → us ≡ overlay xs at (part image (first_page + i * block_size) body_size) → w ≡ used_in rows i → r ≡ each_row (along way) w (part us at m)
      → length r ≡ m → put_mid at m us r ≡ overlay xs at (page_of rows (each_row (along way) rows (rows_of image)) i)
  page-put xs at m {w} {us} {r} f em eu ew e l =
      let p : List ℕ = part image (first_page + i * block_size) body_size in
      let lp : length p ≡ body_size = part_length image (first_page + i * block_size) body_size image-long.0 in
      let d : m ≡ body_size = omega arith in
      let q : part us at m ≡ p = ap (part us at) (d ∙ sym lp) ∙ ap (λ (x : List ℕ). part x at (length p)) eu ∙ part-overlay xs at p (omega arith) in
      let ll : length us ≡ length xs = ap length eu ∙ overlay-length xs at p (omega arith) in
      let m1 : page_of rows (each_row (along way) rows (rows_of image)) i ≡ each_row (along way) (used_in rows i) p = rw er (page_moved image k way i (rw er at h)) in
      let m2 : r ≡ each_row (along way) (used_in rows i) p = e ∙ ap (each_row (along way) w) q ∙ ap (λ (x : ℕ). each_row (along way) x p) ew in
      let pm : page_of rows (each_row (along way) rows (rows_of image)) i ≡ r = m1 ∙ sym m2 in
      ap (λ (x : ℕ). put_mid at x us r) em ∙ part-back at (at + body_size) us r (omega arith) (omega arith) (l ∙ em)
      ∙ ap (λ (x : List ℕ). overlay x at r) eu ∙ overlay-again xs at p r (lp ∙ sym (l ∙ d)) (omega arith) ∙ ap (overlay xs at) (sym pm)

-- of an image on its way
module _ (m : Moving) where
  pub rows-are : m.header.board.rows ≡ (header_of m.image.now).board.rows
  rows-are = ap (λ (h : Header). h.board.rows) m.header_is

  module _ (k : ℕ) (h : k < pages_for m.header.board.rows) where
    pub page-room : (first_page + k * block_size + body_size ≤ length m.image.now) × (k < most_blocks)
    page-room = image-long m.image.now m.judged m.way m.header.board.rows k rows-are h

    pub page-used : used_in m.header.board.rows k ≤ page_rows
    page-used = used-small m.image.now m.judged m.way m.header.board.rows k rows-are h

module _ (image : List ℕ) (a : verdict_of image ≡ Ok (tt {0})) (h : Header) (eh : h ≡ header_of image) where
  pub rows-here : h.board.rows ≤ most_rows
  rows-here = rw eh (rows_few image (kept Any image a).0)

  pub count-here : (count_of image ≡ blocks_for h.board.rows) × (count_of image * block_size ≡ length image) × (count_of image ≤ most_blocks)
  count-here = let k = (kept Any image a).0 in (rw eh (sym (count-is image k)), k.size.whole, k.size.few)

  module _ (way : Way) where
    pub sizes : Sizes h (each_row (along way) h.board.rows (rows_of image))
    sizes =
        let k = (kept Any image a).0 in
        rw eh (record { session = (fit image k way).session; sized = moved_length image k way; few = rows_few image k })

-- the rows of an image that is restored have room in the table
pub rows-room : (wanted : Wanted) (image : List ℕ) (h : Header) {v : Result (Unit {0}) Refusal} → v ≡ verdict_in wanted image → v ≡ Ok (tt {0}) → h ≡ header_of image
    → row_at h.board.rows ≤ table_size
rows-room wanted image h e f g = omega (arith, rows-here image (any-accepted wanted image (sym e ∙ f)) h g)

-- ---- the ways through a move

module _ (way : Way) (image out : List ℕ) {w : Wanted} (ew : w ≡ wanted_by way) {v : Result (Unit {0}) Refusal} (ev : v ≡ verdict_in w image) where
  judged : moved_by v way image out ≡ move_of way image out
  unfolding move_of
  judged = rw (ev, ew)

  pub move-any : v ≡ Ok (tt {0}) → verdict_of image ≡ Ok (tt {0})
  move-any f = any-accepted w image (sym ev ∙ f)

  pub move-long : v ≡ Ok (tt {0}) → block_size ≤ length image
  move-long f = (kept Any image (move-any f)).0.size.some

  pub move-refused : (r : Refusal) → v ≡ Err r → unsaved r out ≡ move_of way image out
  unfolding moved_by
  move-refused r f = sym (ap (λ (x : Result (Unit {0}) Refusal). moved_by x way image out) f) ∙ judged

  pub move-short : v ≡ Ok (tt {0}) → length out < length image → unsaved ShortOutput out ≡ move_of way image out
  unfolding moved_by
  move-short f n = sym (ap (λ (x : Result (Unit {0}) Refusal). moved_by x way image out) f ∙ rw (lt-leb (length image) (length out) n)) ∙ judged

  pub move-whole : (h : Header) {n : ℕ} {z : List ℕ} → v ≡ Ok (tt {0}) → length image ≤ length out → h ≡ header_of image → n ≡ version_after way h.board.rows
      → z ≡ overlay out 0 (image_in n h (each_row (along way) h.board.rows (rows_of image))) → saving (Ok (length image)) z ≡ move_of way image out
  unfolding moved_by moved_of
  move-whole h f l eh en ez =
      rw (ez, en, eh) (sym (ap (λ (x : Result (Unit {0}) Refusal). moved_by x way image out) f ∙ rw (le-leb (length image) (length out) l)) ∙ judged)

-- ---- the times that are counted

module _ (image : List ℕ) (e : verdict_of image ≡ Ok (tt {0})) (used : ℕ) (eu : used ≡ (header_of image).board.rows) where
  one : Kept image
  one = (kept Any image e).0

  pub rows-inside : PagesIn image first_page block_size (pages_for used)
  rows-inside =
      let n : count_of image - 1 ≡ pages_for (header_of image).board.rows = pages-are (header_of image).board.rows (count_of image) (count-is image one) in
      subst (λ (u : ℕ). PagesIn image first_page block_size (pages_for u)) (sym eu) (rw n at (within image one))

  pub known-turn : (k : ℕ) → k < used → {total n : ℕ} {bytes : List ℕ} → total ≡ known_in k (rows_of image)
      → bytes ≡ part image (place_of first_page block_size k) row_size → n ≡ known_times bytes → total + n ≡ known_in (k + 1) (rows_of image)
  unfolding known_in
  known-turn k h t eb g = rw (add-one, t, g, eb, rows_are image one k (rw eu at h))

pub few-used : (image : List ℕ) → verdict_of image ≡ Ok (tt {0}) → (used : ℕ) → used ≡ (header_of image).board.rows → used ≤ most_rows
few-used image e used eu = rw eu (rows_few image (kept Any image e).0)

pub known-begin : (mem : List ℕ) → 0 ≡ known_in 0 mem
unfolding known_in
known-begin mem = refl

-- the ways through what is lost
module _ (image : List ℕ) {v : Result (Unit {0}) Refusal} (ev : v ≡ verdict_in Newest image) where
  pub lost-taken : v ≡ Ok (tt {0}) → verdict_of image ≡ Ok (tt {0})
  lost-taken f = any-accepted Newest image (sym ev ∙ f)

  pub lost-long : v ≡ Ok (tt {0}) → block_size ≤ length image
  lost-long f = (kept Any image (lost-taken f)).0.size.some

  pub lost-counted : (h : Header) {n : ℕ} → v ≡ Ok (tt {0}) → h ≡ header_of image → n ≡ known_in h.board.rows (rows_of image) → n ≡ lost_of image
  unfolding lost_of lost_by
  lost-counted h f eh en = rw (← ev, f, ← eh) en

  pub lost-refused : (r : Refusal) → v ≡ Err r → 0 ≡ lost_of image
  unfolding lost_of lost_by
  lost-refused r f = rw (← ev, f)
