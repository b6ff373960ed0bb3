-- THE MOVES: one undoes the other, and restoring does not tell an old image from its move forward.
-- Assumes nothing.
use mathlib.Core.Path.{◌≡◌, refl, sym, ap, ◌∙◌}
use mathlib.Core.Bool.{Bool, true, false, ◌&&◌, not, cond}
use mathlib.Core.List.{List}
use Prim.Native.Nat.{ℕ, zero, suc, ◌-◌, ◌*◌, ◌^◌, ◌≤◌, ◌<◌}
use native.Mathlib.Nat.{not-suc-le-zero}
use native.Mathlib.Decide.{ℕ_discrete}
use native.Mathlib.Omega.{arith}
use lib.Dec.{eqb, leb, lit<}
use lib.ListN.{length}
use borrow.Author.Tests.{ne_eqb, eqb-true}
use Rattle.field.specs.Bytes.{part, Bytes}
use Rattle.field.proofs.Parts.{part_length}
use Rattle.field.proofs.Numbers.{part_bytes}
use Rattle.row.specs.Fields.{row_size}
use Rattle.row.specs.Rules.{newest}
use Rattle.row.specs.Moves.{forward_row, back_row, TimesUnknown}
use Rattle.row.proofs.Moved.{back-forward, was-unknown, then_same, none-known, unknown-none}
use Rattle.table.specs.Memory.{table_size, row_at, row, each_row}
use Rattle.table.proofs.Rows.{row_kept}
use Rattle.table.proofs.Each.{rows_whole, each-length, each-past, each_row_lem}
use Rattle.image.specs.Shape.{rows_of_version1, old_version, welcome, place_of, pages_for, first_page}
use Rattle.image.specs.Header.{header_of}
use Rattle.image.specs.Save.{image_in}
use Rattle.image.specs.Restore.{count_of, length_keeps, checks_keep, heads_keep, contents_keep, version_of, verdict_in, verdict_of, rows_of, memory_of, restored, restoring, restored_by, restore_of}
use Rattle.image.specs.Moves.{version_after, along, moved_of, AllUnknown, known_in, lost_by, lost_of}
use Rattle.image.specs.declared.Header.{Header}
use Rattle.image.specs.declared.Refusal.TheVariants.{Unfit, BadLength, BadCheck, BadHead, BadContents}
use Rattle.std.specs.Prelude.{Ok, Err}
use Rattle.image.specs.declared.Wanted.{Wanted}
use Rattle.image.specs.declared.Wanted.TheVariants.{Any, Older, Newest}
use Rattle.image.specs.declared.Way.{Way}
use Rattle.image.specs.declared.Way.TheVariants.{Forward, Back}
use Rattle.block.specs.Block.{block_size}
use Rattle.image.proofs.Laid.{place-row, row-page}
use Rattle.image.proofs.Zeros.{cleared-own}
use Rattle.image.proofs.Back.{HeaderFits, image-length, header-back, version-back, rows-of-back, image-accepted}
use Rattle.image.proofs.Again.{Kept, kept, count-is, pages-are, within, memory_start, rows_inside, header-good, next-good, version-good, rows_few, rows-length, rows-again, limits-again, image-again}
use Rattle.image.proofs.Rounds.{header-fits}
use Rattle.image.proofs.Renewed.{older, old-other, older-is, after-fits, along-size, own-length, moved_row, moved_length, moved-past, moved-blank, moved-keep, memory-new, memory-old}

pub version_below : (way : Way) (rows : ℕ) → version_after way rows < 256 ^ 2
unfolding old_version
version_below Forward rows = lit< tt
version_below Back rows = by (leb rows rows_of_version1)
  where
    by : (b : Bool) → cond b 1 2 < 256 ^ 2
    by true = lit< tt
    by false = lit< tt

session-ten : (image : List ℕ) → 512 ≤ length image → length (header_of image).session ≡ 10
unfolding header_of
session-ten image l = part_length image 14 10 (omega arith)

moved-of : (way : Way) (image : List ℕ) (h : Header) (m : List ℕ) → header_of image ≡ h → rows_of image ≡ m
    → moved_of way image ≡ image_in (version_after way h.board.rows) h (each_row (along way) h.board.rows m)
unfolding moved_of
moved-of way image h m e f i = image_in (version_after way (e i).board.rows) (e i) (each_row (along way) (e i).board.rows (f i))

-- ---- what a moved image says

module _ (image : List ℕ) (k : Kept image) (way : Way) where
  abbrev rows : ℕ
  rows = (header_of image).board.rows

  abbrev moved : List ℕ
  moved = each_row (along way) rows (rows_of image)

  pub fit : HeaderFits (header_of image)
  fit = header-fits (header_of image) (rows_of image) (session-ten image k.size.some) (limits-again image k) (header-good image k)

  -- as many bytes
  pub moved-size : length (moved_of way image) ≡ length image
  unfolding moved_of
  moved-size =
      image-length (version_after way rows) (version_below way rows) (header_of image) moved fit (moved_length image k way) (rows_few image k)
      ∙ ap (λ (n : ℕ). n * block_size) (count-is image k) ∙ k.size.whole

  -- the header stays
  pub moved-header : header_of (moved_of way image) ≡ header_of image
  unfolding moved_of
  moved-header = header-back (version_after way rows) (version_below way rows) (header_of image) moved fit (moved_length image k way) (rows_few image k)

  -- the version is the other one
  pub moved-version : version_of (moved_of way image) ≡ version_after way rows
  unfolding moved_of
  moved-version = version-back (version_after way rows) (version_below way rows) (header_of image) moved fit (moved_length image k way) (rows_few image k)

  -- each row is moved
  pub moved-rows : rows_of (moved_of way image) ≡ moved
  unfolding moved_of
  moved-rows =
      rows-of-back (version_after way rows) (version_below way rows) (header_of image) moved fit (moved_length image k way) (rows_few image k)
      ∙ cleared-own rows moved (moved-blank image k way)

  -- AND IT IS ACCEPTED, by every call that takes the version
  pub moved-accepted : (wanted : Wanted) → welcome wanted (version_after way rows) ≡ true → verdict_in wanted (moved_of way image) ≡ Ok (tt {0})
  unfolding moved_of
  moved-accepted =
      image-accepted (version_after way rows) (version_below way rows) (header_of image) moved fit (moved_length image k way) (rows_few image k)
      (next-good image k) (after-fits way rows) (header-good image k) (moved-keep image k way)

  -- moved once more, the rows are those of the image where each row is
  pub twice-rows : (again : Way) → ((j : ℕ) → j < rows → along again (along way (row j (rows_of image))) ≡ row j (rows_of image))
      → each_row (along again) rows moved ≡ rows_of image
  twice-rows again f =
      let l : row_at rows ≤ length moved = omega (arith, moved_length image k way, rows_few image k) in
      rows_whole rows (each_row (along again) rows moved) (rows_of image)
      (each-length (along again) (along-size again) moved rows l ∙ moved_length image k way ∙ sym (rows-length image k))
      (omega (arith, rows-length image k, rows_few image k))
      (λ j h. each_row_lem (along again) (along-size again) moved rows j l h ∙ ap (along again) (moved_row image k way j h) ∙ f j h)
      (each-past (along again) (along-size again) moved rows (row_at rows) _ l (omega arith) ∙ rw (rows-length image k) (moved-past image k way))

  pub twice-is : (again : Way) → moved_of again (moved_of way image) ≡ image_in (version_after again rows) (header_of image) (each_row (along again) rows moved)
  twice-is again = moved-of again (moved_of way image) (header_of image) moved moved-header moved-rows

-- ---- FORWARD THEN BACK GIVES THE SAME BYTES

pub forward-then-back : (image : List ℕ) → Bytes image → verdict_in Older image ≡ Ok (tt {0}) → moved_of Back (moved_of Forward image) ≡ image
forward-then-back image bytes e =
    let a = kept Older image e in
    let k = a.0 in
    let other : version_of image ≡ newest → ⊥ = older (version_of image) a.1 in
    let n = (header_of image).board.rows in
    twice-is image k Forward Back
    ∙ ap (image_in (old_version n) (header_of image))
    (twice-rows image k Forward Back
    (λ j h. back-forward (row j (rows_of image)) (omega (arith, own-length image k Forward j h)) (version_of image) other (row_kept (version_of image) n (rows_of image) (rows-again image k) j h)))
    ∙ ap (λ (v : ℕ). image_in v (header_of image) (rows_of image)) (sym (older-is (version_of image) n (version-good image k) other))
    ∙ image-again image k bytes

-- ---- BACK THEN FORWARD DOES SO EXACTLY WHEN EVERY SEEN SIDE'S TIME WAS UNKNOWN

module _ (image : List ℕ) (k : Kept image) where
  pub rows_are : (j : ℕ) → j < (header_of image).board.rows → row j (rows_of image) ≡ part image (place_of first_page block_size j) row_size
  unfolding row
  rows_are j h =
      let n : count_of image - 1 ≡ pages_for (header_of image).board.rows = pages-are (header_of image).board.rows (count_of image) (count-is image k) in
      memory_start image k (row_at j) row_size (omega (arith, rows_inside image k))
      ∙ place-row image first_page block_size (count_of image - 1) j (within image k) (rw n (row-page (header_of image).board.rows j h))

  row-bytes : Bytes image → (j : ℕ) → j < (header_of image).board.rows → Bytes (row j (rows_of image))
  row-bytes b j h = rw (rows_are j h) (part_bytes image (place_of first_page block_size j) row_size b)

pub unknown-then-same : (image : List ℕ) → Bytes image → verdict_in Newest image ≡ Ok (tt {0}) → AllUnknown image → moved_of Forward (moved_of Back image) ≡ image
unknown-then-same image bytes e u =
    let a = kept Newest image e in
    let k = a.0 in
    let v : version_of image ≡ newest = eqb-true (version_of image) newest a.1 in
    let n = (header_of image).board.rows in
    twice-is image k Back Forward
    ∙ ap (image_in newest (header_of image))
    (twice-rows image k Back Forward
    (λ j h. then_same (row j (rows_of image)) (omega (arith, own-length image k Back j h)) (rw v at (row_kept (version_of image) n (rows_of image) (rows-again image k) j h)) (row-bytes image k bytes j h) (u j h)))
    ∙ ap (λ (w : ℕ). image_in w (header_of image) (rows_of image)) (sym v)
    ∙ image-again image k bytes

pub old-welcome : (rows : ℕ) → welcome Older (old_version rows) ≡ true
old-welcome rows = ap not (ne_eqb (old_version rows) newest (old-other rows))

pub same-then-unknown : (image : List ℕ) → verdict_in Newest image ≡ Ok (tt {0}) → moved_of Forward (moved_of Back image) ≡ image → AllUnknown image
same-then-unknown image e f j h =
    let k = (kept Newest image e).0 in
    let back = moved_of Back image in
    let kb : Kept back = (kept Older back (moved-accepted image k Back Older (old-welcome (header_of image).board.rows))).0 in
    let hb : j < (header_of back).board.rows = rw (moved-header image k Back) h in
    let one : row j (rows_of back) ≡ back_row (row j (rows_of image)) = ap (row j) (moved-rows image k Back) ∙ moved_row image k Back j h in
    let two : forward_row (row j (rows_of back)) ≡ row j (rows_of image)
    = sym (moved_row back kb Forward j hb) ∙ sym (ap (row j) (moved-rows back kb Forward)) ∙ ap (λ (x : List ℕ). row j (rows_of x)) f in
    was-unknown (row j (rows_of image)) (omega (arith, own-length image k Back j h)) (ap forward_row (sym one) ∙ two)

-- ---- SO THE TIMES THAT ARE LOST ARE NONE EXACTLY THEN

none_in : (n : ℕ) (mem : List ℕ) → known_in n mem ≡ 0 → (j : ℕ) → j < n → TimesUnknown (row j mem)
unfolding known_in
none_in zero mem e j h = absurd (not-suc-le-zero h)
none_in (suc n) mem e j h = by (ℕ_discrete j n) (none-known (row n mem) (omega arith)) (none_in n mem (omega arith) j)
  where
    by : Dec (j ≡ n) → TimesUnknown (row n mem) → (j < n → TimesUnknown (row j mem)) → TimesUnknown (row j mem)
    by (yes i) here rest = rw i here
    by (no i) here rest = rest (omega arith)

in-none : (n : ℕ) (mem : List ℕ) → ((j : ℕ) → j < n → TimesUnknown (row j mem)) → known_in n mem ≡ 0
unfolding known_in
in-none zero mem u = refl
in-none (suc n) mem u = rw (in-none n mem (λ j h. u j (omega arith)), unknown-none (row n mem) (u n (omega arith)))

module _ (image : List ℕ) (e : verdict_in Newest image ≡ Ok (tt {0})) where
  pub lost-none : lost_of image ≡ 0 → AllUnknown image
  unfolding lost_of lost_by
  lost-none l = none_in (header_of image).board.rows (rows_of image) (rw e at l)

  pub none-lost : AllUnknown image → lost_of image ≡ 0
  unfolding lost_of lost_by
  none-lost u = rw e (in-none (header_of image).board.rows (rows_of image) u)

-- ---- RESTORING DOES NOT TELL AN OLD IMAGE FROM ITS MOVE FORWARD

any-if : (a b c w d : Bool)
    → cond a (cond b (cond (c && w) (cond d (Ok (tt {0})) (Err BadContents)) (Err BadHead)) (Err BadCheck)) (Err BadLength) ≡ Ok (tt {0})
    → cond a (cond b (cond (c && true) (cond d (Ok (tt {0})) (Err BadContents)) (Err BadHead)) (Err BadCheck)) (Err BadLength) ≡ Ok (tt {0})
any-if true true true true d e = e
any-if true true true false d e = let z : Err BadHead ≡ Ok (tt {0}) = e in cc
any-if true true false w d e = e
any-if true false c w d e = e
any-if false b c w d e = e

-- an image that a call takes is restored
pub any-accepted : (wanted : Wanted) (image : List ℕ) → verdict_in wanted image ≡ Ok (tt {0}) → verdict_of image ≡ Ok (tt {0})
unfolding verdict_in
any-accepted wanted image e =
    any-if (length_keeps image) (checks_keep image (count_of image)) (heads_keep image (count_of image) (header_of image)) (welcome wanted (version_of image))
    (contents_keep image (count_of image) (header_of image)) e

pub restore-forward : (image old : List ℕ) → verdict_in Older image ≡ Ok (tt {0}) → restore_of (moved_of Forward image) old ≡ restore_of image old
unfolding restore_of restored_by
restore-forward image old e =
    let a = kept Older image e in
    let k = a.0 in
    let other : version_of image ≡ newest → ⊥ = older (version_of image) a.1 in
    let m : memory_of (moved_of Forward image) ≡ memory_of image
    = memory-new (moved_of Forward image) (moved-version image k Forward) ∙ moved-rows image k Forward ∙ sym (memory-old image (ne_eqb (version_of image) newest other)) in
    rw (moved-accepted image k Forward Any refl, any-accepted Older image e) (by (eqb (length old) table_size) (moved-header image k Forward) m)
  where
    by : (b : Bool) → header_of (moved_of Forward image) ≡ header_of image → memory_of (moved_of Forward image) ≡ memory_of image
        → restored_by (cond b (Ok (tt {0})) (Err Unfit)) (moved_of Forward image) old ≡ restored_by (cond b (Ok (tt {0})) (Err Unfit)) image old
    by true h m = λ i. restoring (restored (Ok (tt {0})) (h i)) (m i)
    by false h m = refl
