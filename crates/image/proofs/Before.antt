-- NO IMAGE OF BEFORE IS LOST: what a program of before W-208 or W-209 made or accepted is accepted, gives the same header and the same table with the time of
-- each seen side unknown, is saved as its move forward, and that moved back is the image; and what such a program answers to an image of now.
-- Assumes nothing.
use mathlib.Core.Path.{◌≡◌, refl, sym, ap, ◌∙◌}
use mathlib.Core.Bool.{Bool, true, false, ◌&&◌, not, cond, and-false}
use mathlib.Core.List.{List, ◌++◌, append_assoc}
use Prim.Native.Nat.{ℕ, zero, ◌+◌, ◌-◌, ◌*◌, ◌%◌, ◌^◌, ◌≤◌, ◌<◌}
use native.Mathlib.Omega.{arith}
use lib.Dec.{eqb, leb}
use lib.ListN.{length, replicate, length-append, length-replicate, replicate-append-replicate}
use borrow.Author.Tests.{le-leb, lt-leb, eq-eqb, ne_eqb, eqb-true, leb-true}
use Rattle.field.specs.Bytes.{Bytes, part, overlay}
use Rattle.field.specs.Limits.{number_in_range}
use Rattle.field.proofs.Bools.{both_left, both_right}
use Rattle.field.proofs.Parts.{part-overlay}
use Rattle.message.proofs.Layouts.{never}
use Rattle.block.specs.Block.{block_size, body_size, head_at, same_head}
use Rattle.block.specs.declared.Head.{Head}
use Rattle.block.proofs.Blocks.{head-is}
use Rattle.block.proofs.Joins.{part-first}
use Rattle.row.specs.Fields.{row_size}
use Rattle.row.specs.Rules.{newest}
use Rattle.row.specs.Moves.{forward_row}
use Rattle.table.specs.Memory.{most_rows, table_size, row_at, row, each_row}
use Rattle.table.specs.Board.{fits}
use Rattle.table.specs.Rules.{rows_keep}
use Rattle.image.specs.Shape.{pages_for, blocks_for, most_blocks, rows_of_version1, old_version, version_fits, head_for, pages, first_page, all_below}
use Rattle.image.specs.Header.{within_limits, header_keeps, header_of}
use Rattle.image.specs.Save.{cleared, image_in, size_for, Saving, saving, save_of}
use Rattle.image.specs.Restore.{count_of, length_keeps, checks_keep, version_of, head_keeps, heads_keep, facts_keep, slots_keep, contents_keep, verdict_in, verdict_of, rows_of, Restoring, restored, restoring, restore_of, restored_by}
use Rattle.image.specs.Moves.{moved_of}
use Rattle.image.specs.Before.{Program, before_w208, before_w209, Former, table_size_of, most_blocks_of, is_table_of, widened, length_kept, head_kept, heads_kept, slots_kept, contents_kept, verdict_before, memory_before, restored_by_before, restore_before, within_limits_of, image_before, save_before}
use Rattle.image.specs.declared.Header.{Header}
use Rattle.image.specs.declared.Refusal.TheVariants.{Unfit, BadLength, BadCheck, BadHead, BadContents, ShortOutput}
use Rattle.std.specs.Prelude.{Result, Ok, Err}
use Rattle.image.specs.declared.Refusal.{Refusal}
use Rattle.image.specs.declared.Wanted.TheVariants.{Any, Older}
use Rattle.image.specs.declared.Way.TheVariants.{Forward, Back}
use Rattle.image.proofs.Below.{below-same, below_at, below-stop}
use Rattle.image.proofs.Walk.{rows-equal}
use Rattle.image.proofs.Back.{HeaderFits, image-length, header-back, version-back, rows-of-back, image-accepted}
use Rattle.image.proofs.Again.{accepted-if, kept, count-is, version-good}
use Rattle.image.proofs.Renewed.{older, old-other, older-is, memory-old}
use Rattle.image.proofs.Rounds.{whole-if, header-fits, restored-forward}
use Rattle.image.proofs.Moved.{version_below, old-welcome, any-accepted, moved-accepted, moved-header, forward-then-back}

-- ---- versions

pub version-1 : (rows : ℕ) → rows ≤ rows_of_version1 → old_version rows ≡ 1
unfolding old_version
version-1 rows h = rw (le-leb rows rows_of_version1 h) refl

pub version-2 : (rows : ℕ) → rows_of_version1 < rows → old_version rows ≡ 2
unfolding old_version
version-2 rows h = rw (lt-leb rows rows_of_version1 h) refl

-- ---- both programs are what the theorems ask for

pub until-208 : Former before_w208
until-208 = record { few = omega arith; whole = refl; other = λ rows e. omega arith; same = λ rows h. sym (version-1 rows h) }

pub until-209 : Former before_w209
until-209 = record { few = omega arith; whole = refl; other = old-other; same = λ rows h. refl }

-- ---- tests that come in threes

three : (a b c : Bool) → a && (b && c) ≡ true → (a && b ≡ true) × (c ≡ true)
three true true c e = (refl, e)
three true false c e = never e
three false b c e = never e

three_back : (a b c : Bool) → a && b ≡ true → c ≡ true → a && (b && c) ≡ true
three_back true true c e f = f
three_back true false c e f = e
three_back false b c e f = e

-- ---- an image whose version is the program's is judged alike

module _ (p : Program) (image : List ℕ) (v : version_of image ≡ p.version (header_of image).board.rows) where
  heads-alike : all_below (head_keeps image (count_of image) (header_of image)) (count_of image) ≡ all_below (head_kept p image (count_of image) (header_of image)) (count_of image)
  unfolding head_keeps head_kept
  heads-alike =
      below-same (head_keeps image (count_of image) (header_of image)) (head_kept p image (count_of image) (header_of image)) (count_of image)
      (λ k h. ap (λ (n : ℕ). same_head (head_at image (k * block_size)) (head_for (count_of image) n (header_of image).next k)) v)

  contents-alike : contents_keep image (count_of image) (header_of image) ≡ contents_kept p image (count_of image) (header_of image)
  unfolding contents_keep contents_kept slots_keep slots_kept
  contents-alike = rw v

module _ (p : Program) (o : Former p) where
  -- as many rows as fit its blocks are no more than it had, and more do not fit them
  few-before : (rows count : ℕ) → blocks_for rows ≡ count → count ≤ most_blocks_of p → rows ≤ p.most
  unfolding blocks_for pages_for
  few-before rows count e h = omega (arith, o.whole)

  few-blocks : (rows count : ℕ) → blocks_for rows ≡ count → rows ≤ p.most → count ≤ most_blocks_of p
  unfolding blocks_for pages_for
  few-blocks rows count e h = omega (arith, o.whole)

  more-blocks : (rows count : ℕ) → blocks_for rows ≡ count → p.most < rows → most_blocks_of p < count
  unfolding blocks_for pages_for
  more-blocks rows count e h = omega (arith, o.whole)

  -- more blocks than it knew are 21, whatever is in them
  pub too_long : (image : List ℕ) → most_blocks_of p < count_of image → verdict_before p image ≡ Err BadLength
  unfolding verdict_before length_kept
  too_long image h = rw (lt-leb (count_of image) (most_blocks_of p) h, and-false (leb 1 (count_of image)), and-false (eqb (length image % block_size) 0))

  -- ---- 23 TO VERSION 3

  -- the head of its block 0 is none that it wrote
  first-differs : (image : List ℕ) → version_of image ≡ newest → (b : Bool) → head_kept p image (count_of image) (header_of image) 0 ≡ b
      → head_kept p image (count_of image) (header_of image) 0 ≡ false
  unfolding head_kept head_for version_of
  first-differs image v true e = absurd (o.other (header_of image).board.rows (sym (ap (λ (g : Head). g.version) (head-is _ _ e)) ∙ v))
  first-differs image v false e = e

  -- A READER OF BEFORE ANSWERS 23 TO VERSION 3, in an image that has no more blocks than it knew and whose checks are right
  pub answers-23 : (image : List ℕ) → length_kept p image ≡ true → checks_keep image (count_of image) ≡ true → version_of image ≡ newest → verdict_before p image ≡ Err BadHead
  unfolding verdict_before heads_kept length_kept
  answers-23 image l c v =
      let some : leb 1 (count_of image) ≡ true = both_left (leb 1 (count_of image)) _ (both_right (eqb (length image % block_size) 0) _ l) in
      let first : 0 < count_of image = leb-true 1 (count_of image) some in
      let none : all_below (head_kept p image (count_of image) (header_of image)) (count_of image) ≡ false
      = sym (below-stop (head_kept p image (count_of image) (header_of image)) 0 (count_of image) first (first-differs image v (head_kept p image (count_of image) (header_of image) 0) refl)) in
      rw (l, c, none, and-false (number_in_range (header_of image).next))

  -- ---- what it accepted

  -- test by test
  record KeptBefore (image : List ℕ) : Type 0 where
    blocks : eqb (length image % block_size) 0 && leb 1 (count_of image) ≡ true
    few_blocks : count_of image ≤ most_blocks_of p
    checks : checks_keep image (count_of image) ≡ true
    heads : heads_kept p image (count_of image) (header_of image) ≡ true
    contents : contents_kept p image (count_of image) (header_of image) ≡ true

  kept-before : (image : List ℕ) → verdict_before p image ≡ Ok (tt {0}) → KeptBefore image
  unfolding verdict_before length_kept
  kept-before image e =
      let a = accepted-if (length_kept p image) _ BadLength e in
      let b = accepted-if (checks_keep image (count_of image)) _ BadCheck a.1 in
      let c = accepted-if (heads_kept p image (count_of image) (header_of image)) _ BadHead b.1 in
      let d = accepted-if (contents_kept p image (count_of image) (header_of image)) (Ok (tt {0})) BadContents c.1 in
      let l = three (eqb (length image % block_size) 0) (leb 1 (count_of image)) (leb (count_of image) (most_blocks_of p)) a.0 in
      record { blocks = l.0; few_blocks = leb-true (count_of image) (most_blocks_of p) l.1; checks = b.0; heads = c.0; contents = d.0 }

  count-in : (image : List ℕ) → contents_kept p image (count_of image) (header_of image) ≡ true → blocks_for (header_of image).board.rows ≡ count_of image
  unfolding contents_kept slots_kept
  count-in image e = eqb-true _ _ (both_left _ _ (both_right (header_keeps (header_of image)) _ (both_right (facts_keep image) _ e)))

  module _ (image : List ℕ) (e : verdict_before p image ≡ Ok (tt {0})) where
    -- it has no more rows than the program knew
    pub rows_before : (header_of image).board.rows ≤ p.most
    rows_before = let k = kept-before image e in few-before (header_of image).board.rows (count_of image) (count-in image k.contents) k.few_blocks

    -- and the version that the program gave them
    version-before : version_of image ≡ p.version (header_of image).board.rows
    unfolding heads_kept head_kept head_for version_of
    version-before =
        let k = kept-before image e in
        let some : leb 1 (count_of image) ≡ true = both_right (eqb (length image % block_size) 0) _ k.blocks in
        let first : 0 < count_of image = leb-true 1 (count_of image) some in
        ap (λ (g : Head). g.version)
        (head-is _ _ (below_at (head_kept p image (count_of image) (header_of image)) (count_of image) 0 (both_right (number_in_range (header_of image).next) _ k.heads) first))

    not-newest : eqb (version_of image) newest ≡ false
    not-newest = ne_eqb (version_of image) newest (λ v. o.other (header_of image).board.rows (sym version-before ∙ v))

    fits-before : version_fits (version_of image) (header_of image).board.rows ≡ true
    unfolding version_fits
    fits-before = rw (not-newest, eq-eqb (version_of image) (old_version (header_of image).board.rows) (version-before ∙ o.same (header_of image).board.rows rows_before))

    -- WHAT WAS ACCEPTED IS ACCEPTED: by restoring, and by a move forward
    pub forward-takes : verdict_in Older image ≡ Ok (tt {0})
    unfolding verdict_in length_keeps heads_keep heads_kept
    forward-takes =
        let k = kept-before image e in
        let near : count_of image ≤ most_blocks = omega (arith, k.few_blocks, o.few, o.whole) in
        rw (
          three_back (eqb (length image % block_size) 0) (leb 1 (count_of image)) (leb (count_of image) most_blocks) k.blocks (le-leb (count_of image) most_blocks near),
          k.checks,
          both_left (number_in_range (header_of image).next) _ k.heads,
          fits-before,
          heads-alike p image version-before,
          both_right (number_in_range (header_of image).next) _ k.heads,
          not-newest,
          contents-alike p image version-before,
          k.contents,
        )

    pub accepted-before : verdict_of image ≡ Ok (tt {0})
    accepted-before = any-accepted Older image forward-takes

  -- AND A READER OF BEFORE ACCEPTS WHAT A MOVE FORWARD TAKES and has no more rows than it knew
  pub accepted-by-it : (image : List ℕ) → verdict_in Older image ≡ Ok (tt {0}) → (header_of image).board.rows ≤ p.most → verdict_before p image ≡ Ok (tt {0})
  unfolding verdict_before length_kept heads_kept heads_keep
  accepted-by-it image e r =
      let a = kept Older image e in
      let k = a.0 in
      let n = k.size.whole in
      let near : count_of image ≤ most_blocks_of p = few-blocks (header_of image).board.rows (count_of image) (count-is image k) r in
      let v : version_of image ≡ p.version (header_of image).board.rows
      = older-is (version_of image) (header_of image).board.rows (version-good image k) (older (version_of image) a.1) ∙ sym (o.same (header_of image).board.rows r) in
      rw (
        eq-eqb (length image % block_size) 0 (omega arith),
        le-leb 1 (count_of image) k.size.least,
        le-leb (count_of image) (most_blocks_of p) near,
        k.checks,
        both_left (number_in_range (header_of image).next) _ (both_left _ _ k.heads),
        ← heads-alike p image v,
        both_right (number_in_range (header_of image).next && version_fits (version_of image) (header_of image).board.rows) _ k.heads,
        ← contents-alike p image v,
        k.contents,
      )

  module _ (image : List ℕ) (e : verdict_of image ≡ Ok (tt {0})) where
    -- IT ANSWERS 21 TO WHATEVER HAS MORE ROWS
    pub refused-by-it : p.most < (header_of image).board.rows → verdict_before p image ≡ Err BadLength
    refused-by-it r = too_long image (more-blocks (header_of image).board.rows (count_of image) (count-is image (kept Any image e).0) r)

    -- AND 23 TO VERSION 3 with no more
    pub version-3-refused : version_of image ≡ newest → (header_of image).board.rows ≤ p.most → verdict_before p image ≡ Err BadHead
    unfolding length_kept
    version-3-refused v r =
        let k = (kept Any image e).0 in
        let n = k.size.whole in
        let near : count_of image ≤ most_blocks_of p = few-blocks (header_of image).board.rows (count_of image) (count-is image k) r in
        let l : eqb (length image % block_size) 0 && (leb 1 (count_of image) && leb (count_of image) (most_blocks_of p)) ≡ true
        = rw (eq-eqb (length image % block_size) 0 (omega arith), le-leb 1 (count_of image) k.size.least, le-leb (count_of image) (most_blocks_of p) near) in
        answers-23 image l k.checks v

    -- AND IT TAKES WHAT A MOVE BACK MAKES OF IT
    pub back-taken : version_of image ≡ newest → (header_of image).board.rows ≤ p.most → verdict_before p (moved_of Back image) ≡ Ok (tt {0})
    back-taken v r =
        let k = (kept Any image e).0 in
        accepted-by-it (moved_of Back image) (moved-accepted image k Back Older (old-welcome (header_of image).board.rows)) (rw (moved-header image k Back) r)

  -- ---- the same table and state

  wider : (n : ℕ) (xs : List ℕ) → n ≤ table_size_of p → xs ++ replicate (table_size - n) 0 ≡ widened p (xs ++ replicate (table_size_of p - n) 0)
  wider n xs h =
      let a : table_size_of p - n + (table_size - table_size_of p) ≡ table_size - n = omega (arith, o.few) in
      ap (λ (m : ℕ). xs ++ replicate m 0) (sym a) ∙ ap (λ (z : List ℕ). xs ++ z) (sym (replicate-append-replicate (table_size_of p - n) (table_size - table_size_of p) zero))
      ∙ sym (append_assoc xs (replicate (table_size_of p - n) 0) (replicate (table_size - table_size_of p) 0))

  -- the rows as they stood, in more memory
  pub rows-stood : (image : List ℕ) → verdict_before p image ≡ Ok (tt {0}) → rows_of image ≡ widened p (memory_before p image)
  unfolding rows_of memory_before
  rows-stood image e =
      wider ((count_of image - 1) * body_size) (pages image first_page block_size (count_of image - 1)) (omega (arith, (kept-before image e).few_blocks, o.whole))

  taken-if : (v : Result (Unit {0}) Refusal) (image old mem : List ℕ) (h : Header) → restored_by_before p v image old ≡ restoring (restored (Ok (tt {0})) h) mem
      → (v ≡ Ok (tt {0})) × (h ≡ header_of image) × (mem ≡ memory_before p image)
  unfolding restored_by_before
  taken-if (Ok u) image old mem h e = (refl, sym (ap (λ (w : Restoring). w.answer.header) e), sym (ap (λ (w : Restoring). w.memory) e))
  taken-if (Err r) image old mem h e =
      let y : Err r ≡ Ok (tt {0}) = ap (λ (w : Restoring). w.answer.verdict) e in let x : ◌≡◌ {A = ℕ} 0 1 = cc in absurd (omega arith)

  module _ (image old mem now : List ℕ) (h : Header) (e : restore_before p image old ≡ restoring (restored (Ok (tt {0})) h) mem) (lent : length now ≡ table_size) where
    was-taken : (verdict_before p image ≡ Ok (tt {0})) × (h ≡ header_of image) × (mem ≡ memory_before p image)
    unfolding restore_before
    was-taken =
        let t = taken-if (cond (is_table_of p old) (verdict_before p image) (Err Unfit)) image old mem h e in
        ((accepted-if (is_table_of p old) (verdict_before p image) Unfit t.0).1, t.1, t.2)

    -- WHAT WAS RESTORED IS RESTORED, to the same header and the same table, with the time of each seen side unknown
    pub restored-before : restore_of image now ≡ restoring (restored (Ok (tt {0})) h) (each_row forward_row h.board.rows (widened p mem))
    unfolding restore_of restored_by
    restored-before =
        let t = was-taken in
        rw (
          eq-eqb (length now) table_size lent,
          accepted-before image t.0,
          memory-old image (not-newest image t.0),
          rows-stood image t.0,
          t.1,
          t.2,
        )
        refl

    pub not-3 : eqb (version_of image) newest ≡ false
    not-3 = not-newest image was-taken.0

    -- AND SAVED AS ITS MOVE FORWARD
    pub saved-forward : (out : List ℕ) → length image ≤ length out
        → save_of h (each_row forward_row h.board.rows (widened p mem)) out ≡ saving (Ok (length image)) (overlay out 0 (moved_of Forward image))
    saved-forward out l = restored-forward image now out _ h not-3 restored-before l

    -- WHICH MOVED BACK IS THE IMAGE
    pub and-back : Bytes image → moved_of Back (moved_of Forward image) ≡ image
    and-back bytes = forward-then-back image bytes (forward-takes image was-taken.0)

  -- ---- what was made

  module _ (h : Header) (mem out now z : List ℕ) (n : ℕ) (ten : length h.session ≡ 10) (e : save_before p h mem out ≡ saving (Ok n) z) where
    abbrev rows : ℕ
    rows = h.board.rows

    record Made : Type 0 where
      sized : length mem ≡ table_size_of p
      few_rows : rows ≤ p.most
      range : number_in_range h.next ≡ true
      header : header_keeps h ≡ true
      keep : rows_keep (p.version rows) rows mem ≡ true
      room : size_for rows ≤ length out
      size : n ≡ size_for rows
      bytes : z ≡ overlay out 0 (image_before p h mem)

    made : Made
    unfolding save_before within_limits_of
    made =
        let a = whole-if (within_limits_of p h mem) _ Unfit out z n e in
        let b = whole-if (header_keeps h && rows_keep (p.version rows) rows mem) _ BadContents out z n a.1 in
        let c = whole-if (leb (size_for rows) (length out)) _ ShortOutput out z n b.1 in
        let g : Ok (size_for rows) ≡ Ok n = ap (λ (w : Saving). w.answer) c.1 in
        let w = both_right (is_table_of p mem) _ a.0 in
        record {
          sized = eqb-true (length mem) (table_size_of p) (both_left _ _ a.0);
          few_rows = leb-true rows p.most (both_left _ _ w);
          range = both_right (leb rows p.most) _ w;
          header = both_left (header_keeps h) _ b.0;
          keep = both_right (header_keeps h) _ b.0;
          room = leb-true (size_for rows) (length out) c.0;
          size = cc;
          bytes = sym (ap (λ (w : Saving). w.out) c.1);
        }

    wide : length (widened p mem) ≡ table_size
    wide =
        let more : length (replicate {A = ℕ} (table_size - table_size_of p) 0) ≡ table_size - table_size_of p = length-replicate {A = ℕ} (table_size - table_size_of p) 0 in
        length-append mem (replicate (table_size - table_size_of p) 0) ∙ omega (arith, made.sized, more, o.few)

    few-rows : rows ≤ most_rows
    few-rows = omega (arith, made.few_rows, o.few)

    version-is : p.version rows ≡ old_version rows
    version-is = o.same rows made.few_rows

    version_low : p.version rows < 256 ^ 2
    version_low = rw version-is (version_below Back rows)

    same_row : (j : ℕ) → j < rows → row j (widened p mem) ≡ row j mem
    unfolding row
    same_row j g = part-first mem _ (row_at j) row_size (omega (arith, made.sized, made.few_rows))

    keep-wide : rows_keep (p.version rows) rows (widened p mem) ≡ true
    keep-wide = rows-equal (p.version rows) rows (widened p mem) mem same_row ∙ made.keep

    fits-wide : within_limits h (widened p mem) ≡ true
    unfolding within_limits fits
    fits-wide = rw (eq-eqb (length (widened p mem)) table_size wide, le-leb rows most_rows few-rows) made.range

    header-fine : HeaderFits h
    header-fine = header-fits h (widened p mem) ten fits-wide made.header

    made-image : part z 0 n ≡ image_in (p.version rows) h (widened p mem)
    unfolding image_before size_for
    made-image =
        let l : length (image_in (p.version rows) h (widened p mem)) ≡ n = image-length (p.version rows) version_low h (widened p mem) header-fine wide few-rows ∙ sym made.size in
        rw (made.bytes, ← l) (part-overlay out 0 (image_in (p.version rows) h (widened p mem)) (omega (arith, made.room, made.size)))

    made-older : verdict_in Older (image_in (p.version rows) h (widened p mem)) ≡ Ok (tt {0})
    unfolding version_fits
    made-older =
        image-accepted (p.version rows) version_low h (widened p mem) header-fine wide few-rows made.range
        (rw (ne_eqb (p.version rows) newest (o.other rows), eq-eqb (p.version rows) (old_version rows) version-is)) made.header keep-wide Older
        (ap not (ne_eqb (p.version rows) newest (o.other rows)))

    -- WHAT WAS MADE IS TAKEN BY A MOVE FORWARD
    pub made-taken : verdict_in Older (part z 0 n) ≡ Ok (tt {0})
    made-taken = rw made-image made-older

    pub made-not-3 : eqb (version_of (part z 0 n)) newest ≡ false
    made-not-3 = ne_eqb (version_of (part z 0 n)) newest (older (version_of (part z 0 n)) (kept Older (part z 0 n) made-taken).1)

    -- AND RESTORED, to the same header and the same table, with the time of each seen side unknown
    pub made-before : length now ≡ table_size → restore_of (part z 0 n) now ≡ restoring (restored (Ok (tt {0})) h) (each_row forward_row rows (cleared rows (widened p mem)))
    unfolding restore_of restored_by
    made-before lent =
        let v = version-back (p.version rows) version_low h (widened p mem) header-fine wide few-rows in
        rw (
          made-image,
          eq-eqb (length now) table_size lent,
          any-accepted Older (image_in (p.version rows) h (widened p mem)) made-older,
          memory-old (image_in (p.version rows) h (widened p mem)) (ne_eqb _ newest (λ x. o.other rows (sym v ∙ x))),
          header-back (p.version rows) version_low h (widened p mem) header-fine wide few-rows,
          rows-of-back (p.version rows) version_low h (widened p mem) header-fine wide few-rows,
        )
        refl
