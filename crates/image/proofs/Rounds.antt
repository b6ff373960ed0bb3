-- THE ROUND TRIPS: what was saved is restored, and what was restored is saved as the same bytes; and a table that our own
-- calls made, with a known session, is saved.
-- Assumes nothing.
use mathlib.Core.Path.{◌≡◌, refl, sym, ap, ◌∙◌}
use mathlib.Core.Bool.{Bool, true, false, ◌&&◌, ◌||◌, cond}
use mathlib.Core.List.{List, ◌∷◌}
use Prim.Native.Nat.{ℕ, ◌*◌, ◌^◌, ◌≤◌, ◌<◌}
use native.Mathlib.Omega.{arith}
use lib.Dec.{eqb, leb, lit<}
use lib.ListN.{length}
use borrow.Author.Tests.{eq-eqb, le-leb, eqb-true, leb-true}
use Rattle.field.specs.Bytes.{part, overlay, Bytes}
use Rattle.field.specs.Limits.{number_in_range, highest_number}
use Rattle.field.specs.Text.{every}
use Rattle.field.proofs.Bools.{both_left, both_right}
use Rattle.field.proofs.Parts.{part-overlay}
use Rattle.message.specs.Letters.{listed, event_codes}
use Rattle.message.proofs.Typed.{listed_below}
use Rattle.block.specs.Block.{block_size}
use Rattle.row.specs.Rules.{newest}
use Rattle.table.specs.Memory.{most_rows, table_size, is_table, row_at}
use Rattle.table.specs.Board.{fits}
use Rattle.table.specs.Rules.{rows_keep, Sound, board_keeps}
use Rattle.image.specs.Shape.{blocks_for}
use Rattle.image.specs.Header.{within_limits, header_keeps, header_of}
use Rattle.image.specs.Save.{cleared, image_in, image_of, size_for, Saving, saving, unsaved, save_of}
use Rattle.image.specs.Restore.{version_of, verdict_of, rows_of, memory_of, Restoring, restored, restoring, restored_by, restore_of}
use Rattle.image.specs.declared.Header.{Header}
use Rattle.image.specs.declared.Refusal.{Refusal}
use Rattle.image.specs.declared.Refusal.TheVariants.{Unfit, BadContents, ShortOutput}
use Rattle.std.specs.Prelude.{Result, Ok, Err}
use Rattle.image.specs.Moves.{moved_of}
use Rattle.image.specs.declared.Wanted.TheVariants.{Any}
use Rattle.image.specs.declared.Way.TheVariants.{Forward}
use Rattle.image.proofs.Ways.{limits}
use Rattle.image.proofs.Zeros.{rest_part, cleared-own}
use Rattle.image.proofs.Back.{HeaderFits, image-length, header-back, version-back, memory-back, image-accepted}
use Rattle.image.proofs.Again.{kept, count-is, header-good, next-good, rows_few, image-again}
use Rattle.image.proofs.Renewed.{after-fits, memory-new, memory-old, memory-holds, memory-limits}

-- ---- what it means that a table was saved

pub whole-if : (b : Bool) (v : Saving) (r : Refusal) (o z : List ℕ) (n : ℕ) → cond b v (unsaved r o) ≡ saving (Ok n) z → (b ≡ true) × (v ≡ saving (Ok n) z)
whole-if true v r o z n e = (refl, e)
whole-if false v r o z n e =
    let y : Err r ≡ Ok n = ap (λ (w : Saving). w.answer) e in let x : ◌≡◌ {A = ℕ} 0 1 = cc in absurd (omega arith)

pub record Stored (h : Header) (mem out : List ℕ) (n : ℕ) (z : List ℕ) : Type 0 where
  pub within : within_limits h mem ≡ true
  pub header : header_keeps h ≡ true
  pub rows : rows_keep newest h.board.rows mem ≡ true
  pub room : size_for h.board.rows ≤ length out
  pub size : n ≡ size_for h.board.rows
  pub bytes : z ≡ overlay out 0 (image_of h mem)

pub stored : (h : Header) (mem out : List ℕ) (n : ℕ) (z : List ℕ) → save_of h mem out ≡ saving (Ok n) z → Stored h mem out n z
unfolding save_of
stored h mem out n z e =
    let a = whole-if (within_limits h mem) _ Unfit out z n e in
    let b = whole-if (header_keeps h && rows_keep newest h.board.rows mem) _ BadContents out z n a.1 in
    let c = whole-if (leb (size_for h.board.rows) (length out)) _ ShortOutput out z n b.1 in
    let g : Ok (size_for h.board.rows) ≡ Ok n = ap (λ (w : Saving). w.answer) c.1 in
    record {
      within = a.0;
      header = both_left (header_keeps h) _ b.0;
      rows = both_right (header_keeps h) _ b.0;
      room = leb-true (size_for h.board.rows) (length out) c.0;
      size = cc;
      bytes = sym (ap (λ (w : Saving). w.out) c.1);
    }

-- ---- the rules keep each number within its field

next-range : (h : Header) (mem : List ℕ) → within_limits h mem ≡ true → number_in_range h.next ≡ true
unfolding within_limits
next-range h mem e = both_right (fits h.board mem) _ e

below : (n : ℕ) → number_in_range n ≡ true → n < 256 ^ 8
below n e = let l = leb-true n highest_number (both_right (leb 1 n) (leb n highest_number) e) in omega arith

zero-or-below : (n : ℕ) → eqb n 0 || number_in_range n ≡ true → n < 256 ^ 8
zero-or-below n e = by (eqb n 0) refl e
  where
    by : (b : Bool) → eqb n 0 ≡ b → b || number_in_range n ≡ true → n < 256 ^ 8
    by true f g = omega (arith, eqb-true n 0 f)
    by false f g = below n g

pub header-fits : (h : Header) (mem : List ℕ) → length h.session ≡ 10 → within_limits h mem ≡ true → header_keeps h ≡ true → HeaderFits h
unfolding header_keeps board_keeps every
header-fits h mem s a b =
    let c = both_left (board_keeps h.board) _ b in
    record {
      session = s;
      event = listed_below (0 ∷ event_codes) h.board.event refl (both_left _ _ c);
      next = below h.next (next-range h mem a);
      live = zero-or-below h.board.live (both_right (listed (0 ∷ event_codes) h.board.event) _ c);
    }

module _ (h : Header) (mem out z : List ℕ) (n : ℕ) (ten : length h.session ≡ 10) (e : save_of h mem out ≡ saving (Ok n) z) where
  fine : HeaderFits h
  fine = let k = stored h mem out n z e in header-fits h mem ten k.within k.header

  -- what was written is the image
  saved-image : part z 0 n ≡ image_of h mem
  unfolding size_for
  saved-image =
      let k = stored h mem out n z e in
      let m = limits h mem k.within in
      let l : length (image_of h mem) ≡ n = image-length newest (lit< tt) h mem fine m.0 m.1 ∙ sym k.size in
      rw (k.bytes, ← l) (part-overlay out 0 (image_of h mem) (omega (arith, k.room, k.size)))

  -- SAVING WRITES VERSION 3
  pub saved-version : version_of (part z 0 n) ≡ newest
  saved-version =
      let m = limits h mem (stored h mem out n z e).within in
      ap version_of saved-image ∙ version-back newest (lit< tt) h mem fine m.0 m.1

  -- RESTORING WHAT WAS SAVED GIVES THE HEADER AND THE ROWS, with zeros past them
  pub saved-restored : (old : List ℕ) → length old ≡ table_size → restore_of (part z 0 n) old ≡ restoring (restored (Ok (tt {0})) h) (cleared h.board.rows mem)
  unfolding restore_of restored_by
  saved-restored old lo =
      let k = stored h mem out n z e in
      let m = limits h mem k.within in
      rw (
        saved-image,
        eq-eqb (length old) table_size lo,
        image-accepted newest (lit< tt) h mem fine m.0 m.1 (next-range h mem k.within) (after-fits Forward h.board.rows) k.header k.rows Any refl,
        header-back newest (lit< tt) h mem fine m.0 m.1,
        memory-back h mem fine m.0 m.1,
      )

-- ---- what it means that an image was restored

taken-if : (v : Result (Unit {0}) Refusal) (image old mem : List ℕ) (h : Header) → restored_by v image old ≡ restoring (restored (Ok (tt {0})) h) mem
    → (v ≡ Ok (tt {0})) × (h ≡ header_of image) × (mem ≡ memory_of image)
unfolding restored_by
taken-if (Ok u) image old mem h e = (refl, sym (ap (λ (w : Restoring). w.answer.header) e), sym (ap (λ (w : Restoring). w.memory) e))
taken-if (Err r) image old mem h e =
    let y : Err r ≡ Ok (tt {0}) = ap (λ (w : Restoring). w.answer.verdict) e in let x : ◌≡◌ {A = ℕ} 0 1 = cc in absurd (omega arith)

sized-if : (b : Bool) (v : Result (Unit {0}) Refusal) → cond b v (Err Unfit) ≡ Ok (tt {0}) → v ≡ Ok (tt {0})
sized-if true v e = e
sized-if false v e = let z : Err Unfit ≡ Ok (tt {0}) = e in cc

pub taken : (image old mem : List ℕ) (h : Header) → restore_of image old ≡ restoring (restored (Ok (tt {0})) h) mem
    → (verdict_of image ≡ Ok (tt {0})) × (h ≡ header_of image) × (mem ≡ memory_of image)
unfolding restore_of
taken image old mem h e =
    let t = taken-if (cond (is_table old) (verdict_of image) (Err Unfit)) image old mem h e in
    (sized-if (is_table old) (verdict_of image) t.0, t.1, t.2)

-- SAVING WHAT WAS RESTORED GIVES ITS IMAGE OF VERSION 3
pub restored-renewed : (image old out mem : List ℕ) (h : Header) → restore_of image old ≡ restoring (restored (Ok (tt {0})) h) mem → length image ≤ length out
    → save_of h mem out ≡ saving (Ok (length image)) (overlay out 0 (image_of (header_of image) (memory_of image)))
unfolding save_of size_for
restored-renewed image old out mem h e f =
    let g = taken image old mem h e in
    let k = (kept Any image g.0).0 in
    let c : blocks_for (header_of image).board.rows * block_size ≡ length image = ap (λ (x : ℕ). x * block_size) (count-is image k) ∙ k.size.whole in
    rw (
      g.1,
      g.2,
      memory-limits image k,
      header-good image k,
      (memory-holds image k).kept,
      c,
      le-leb (length image) (length out) f,
    )

-- THE SAME BYTES FOR AN IMAGE OF VERSION 3
pub restored-saved : (image old out mem : List ℕ) (h : Header) → Bytes image → version_of image ≡ newest → restore_of image old ≡ restoring (restored (Ok (tt {0})) h) mem
    → length image ≤ length out → save_of h mem out ≡ saving (Ok (length image)) (overlay out 0 image)
restored-saved image old out mem h by v e f =
    let k = (kept Any image (taken image old mem h e).0).0 in
    let i : image_of (header_of image) (memory_of image) ≡ image
    = ap (image_of (header_of image)) (memory-new image v) ∙ ap (λ (w : ℕ). image_in w (header_of image) (rows_of image)) (sym v) ∙ image-again image k by in
    restored-renewed image old out mem h e f ∙ ap (λ (x : List ℕ). saving (Ok (length image)) (overlay out 0 x)) i

-- AND FOR AN OLDER ONE THE BYTES OF ITS MOVE FORWARD
pub restored-forward : (image old out mem : List ℕ) (h : Header) → eqb (version_of image) newest ≡ false → restore_of image old ≡ restoring (restored (Ok (tt {0})) h) mem
    → length image ≤ length out → save_of h mem out ≡ saving (Ok (length image)) (overlay out 0 (moved_of Forward image))
unfolding moved_of
restored-forward image old out mem h v e f =
    restored-renewed image old out mem h e f
    ∙ ap (λ (x : List ℕ). saving (Ok (length image)) (overlay out 0 (image_of (header_of image) x))) (memory-old image v)

-- WHAT IS RESTORED KEEPS THE RULES: the table is as our own calls make it, and the header within its limits
pub record Good (h : Header) (mem : List ℕ) : Type 0 where
  pub sound : Sound h.board.rows mem
  pub next : number_in_range h.next ≡ true
  pub header : header_keeps h ≡ true

pub restored-good : (image old mem : List ℕ) (h : Header) → restore_of image old ≡ restoring (restored (Ok (tt {0})) h) mem → Good h mem
restored-good image old mem h e =
    let g = taken image old mem h e in
    let k = (kept Any image g.0).0 in
    let w = memory-holds image k in
    rw (g.1, g.2)
    (record {
      sound = record {
        sized = w.sized;
        few = rows_few image k;
        kept = w.kept;
        blank = rest_part (memory_of image) (row_at (header_of image).board.rows) ∙ rw w.sized w.blank;
      };
      next = next-good image k;
      header = header-good image k;
    })

-- ---- what our own calls make

module _ (h : Header) (mem : List ℕ) (sound : Sound h.board.rows mem) (next : number_in_range h.next ≡ true) (board : board_keeps h.board ≡ true) (known : h.known ≡ true) where
  -- A TABLE THAT OUR OWN CALLS MADE, WITH A KNOWN SESSION, IS SAVED in memory that is long enough
  pub sound-saved : (out : List ℕ) → size_for h.board.rows ≤ length out
      → save_of h mem out ≡ saving (Ok (size_for h.board.rows)) (overlay out 0 (image_of h mem))
  unfolding save_of within_limits fits header_keeps
  sound-saved out f =
      rw (
        eq-eqb (length mem) table_size sound.sized,
        le-leb h.board.rows most_rows sound.few,
        next,
        board,
        known,
        sound.kept,
        le-leb (size_for h.board.rows) (length out) f,
      )

  -- and its memory comes back whole
  pub sound-cleared : cleared h.board.rows mem ≡ mem
  sound-cleared = cleared-own h.board.rows mem (sym (rest_part mem (row_at h.board.rows)) ∙ sound.blank ∙ rw sound.sized)
