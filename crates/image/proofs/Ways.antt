-- The ways through saving and restoring.
-- Assumes nothing.
use mathlib.Core.Path.{◌≡◌, refl, sym, ap, ◌∙◌}
use mathlib.Core.Bool.{Bool, true, false, ◌&&◌, not, cond}
use mathlib.Core.List.{List, ◌++◌}
use Prim.Native.Nat.{ℕ, ◌+◌, ◌-◌, ◌*◌, ◌≤◌, ◌<◌}
use native.Mathlib.Nat.{zero-add}
use native.Mathlib.Omega.{arith}
use lib.ListN.{length, replicate}
use borrow.Author.Tests.{le-leb, lt-leb}
use Rattle.field.specs.Bytes.{part, overlay}
use Rattle.field.proofs.Bools.{both_left}
use Rattle.field.proofs.Parts.{part-part}
use Rattle.block.specs.Block.{block_size, body_size}
use Rattle.row.specs.Fields.{row_size}
use Rattle.table.specs.Memory.{table_size, is_table, rows_fit, Fitting, row, row_at}
use Rattle.table.specs.Board.{fits}
use Rattle.row.specs.Rules.{newest}
use Rattle.table.specs.Rules.{rows_keep}
use Rattle.table.proofs.Ways.{rows-fitting}
use Rattle.image.specs.Shape.{pages_for, blocks_for, pages, PagesIn, first_page}
use Rattle.image.specs.Header.{fresh_header, within_limits, header_keeps, header_of}
use Rattle.image.specs.Save.{image_of, size_for, saving, unsaved, save_of}
use Rattle.image.specs.Restore.{count_of, version_of, verdict_in, verdict_of, rows_of, renewed, memory_of, restored, restoring, restored_by, restore_of}
use Rattle.image.specs.declared.Header.{Header}
use Rattle.image.specs.declared.Refusal.{Refusal}
use Rattle.image.specs.declared.Refusal.TheVariants.{Unfit, BadLength, BadContents, ShortOutput}
use Rattle.std.specs.Prelude.{Result, Ok, Err}
use Rattle.image.specs.declared.Restored.{Restored}
use Rattle.image.specs.declared.Wanted.{Wanted}
use Rattle.image.proofs.Below.{was-no, was-yes}
use Rattle.image.proofs.Laid.{pages-touch}
use Rattle.image.proofs.Walk.{rows-equal}
use Rattle.image.proofs.Judged.{Long, long, rows-in-pages}

-- ---- the rows of table memory lie in pages that touch

pub row-start : (mem : List ℕ) (j n : ℕ) → row_at j + row_size ≤ n → row j (part mem 0 n) ≡ row j mem
unfolding row
row-start mem j n h = part-part mem 0 n (row_at j) row_size h ∙ rw zero-add

pub table-pages : (mem : List ℕ) (rows : ℕ) → Fitting rows mem → PagesIn mem 0 body_size (pages_for rows)
unfolding pages_for
table-pages mem rows f k h = omega (arith, f.0, f.1)

pub table-rows : (v : ℕ) (mem : List ℕ) (rows : ℕ) → rows_keep v rows (pages mem 0 body_size (pages_for rows)) ≡ rows_keep v rows mem
table-rows v mem rows =
    let p = rows-in-pages rows in
    rw (pages-touch mem (pages_for rows))
    (rows-equal v rows (part mem 0 (pages_for rows * body_size)) mem (λ j h. row-start mem j (pages_for rows * body_size) (omega arith)))

-- ---- saving

-- what the limits say
pub limits : (h : Header) (mem : List ℕ) → within_limits h mem ≡ true → Fitting h.board.rows mem
unfolding within_limits fits
limits h mem e = rows-fitting h.board.rows mem (both_left (rows_fit h.board.rows mem) _ e)

module _ (h : Header) (mem out : List ℕ) {r : Bool} (er : r ≡ within_limits h mem) where
  pub save-unfit : not r ≡ true → unsaved Unfit out ≡ save_of h mem out
  unfolding save_of
  save-unfit n = simp (was-no er n)

  module _ (yes-r : not r ≡ false) where
    pub save-limits : Fitting h.board.rows mem
    save-limits = limits h mem (was-yes er yes-r)

    module _ {q w : Bool} (eq : q ≡ header_keeps h) (ew : w ≡ rows_keep newest h.board.rows (pages mem 0 body_size (pages_for h.board.rows))) where
      kept : q && w ≡ header_keeps h && rows_keep newest h.board.rows mem
      kept = rw (eq, ew, table-rows newest mem h.board.rows)

      pub save-broken : not (q && w) ≡ true → unsaved BadContents out ≡ save_of h mem out
      unfolding save_of
      save-broken n = simp (was-yes er yes-r, was-no kept n)

      module _ (yes-kept : not (q && w) ≡ false) (n : ℕ) (en : n ≡ blocks_for h.board.rows) where
        pub save-short : length out < n * block_size → unsaved ShortOutput out ≡ save_of h mem out
        unfolding save_of size_for
        save-short e = simp (was-yes er yes-r, was-yes kept yes-kept, ← en, lt-leb (n * block_size) (length out) e)

        pub save-whole : n * block_size ≤ length out → {z : List ℕ} → z ≡ overlay out 0 (image_of h mem)
            → saving (Ok (n * block_size)) z ≡ save_of h mem out
        unfolding save_of size_for
        save-whole e ez = simp (was-yes er yes-r, was-yes kept yes-kept, ← en, le-leb (n * block_size) (length out) e, ← ez)

-- ---- restoring

-- what acceptance says of the length
accepted-if : (b : Bool) (v : Result (Unit {0}) Refusal) (r : Refusal) → cond b v (Err r) ≡ Ok (tt {0}) → b ≡ true
accepted-if true v r e = refl
accepted-if false v r e = let z : Err r ≡ Ok (tt {0}) = e in cc

pub accepted-long : (wanted : Wanted) (image : List ℕ) (v : Result (Unit {0}) Refusal) → v ≡ verdict_in wanted image → v ≡ Ok (tt {0}) → Long image
unfolding verdict_in
accepted-long wanted image v e f = long image (accepted-if _ _ BadLength (sym e ∙ f))

module _ (image mem : List ℕ) {w : Bool} (told : w ≡ is_table mem) where
  pub restore-unfit : {a : Restored} → a ≡ restored (Err Unfit) fresh_header → not w ≡ true → restoring a mem ≡ restore_of image mem
  unfolding restore_of restored_by
  restore-unfit e d = simp (was-no told d, e)

  module _ (l : not w ≡ false) {v : Result (Unit {0}) Refusal} (ev : v ≡ verdict_of image) where
    judged : restored_by v image mem ≡ restore_of image mem
    unfolding restore_of
    judged = simp (was-yes told l, ev)

    pub restore-refuses : (r : Refusal) {a : Restored} → v ≡ Err r → a ≡ restored (Err r) fresh_header → restoring a mem ≡ restore_of image mem
    unfolding restored_by
    restore-refuses r f e = simp (e) (sym (ap (λ (u : Result (Unit {0}) Refusal). restored_by u image mem) f) ∙ judged)

    pub restore-accepts : (h : Header) {n : ℕ} {y z : List ℕ} → v ≡ Ok (tt {0})
        → y ≡ pages image first_page block_size (count_of image - 1) ++ replicate (table_size - (count_of image - 1) * body_size) 0
        → h ≡ header_of image → n ≡ version_of image → z ≡ renewed n h.board.rows y
        → restoring (restored (Ok (tt {0})) h) z ≡ restore_of image mem
    unfolding restored_by memory_of rows_of
    restore-accepts h f ey e en ez = simp (e, ez, en, ey) (sym (ap (λ (u : Result (Unit {0}) Refusal). restored_by u image mem) f) ∙ judged)
