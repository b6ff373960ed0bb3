-- The ways through the code: what it finds and writes is what the definitions say.
-- Assumes nothing.
use mathlib.Core.Path.{◌≡◌, sym, ap, ◌∙◌}
use mathlib.Core.Bool.{Bool, true, false, not}
use mathlib.Core.List.{List}
use Prim.Native.Nat.{ℕ, ◌+◌, ◌-◌, ◌*◌, ◌≤◌}
use native.Mathlib.Omega.{arith}
use borrow.Author.Tests.{eq-eqb, eqb-true, leb-true, le-leb, not-true, not-false}
use borrow.Rule.Slice.PartMut.{put_mid}
use lib.Dec.{leb}
use lib.ListN.{length, replicate, length-replicate}
use Rattle.field.specs.Bytes.{part, overlay}
use Rattle.field.proofs.Bools.{both_left, both_right}
use Rattle.field.proofs.Parts.{part-back, overlay-whole}
use Rattle.row.specs.Fields.{row_size}
use Rattle.table.specs.Memory.{most_rows, table_size, is_table, rows_fit, Fitting, Memories, memories, row, with_row}
use Rattle.table.specs.Index.{index_size, is_index, is_lent, lent_fit, LentFitting, sought}
use Rattle.table.specs.Board.{outcome, taken, denied, fresh_board, beside, start_of}
use Rattle.table.specs.declared.index.Sought.{Sought}
use Rattle.table.specs.declared.index.Sought.TheVariants.{Here}
use Rattle.table.specs.declared.Board.{Board}
use Rattle.table.specs.declared.Refusal.TheVariants.{Unfit}
use Rattle.table.specs.declared.Applied.{Applied}
use Rattle.table.proofs.IndexPlaces.{here-has}

-- ---- a row that is lent

-- the bytes of row k, as they are lent
abbrev pub lent_row : ℕ → List ℕ → List ℕ
lent_row k mem = part mem (k * row_size) (k * row_size + row_size - k * row_size)

abbrev pub back : ℕ → List ℕ → List ℕ → List ℕ
back k mem r = put_mid (k * row_size) (k * row_size + row_size - k * row_size) mem r

pub row-lent : (k : ℕ) (mem : List ℕ) → lent_row k mem ≡ row k mem
unfolding row
row-lent k mem = ap (part mem (k * row_size)) {x = k * row_size + row_size - k * row_size} {y = row_size} (omega arith)

pub row_back : (k : ℕ) (mem r : List ℕ) → k * row_size + row_size ≤ length mem → length r ≡ k * row_size + row_size - k * row_size → back k mem r ≡ with_row k r mem
unfolding with_row
row_back k mem r h e = part-back (k * row_size) (k * row_size + row_size) mem r (omega arith) h e

-- a row that is found lies in the memory
pub found-fits : (ix mem : List ℕ) (rows id k : ℕ) {w : Sought} → Fitting rows mem → w ≡ sought ix mem rows id → w ≡ Here k
    → k * row_size + row_size ≤ length mem
found-fits ix mem rows id k s p e = let h = here-has ix mem rows id k (sym p ∙ e) in omega (arith, h.below, s.0, s.1)

-- ---- memory and rows that have passed the test

module _ (mem : List ℕ) {w : Bool} (told : w ≡ is_table mem) (y : not w ≡ false) where
  pub told-long : length mem ≡ table_size
  told-long = eqb-true (length mem) table_size (sym told ∙ not-false w y)

pub rows-fitting : (rows : ℕ) (mem : List ℕ) → rows_fit rows mem ≡ true → Fitting rows mem
rows-fitting rows mem e =
    (eqb-true (length mem) table_size (both_left (is_table mem) (leb rows most_rows) e), leb-true rows most_rows (both_right (is_table mem) (leb rows most_rows) e))

pub fitting-rows : (rows : ℕ) (mem : List ℕ) → Fitting rows mem → rows_fit rows mem ≡ true
fitting-rows rows mem f = rw (eq-eqb (length mem) table_size f.0, le-leb rows most_rows f.1)

-- the same of a call that tests them
pub told-fitting : (rows : ℕ) (mem : List ℕ) {w : Bool} → w ≡ rows_fit rows mem → not w ≡ false → Fitting rows mem
told-fitting rows mem {w} e y = rows-fitting rows mem (sym e ∙ not-false w y)

-- ---- and with the index

pub lent-fitting : (rows : ℕ) (l : Memories) → lent_fit rows l ≡ true → LentFitting rows l
lent-fitting rows l e =
    let fit = rows_fit rows l.table in
    let long = is_index l.index in
    (rows-fitting rows l.table (both_left fit long e), eqb-true (length l.index) index_size (both_right fit long e))

pub fitting-lent : (rows : ℕ) (l : Memories) → LentFitting rows l → lent_fit rows l ≡ true
fitting-lent rows l f = rw (fitting-rows rows l.table f.0, eq-eqb (length l.index) index_size f.1)

-- ---- starting

module _ (mem ix : List ℕ) {w : Bool} (told : w ≡ is_lent (memories mem ix)) where
  start-long : not w ≡ false → length mem ≡ table_size
  start-long y = eqb-true (length mem) table_size (both_left (is_table mem) (is_index ix) (sym told ∙ not-false w y))

  module _ {f : Board} {a : Applied} (fresh : f ≡ fresh_board) where
    pub start-unfit : not w ≡ true → a ≡ denied Unfit f → beside ix (outcome a mem) ≡ start_of (memories mem ix)
    unfolding start_of
    start-unfit n e = rw (← told, not-true w n, e, fresh)

    pub start-clear : {zs jx : List ℕ} → not w ≡ false → zs ≡ overlay mem 0 (replicate table_size 0) → jx ≡ replicate (length ix) 0 → a ≡ taken f
        → beside jx (outcome a zs) ≡ start_of (memories mem ix)
    unfolding start_of
    start-clear {zs} y g i e =
        let n : length mem ≡ table_size = start-long y in
        let z : zs ≡ replicate (length mem) 0
        = g ∙ ap (λ (n : ℕ). overlay mem 0 (replicate n 0)) (sym n) ∙ overlay-whole mem (replicate (length mem) 0) (length-replicate {A = ℕ} (length mem) 0) in
        rw (← told, not-false w y, e, fresh, z, i)
