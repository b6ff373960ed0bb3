-- Bytes that are all zero, and what follows the rows in use.
-- Assumes nothing.
use mathlib.Core.Path.{◌≡◌, refl, ◌∙◌}
use mathlib.Core.Bool.{true}
use mathlib.Core.List.{List, ◌++◌, append_assoc}
use Prim.Native.Nat.{ℕ, zero, ◌+◌, ◌-◌, ◌≤◌}
use native.Mathlib.Nat.{zero-add}
use native.Mathlib.Omega.{arith}
use lib.ListN.{length, drop, replicate, length-drop, replicate-append-replicate, take-append-drop}
use lib.Seq.{take-length}
use Rattle.field.specs.Bytes.{part}
use Rattle.field.specs.Text.{every, is_zero}
use Rattle.field.proofs.Parts.{part-part, part-whole, part-replicate}
use Rattle.field.proofs.Runs.{every-replicate}
use Rattle.block.proofs.Joins.{part-first, part-second, part-both}
use Rattle.table.specs.Memory.{table_size, row_at, most_rows}
use Rattle.image.specs.Save.{cleared}
use Rattle.image.proofs.Puts.{used-length}

pub zeros-pass : (n : ℕ) → every is_zero (replicate n 0) ≡ true
zeros-pass n = every-replicate is_zero n 0 refl

-- all from a place on
pub rest_part : (xs : List ℕ) (at : ℕ) → part xs at (length xs - at) ≡ drop at xs
unfolding part
rest_part xs at = rw (← length-drop at xs) (take-length (drop at xs))

-- ---- memory cleared past the rows

module _ (rows : ℕ) (mem : List ℕ) (l : length mem ≡ table_size) (r : rows ≤ most_rows) where
  -- in the rows it is the memory
  pub cleared-start : (at n : ℕ) → at + n ≤ row_at rows → part (cleared rows mem) at n ≡ part mem at n
  unfolding cleared
  cleared-start at n e =
      part-first (part mem 0 (row_at rows)) _ at n (omega (arith, used-length rows mem l r))
      ∙ part-part mem 0 (row_at rows) at n e ∙ rw zero-add

  -- past them it is zero
  pub cleared-past : (n : ℕ) → row_at rows + n ≤ table_size → part (cleared rows mem) (row_at rows) n ≡ replicate n 0
  unfolding cleared
  cleared-past n e =
      part-second (part mem 0 (row_at rows)) _ (row_at rows) n (used-length rows mem l r)
      ∙ part-replicate (table_size - row_at rows) 0 n 0 (omega arith)

  -- what reaches past the rows is all of it, but for zeros
  pub cleared-whole : (n : ℕ) → row_at rows ≤ n → n ≤ table_size → part (cleared rows mem) 0 n ++ replicate (table_size - n) 0 ≡ cleared rows mem
  unfolding cleared
  cleared-whole n e f =
      let a : row_at rows + (n - row_at rows) ≡ n = omega arith in
      let b : n - row_at rows + (table_size - n) ≡ table_size - row_at rows = omega arith in
      let u = used-length rows mem l r in
      rw (
        rw a at (part-both (part mem 0 (row_at rows)) (replicate (table_size - row_at rows) 0) 0 (row_at rows) (n - row_at rows) (omega arith)),
        part-whole (part mem 0 (row_at rows)) (row_at rows) u,
        part-replicate (table_size - row_at rows) 0 (n - row_at rows) 0 (omega arith),
        append_assoc,
        replicate-append-replicate (n - row_at rows) (table_size - n) zero,
        b,
      )

-- memory that is zero past the rows is as it is when cleared
pub cleared-own : (rows : ℕ) (mem : List ℕ) → drop (row_at rows) mem ≡ replicate (table_size - row_at rows) 0 → cleared rows mem ≡ mem
unfolding cleared part
cleared-own rows mem e = rw (← e) (take-append-drop (row_at rows) mem)
