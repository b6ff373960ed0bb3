-- The rows of an accepted image, moved: they keep the rules of the other version, and what follows them is zero.
-- Assumes nothing.
use mathlib.Core.Path.{◌≡◌, refl, sym, ap, ◌∙◌}
use mathlib.Core.Bool.{Bool, true, false, not, ◌||◌, cond}
use mathlib.Core.List.{List}
use Prim.Native.Nat.{ℕ, ◌-◌, ◌≤◌, ◌<◌}
use native.Mathlib.Omega.{arith}
use lib.Dec.{eqb, leb}
use lib.ListN.{length, drop, replicate}
use borrow.Author.Tests.{eq-eqb, le-leb, eqb-true}
use Rattle.field.specs.Bytes.{part}
use Rattle.row.specs.Fields.{row_size, id_of}
use Rattle.row.specs.Rules.{newest, row_keeps}
use Rattle.row.proofs.Moved.{forward-size, back-size, forward-id, back-id, forward-keeps, back-keeps}
use Rattle.table.specs.Memory.{most_rows, table_size, row_at, row, each_row}
use Rattle.table.specs.Board.{fits}
use Rattle.table.specs.Rules.{rows_keep}
use Rattle.table.proofs.Rows.{row-length, rows_same}
use Rattle.table.proofs.Each.{each-length, each-past, each_row_lem}
use Rattle.image.specs.Shape.{rows_of_version1, old_version, version_fits, welcome}
use Rattle.image.specs.Header.{within_limits, header_of}
use Rattle.image.specs.Restore.{version_of, rows_of, renewed, memory_of}
use Rattle.image.specs.Moves.{version_after, along}
use Rattle.image.specs.declared.Wanted.TheVariants.{Older}
use Rattle.image.specs.declared.Way.{Way}
use Rattle.image.specs.declared.Way.TheVariants.{Forward, Back}
use Rattle.image.proofs.Zeros.{rest_part}
use Rattle.image.proofs.Again.{Kept, next-good, rows_few, rows-length, rows-blank, rows-again}

-- ---- the versions

-- the version that the rows had before is not version 3
pub old-other : (rows : ℕ) → old_version rows ≡ newest → ⊥
unfolding old_version
old-other rows e = by (leb rows rows_of_version1) e
  where
    by : (b : Bool) → ◌≡◌ {A = ℕ} (cond b 1 2) 3 → ⊥
    by true f = omega arith
    by false f = omega arith

pub older : (v : ℕ) → welcome Older v ≡ true → v ≡ newest → ⊥
older v w e = by (eqb v newest) (eq-eqb v newest e) w
  where
    by : (b : Bool) → b ≡ true → not b ≡ true → ⊥
    by true f g = let z : false ≡ true = g in let x : ◌≡◌ {A = ℕ} 0 1 = cc in omega arith
    by false f g = let x : ◌≡◌ {A = ℕ} 0 1 = cc in omega arith

-- a version that fits the rows and is not version 3 is the one that they had before
pub older-is : (v rows : ℕ) → version_fits v rows ≡ true → (v ≡ newest → ⊥) → v ≡ old_version rows
unfolding version_fits
older-is v rows f n = by (eqb v newest) refl f
  where
    by : (b : Bool) → eqb v newest ≡ b → b || eqb v (old_version rows) ≡ true → v ≡ old_version rows
    by true e g = absurd (n (eqb-true v newest e))
    by false e g = eqb-true v (old_version rows) g

pub after-fits : (way : Way) (rows : ℕ) → version_fits (version_after way rows) rows ≡ true
unfolding version_fits
after-fits Forward rows = refl
after-fits Back rows = rw (eq-eqb (old_version rows) (old_version rows) refl) (or-true (eqb (old_version rows) newest))
  where
    or-true : (b : Bool) → b || true ≡ true
    or-true true = refl
    or-true false = refl

-- ---- one row

pub along-size : (way : Way) (r : List ℕ) → length r ≡ row_size → length (along way r) ≡ row_size
along-size Forward r e = forward-size r (omega arith) ∙ e
along-size Back r e = back-size r (omega arith) ∙ e

along-id : (way : Way) (r : List ℕ) → length r ≡ row_size → id_of (along way r) ≡ id_of r
along-id Forward r e = forward-id r (omega arith)
along-id Back r e = back-id r (omega arith)

along-keeps : (way : Way) (v rows : ℕ) (r : List ℕ) → length r ≡ row_size → row_keeps v r ≡ true → row_keeps (version_after way rows) (along way r) ≡ true
along-keeps Forward v rows r e k = forward-keeps r (omega arith) v k
along-keeps Back v rows r e k = back-keeps r (omega arith) v (old_version rows) (old-other rows) k

-- ---- the rows of an image

module _ (image : List ℕ) (k : Kept image) (way : Way) where
  abbrev count : ℕ
  count = (header_of image).board.rows

  inside : row_at count ≤ length (rows_of image)
  inside = omega (arith, rows_few image k, rows-length image k)

  pub own-length : (j : ℕ) → j < count → length (row j (rows_of image)) ≡ row_size
  own-length j h = row-length j (rows_of image) (omega (arith, inside))

  pub moved_row : (j : ℕ) → j < count → row j (each_row (along way) count (rows_of image)) ≡ along way (row j (rows_of image))
  moved_row j h = each_row_lem (along way) (along-size way) (rows_of image) count j inside h

  pub moved_length : length (each_row (along way) count (rows_of image)) ≡ table_size
  moved_length = each-length (along way) (along-size way) (rows_of image) count inside ∙ rows-length image k

  pub moved-past : part (each_row (along way) count (rows_of image)) (row_at count) (table_size - row_at count) ≡ part (rows_of image) (row_at count) (table_size - row_at count)
  moved-past = each-past (along way) (along-size way) (rows_of image) count (row_at count) (table_size - row_at count) inside (omega arith)

  pub moved-blank : drop (row_at count) (each_row (along way) count (rows_of image)) ≡ replicate (table_size - row_at count) 0
  moved-blank =
      sym (rw moved_length at (rest_part (each_row (along way) count (rows_of image)) (row_at count))) ∙ moved-past
      ∙ rw (rows-length image k) at (rest_part (rows_of image) (row_at count)) ∙ rows-blank image k

  -- THE MOVED ROWS KEEP THE RULES OF THE OTHER VERSION
  pub moved-keep : rows_keep (version_after way count) count (each_row (along way) count (rows_of image)) ≡ true
  moved-keep =
      rows_same (version_of image) (version_after way count) count (rows_of image) (each_row (along way) count (rows_of image))
      (λ j h q. ap (row_keeps (version_after way count)) (moved_row j h) ∙ along-keeps way (version_of image) count (row j (rows_of image)) (own-length j h) q)
      (λ j h. ap id_of (moved_row j h) ∙ along-id way (row j (rows_of image)) (own-length j h))
      (rows-again image k)

-- ---- what is restored

pub record Holds (rows : ℕ) (mem : List ℕ) : Type 0 where
  pub sized : length mem ≡ table_size
  pub kept : rows_keep newest rows mem ≡ true
  pub blank : drop (row_at rows) mem ≡ replicate (table_size - row_at rows) 0

pub memory-new : (image : List ℕ) → version_of image ≡ newest → memory_of image ≡ rows_of image
unfolding memory_of renewed
memory-new image e = rw (eq-eqb (version_of image) newest e)

pub memory-old : (image : List ℕ) → eqb (version_of image) newest ≡ false → memory_of image ≡ each_row (along Forward) (header_of image).board.rows (rows_of image)
unfolding memory_of renewed
memory-old image e = rw e

pub memory-holds : (image : List ℕ) → Kept image → Holds (header_of image).board.rows (memory_of image)
memory-holds image k = by (eqb (version_of image) newest) refl
  where
    by : (b : Bool) → eqb (version_of image) newest ≡ b → Holds (header_of image).board.rows (memory_of image)
    by true e =
        let v : version_of image ≡ newest = eqb-true (version_of image) newest e in
        rw (memory-new image v)
        (record { sized = rows-length image k; kept = rw v at (rows-again image k); blank = rows-blank image k })
    by false e =
        rw (memory-old image e)
        (record { sized = moved_length image k Forward; kept = moved-keep image k Forward; blank = moved-blank image k Forward })

pub memory-limits : (image : List ℕ) → Kept image → within_limits (header_of image) (memory_of image) ≡ true
unfolding within_limits fits
memory-limits image k =
    rw (eq-eqb (length (memory_of image)) table_size (memory-holds image k).sized, le-leb (header_of image).board.rows most_rows (rows_few image k)) (next-good image k)
