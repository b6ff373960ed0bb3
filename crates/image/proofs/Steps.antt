-- The ways through the moves of rows.
-- Assumes nothing.
use mathlib.Core.Path.{◌≡◌, ap, ◌∙◌}
use mathlib.Core.List.{List}
use Prim.Native.Nat.{ℕ, ◌+◌, ◌-◌, ◌*◌, ◌≤◌}
use native.Mathlib.Omega.{arith}
use lib.ListN.{length}
use borrow.Author.Tests.{eq-eqb, ne_eqb}
use borrow.Rule.Slice.PartMut.{put_mid}
use Rattle.field.specs.Bytes.{part, overlay}
use Rattle.field.proofs.Parts.{part-back}
use Rattle.row.specs.Fields.{row_size}
use Rattle.row.specs.Rules.{newest}
use Rattle.table.specs.Memory.{row, with_row, each_row}
use Rattle.image.specs.Restore.{renewed}
use Rattle.image.specs.Moves.{along}
use Rattle.image.specs.declared.Way.{Way}
use Rattle.image.specs.declared.Way.TheVariants.{Forward}

-- row k, lent and given back
pub gone : (k : ℕ) (mem : List ℕ) (way : Way) {r : List ℕ} → k * row_size + row_size ≤ length mem → r ≡ along way (part mem (k * row_size) (k * row_size + row_size - k * row_size))
    → length r ≡ k * row_size + row_size - k * row_size → put_mid (k * row_size) (k * row_size + row_size - k * row_size) mem r ≡ with_row k (along way (row k mem)) mem
unfolding row with_row
gone k mem way {r} h p l =
    let d : k * row_size + row_size - k * row_size ≡ row_size = omega arith in
    part-back (k * row_size) (k * row_size + row_size) mem r (omega arith) h l ∙ ap (overlay mem (k * row_size)) (p ∙ rw d)

pub renew-older : (xs : List ℕ) (version rows : ℕ) {zs : List ℕ} → (version ≡ newest → ⊥) → zs ≡ each_row (along Forward) rows xs → zs ≡ renewed version rows xs
unfolding renewed
renew-older xs version rows n e = rw (ne_eqb version newest n) e

pub renew-newest : (xs : List ℕ) (version rows : ℕ) → version ≡ newest → xs ≡ renewed version rows xs
unfolding renewed
renew-newest xs version rows e = rw (eq-eqb version newest e)
