-- W-207. ON AN INDEX THAT IS TRUE OF THE TABLE the row for an id is the one that the walk finds.
-- Assumes nothing.
use mathlib.Core.Path.{◌≡◌, refl, sym, ap, ◌∙◌}
use mathlib.Core.Bool.{Bool, true, false, cond}
use mathlib.Core.List.{List}
use Prim.Native.Nat.{ℕ}
use native.Mathlib.Omega.{arith}
use borrow.Author.Tests.{eq-eqb}
use lib.ListN.{length}
use Rattle.table.specs.Memory.{Memories, Found, At, Nothing, row_for}
use Rattle.table.specs.Index.{index_size, sought, found_of}
use Rattle.table.specs.Sorted.{Sorted}
use Rattle.table.specs.declared.index.Sought.{Sought}
use Rattle.table.specs.declared.index.Sought.TheVariants.{Here, Absent, Astray}
use Rattle.table.proofs.IndexTruth.{same-as-walk, sought-never-astray}
use Rattle.handle.specs.Handle.{head_of}
use Rattle.reader.specs.Handles.{host_within, host_may_step}
use Rattle.reader.proofs.Kept.{may-unless-limits, may-by}
use Rattle.nelqubat.specs.Host.{found_number, find_host, walked_number, walked_find}

-- the number of a row, or of none, is not 20
walked-apart : (w : Found) → walked_number w ≡ 20 → ⊥
walked-apart (At k) e = omega arith
walked-apart Nothing e = omega arith

module _ (handle : List ℕ) (memory : Memories) (s : Sorted (head_of handle).board.rows memory.index memory.table) where
  -- the index has its length, so that only the limits are asked
  may-as-within : (y : Bool) → host_within handle memory.table ≡ y → host_may_step handle memory ≡ y
  may-as-within true e = may-by handle memory (sym e) refl (sym (eq-eqb (length memory.index) index_size s.sized)) refl
  may-as-within false e = may-unless-limits handle memory (sym e) refl

  module _ (id : ℕ) where
    number-walks : (a : Sought) → sought memory.index memory.table (head_of handle).board.rows id ≡ a → found_number a ≡ walked_number (found_of a)
    number-walks (Here k) e = refl
    number-walks (Absent place) e = refl
    number-walks Astray e = absurd (sought-never-astray (head_of handle).board.rows memory.index memory.table s id e)

    sought-number : found_number (sought memory.index memory.table (head_of handle).board.rows id) ≡ walked_number (row_for (head_of handle).board.rows memory.table id)
    sought-number =
        number-walks (sought memory.index memory.table (head_of handle).board.rows id) refl
        ∙ ap walked_number (sym (same-as-walk (head_of handle).board.rows memory.index memory.table s id))

    -- THE ANSWER EQUALS THE OLD WALK'S
    pub find-walks : find_host handle memory id ≡ walked_find handle memory.table id
    unfolding find_host walked_find
    find-walks =
        rw (may-as-within (host_within handle memory.table) refl)
        (ap (λ (n : ℕ). cond (host_within handle memory.table) n 20) sought-number)

    module _ (e : host_may_step handle memory ≡ true) where
      -- for a handle that may step, it is the row that the walk finds
      pub find-row : find_host handle memory id ≡ walked_number (row_for (head_of handle).board.rows memory.table id)
      unfolding find_host
      find-row = rw e sought-number

      -- and never 20
      pub find-fits : find_host handle memory id ≡ 20 → ⊥
      find-fits f = walked-apart (row_for (head_of handle).board.rows memory.table id) (sym find-row ∙ f)
