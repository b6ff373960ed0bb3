-- W-207 FOR A HOST IN C: of what our own calls made, the row for an id is the one that the old walk finds, and it is never 20.
-- Assumes nothing.
use mathlib.Core.Path.{◌≡◌}
use mathlib.Core.Bool.{true}
use mathlib.Core.List.{List}
use Prim.Native.Nat.{ℕ}
use Rattle.table.specs.Memory.{Memories, row_for}
use Rattle.handle.specs.Handle.{head_of}
use Rattle.reader.specs.Handles.{reader_in, host_may_step}
use Rattle.nelqubat.specs.Host.{walked_number, find_host}
use Rattle.nelqubat.proofs.Finds.{find-row, find-fits}
use Rattle.demands.proofs.Kept.{ours-may}
use Rattle.hosts.proofs.Laid.{HostOurs}

module _ (handle : List ℕ) (memory : Memories) (o : HostOurs handle memory) where
  may : host_may_step handle memory ≡ true
  unfolding host_may_step
  may = rw (o.handle-is, ours-may (reader_in handle) memory o.ours)

  -- THEOREM: the row found is the one that the walk finds, and there is none where the walk finds none
  pub ours-found : (id : ℕ) → find_host handle memory id ≡ walked_number (row_for (head_of handle).board.rows memory.table id)
  ours-found id = find-row handle memory o.ours.sound.about.index id may

  -- THEOREM: the answer is never 20
  pub ours-never-20 : (id : ℕ) → find_host handle memory id ≡ 20 → ⊥
  ours-never-20 id = find-fits handle memory o.ours.sound.about.index id may
