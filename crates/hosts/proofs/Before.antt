-- NO SAVED TABLE IS LOST, FOR A HOST IN C (W-208, W-209): what a program of before made or accepted is restored, and every byte that it leaves.
-- Assumes nothing.
use mathlib.Core.Path.{◌≡◌, ap, ◌∙◌}
use mathlib.Core.List.{List, []}
use Prim.Native.Nat.{ℕ}
use borrow.Author.Tests.{eq-eqb}
use lib.ListN.{length}
use Rattle.field.specs.Bytes.{part}
use Rattle.packet.specs.Stream.{live}
use Rattle.row.specs.Moves.{forward_row}
use Rattle.table.specs.Memory.{table_size, Memories, memories, each_row}
use Rattle.table.specs.Index.{index_size, built}
use Rattle.image.specs.Save.{cleared, saving}
use Rattle.image.specs.Restore as images
use Rattle.image.specs.Restore.{Restoring, restoring, restore_of}
use Rattle.image.specs.Before.{Program, Former, widened, restore_before, save_before}
use Rattle.image.specs.declared.Header.{Header}
use Rattle.image.proofs.Before.{restored-before, made-before}
use Rattle.handle.specs.Handle.{handle_size}
use Rattle.reader.specs.View.{session_of}
use Rattle.reader.specs.Saving.{line_of, restore_number, restored_session}
use Rattle.reader.specs.Handles.{Left, left}
use Rattle.nelqubat.specs.Host.{unheld, HostRestores}
use Rattle.demands.proofs.Saved.{indexed}
use Rattle.hosts.proofs.Resume.{restored-is}
use Rattle.std.specs.Prelude.{Ok}

-- the answer 0, a handle that waits for its login or is fresh, and table and index as an accepted image gives them
abbrev pub accepted : Header → List ℕ → Left
accepted h mem = unheld 0 (live (session_of (line_of h) h.board (indexed h.board.rows mem)) []) 0

module _ (hm : List ℕ) (tm : Memories) (handle-long : length hm ≡ handle_size) (table-long : length tm.table ≡ table_size) (index-long : length tm.index ≡ index_size)
    (a : ℕ) (handle : List ℕ) (memory : Memories) where
  gives : (image : List ℕ) (h : Header) (mem : List ℕ) → restore_of image tm.table ≡ restoring (images.restored (Ok (tt {0})) h) mem → HostRestores hm tm image a handle memory
      → left a handle memory ≡ accepted h mem
  gives image h mem e r =
      restored-is hm tm image a handle memory r (eq-eqb (length hm) handle_size handle-long) (eq-eqb (length tm.index) index_size index-long)
      ∙ ap (λ (o : Restoring). unheld (restore_number o.answer.verdict) (live (restored_session o tm.index) []) 0) e
      ∙ ap (λ (n : ℕ). unheld 0 (live (session_of (line_of h) h.board (memories mem (built h.board.rows n mem))) []) 0) index-long

  module _ (p : Program) (f : Former p) where
    -- THEOREM: an image that a program of before restored, to a header and a table, is restored to the same, with the time of each seen side unknown
    pub reads_on : (image old mem : List ℕ) (h : Header) → restore_before p image old ≡ restoring (images.restored (Ok (tt {0})) h) mem → HostRestores hm tm image a handle memory
        → left a handle memory ≡ accepted h (each_row forward_row h.board.rows (widened p mem))
    reads_on image old mem h e r = gives image h _ (restored-before p f image old mem tm.table h e table-long) r

    -- THEOREM: and so is one that it made, of a header and a table
    pub made-on : (h : Header) (mem made image : List ℕ) (n : ℕ) → length h.session ≡ 10 → save_before p h mem made ≡ saving (Ok n) image
        → HostRestores hm tm (part image 0 n) a handle memory
        → left a handle memory ≡ accepted h (each_row forward_row h.board.rows (cleared h.board.rows (widened p mem)))
    made-on h mem made image n ten e r = gives (part image 0 n) h _ (made-before p f h mem made tm.table image n ten e table-long) r
