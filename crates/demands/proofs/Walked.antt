-- W-207: FOR EVERY TABLE THAT OUR OWN CALLS MADE THE ANSWER EQUALS THE OLD WALK'S, found or not.
-- Assumes nothing.
use mathlib.Core.Path.{◌≡◌, sym}
use Prim.Native.Nat.{ℕ}
use Rattle.message.specs.declared.Message.{Message}
use Rattle.message.specs.declared.Texts.{Texts}
use Rattle.table.specs.Memory.{Memories, row_for}
use Rattle.table.specs.Index.{sought, found_of}
use Rattle.table.specs.Board.{apply_of, walked_effect}
use Rattle.table.specs.declared.index.Sought.TheVariants.{Astray}
use Rattle.table.proofs.IndexTruth.{same-as-walk, sought-never-astray}
use Rattle.table.proofs.Truth.{apply-walks}
use Rattle.reader.specs.declared.Reader.{Reader}
use Rattle.demands.specs.Sound.{Ours}

module _ (r : Reader) (t : Memories) (o : Ours r t) where
  -- THEOREM: the row for an id is the first among those in use that has it, or there is none
  pub ours-found : (id : ℕ) → found_of (sought t.index t.table r.board.rows id) ≡ row_for r.board.rows t.table id
  ours-found id = sym (same-as-walk r.board.rows t.index t.table o.sound.about.index id)

  -- THEOREM: no place that a search visits names a row that is not in use
  pub ours-never-astray : (id : ℕ) → sought t.index t.table r.board.rows id ≡ Astray → ⊥
  ours-never-astray = sought-never-astray r.board.rows t.index t.table o.sound.about.index

  -- THEOREM: a message is accepted or refused as it was by the walk, and leaves the same board and the same rows
  pub ours-applied : (m : Message) (texts : Texts) → (apply_of r.board m texts t).outcome ≡ walked_effect r.board m texts t.table
  ours-applied m texts = apply-walks r.board m texts t o.sound.about.index o.sound.about.rows.sized
