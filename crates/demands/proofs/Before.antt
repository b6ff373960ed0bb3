-- NO SAVED TABLE IS LOST (W-208, W-209): by the calls of a reader, what a program of before made or accepted is restored, to the same state and the same table
-- with the time of each seen side unknown, and saved as its move forward; and what a reader of before answers to what is saved now, and to its move back.
-- Assumes nothing.
use mathlib.Core.Path.{◌≡◌, subst}
use mathlib.Core.List.{List, []}
use Prim.Native.Nat.{ℕ, ◌≤◌, ◌<◌}
use lib.ListN.{length, replicate, length-replicate}
use Rattle.field.specs.Bytes.{part, overlay, Bytes}
use Rattle.packet.specs.Stream.{live}
use Rattle.row.specs.Rules.{newest}
use Rattle.row.specs.Moves.{forward_row}
use Rattle.table.specs.Memory.{table_size, Memories, each_row}
use Rattle.table.specs.Index.{index_size}
use Rattle.image.specs.Header as headers
use Rattle.image.specs.Save.{cleared, saving, size_for}
use Rattle.image.specs.Restore as images
use Rattle.image.specs.Restore.{version_of, restoring, verdict_of}
use Rattle.image.specs.Moves.{moved_of}
use Rattle.image.specs.Before.{Program, Former, widened, verdict_before, restore_before, save_before}
use Rattle.image.specs.declared.Header.{Header}
use Rattle.image.specs.declared.Refusal.TheVariants.{BadLength, BadHead}
use Rattle.image.specs.declared.Way.TheVariants.{Forward, Back}
use Rattle.image.proofs.Rounds.{taken, saved-restored, saved-version}
use Rattle.image.proofs.Before.{restored-before, made-before, made-not-3, not-3, version-3-refused, refused-by-it, back-taken}
use Rattle.reader.specs.View.{session_of, state_of}
use Rattle.reader.specs.Saving.{header_of, line_of, Saves, Restores}
use Rattle.reader.specs.declared.Reader.{Reader}
use Rattle.reader.specs.declared.Restored.{Restored}
use Rattle.demands.specs.Sound.{Ours}
use Rattle.demands.proofs.Saved.{indexed, gives, was-saved, goes-forward}
use Rattle.std.specs.Prelude.{Err}
use Rattle.std.specs.Prelude.{Ok}
use Rattle.std.specs.Prelude.{Result}
use Rattle.image.specs.declared.Refusal.{Refusal}

module _ (p : Program) (f : Former p) where
  -- ---- IMAGES OF BEFORE

  module _ (t : Memories) (q : Restored) (t₁ : Memories) (table : length t.table ≡ table_size) (index : length t.index ≡ index_size) where
    -- an image that the program of before restored, to a header and a table
    module _ (bytes old mem : List ℕ) (h : Header) (e : restore_before p bytes old ≡ restoring (images.restored (Ok (tt {0})) h) mem) (r : Restores bytes t q t₁) where
      -- THEOREM: IT IS RESTORED, to the same state and the same table, with the time of each seen side unknown
      pub reads_on : (q.verdict ≡ Ok (tt {0}))
          × (state_of q.reader t₁ ≡ live (session_of (line_of h) h.board (indexed h.board.rows (each_row forward_row h.board.rows (widened p mem)))) [])
      reads_on = gives bytes t q t₁ r index h _ (restored-before p f bytes old mem t.table h e table)

      -- THEOREM: AND SAVED AS ITS MOVE FORWARD, which moved back is the image (image `Moved.forward-then-back`)
      pub saves-on : Bytes bytes → (out : List ℕ) → length bytes ≤ length out → (a : Result ℕ Refusal) (z : List ℕ) → Saves q.reader t₁.table out a z
          → (a ≡ Ok (length bytes)) × (z ≡ overlay out 0 (moved_of Forward bytes))
      saves-on b out room a z s = goes-forward bytes t q t₁ r reads_on.0 b (not-3 p f bytes old mem t.table h e table) out room a z s

    -- an image that the program of before made, of a header and a table
    module _ (h : Header) (mem made image : List ℕ) (n : ℕ) (ten : length h.session ≡ 10) (e : save_before p h mem made ≡ saving (Ok n) image)
        (r : Restores (part image 0 n) t q t₁) where
      -- THEOREM: THE SAME OF IT
      pub made-on : (q.verdict ≡ Ok (tt {0}))
          × (state_of q.reader t₁ ≡ live (session_of (line_of h) h.board (indexed h.board.rows (each_row forward_row h.board.rows (cleared h.board.rows (widened p mem))))) [])
      made-on = gives (part image 0 n) t q t₁ r index h _ (made-before p f h mem made t.table image n ten e table)

      pub made-saves-on : Bytes (part image 0 n) → (out : List ℕ) → length (part image 0 n) ≤ length out → (a : Result ℕ Refusal) (z : List ℕ)
          → Saves q.reader t₁.table out a z → (a ≡ Ok (length (part image 0 n))) × (z ≡ overlay out 0 (moved_of Forward (part image 0 n)))
      made-saves-on b out room a z s =
          goes-forward (part image 0 n) t q t₁ r made-on.0 b (made-not-3 p f h mem made t.table image n ten e) out room a z s

  -- ---- READERS OF BEFORE

  module _ (r : Reader) (t : Memories) (o : Ours r t) (out : List ℕ) (room : size_for r.board.rows ≤ length out) (a : Result ℕ Refusal) (z : List ℕ) (h : Saves r t.table out a z) where
    abbrev image : List ℕ
    image = part z 0 (size_for r.board.rows)

    ours-taken : (verdict_of image ≡ Ok (tt {0})) × (header_of r ≡ headers.header_of image)
    ours-taken =
        let g = taken image (replicate table_size 0) (cleared r.board.rows t.table) (header_of r)
        (saved-restored (header_of r) t.table out z (size_for r.board.rows) o.sound.ten (was-saved r t o out room a z h) (replicate table_size 0) (length-replicate {A = ℕ} table_size 0)) in
        (g.0, g.1)

    ours-newest : version_of image ≡ newest
    ours-newest = saved-version (header_of r) t.table out z (size_for r.board.rows) o.sound.ten (was-saved r t o out room a z h)

    -- THEOREM: a reader of before answers 21 to what we save of more rows than it knew, and 23 to the rest
    pub old-21 : p.most < r.board.rows → verdict_before p image ≡ Err BadLength
    old-21 more = refused-by-it p f image ours-taken.0 (subst (λ (x : Header). p.most < x.board.rows) ours-taken.1 more)

    pub old-23 : r.board.rows ≤ p.most → verdict_before p image ≡ Err BadHead
    old-23 few = version-3-refused p f image ours-taken.0 ours-newest (subst (λ (x : Header). x.board.rows ≤ p.most) ours-taken.1 few)

    -- THEOREM: and it accepts that moved back
    pub old-takes-back : r.board.rows ≤ p.most → verdict_before p (moved_of Back image) ≡ Ok (tt {0})
    old-takes-back few = back-taken p f image ours-taken.0 ours-newest (subst (λ (x : Header). x.board.rows ≤ p.most) ours-taken.1 few)
