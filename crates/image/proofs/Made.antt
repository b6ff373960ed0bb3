-- A table made by a start and accepted messages, with a known session, is saved and comes back.
-- Assumes nothing.
use mathlib.Core.Path.{◌≡◌, sym, ap, ◌∙◌, subst}
use mathlib.Core.Bool.{Bool, true, false, cond}
use mathlib.Core.List.{List}
use Prim.Native.Nat.{ℕ, ◌≤◌}
use lib.ListN.{length, replicate}
use Rattle.field.specs.Bytes.{part, overlay}
use Rattle.field.specs.Limits.{number_in_range}
use Rattle.message.specs.Letters.{listed}
use Rattle.message.specs.Message.{Typed, keeps}
use Rattle.message.specs.declared.Message.{Message}
use Rattle.message.specs.declared.Texts.{Texts}
use Rattle.table.specs.Memory.{table_size, Memories}
use Rattle.table.specs.Index.{is_lent}
use Rattle.table.specs.Sorted.{Sorted}
use Rattle.table.specs.Board.{Outcome, Indexed, beside, refused_beside, fresh_board, accepted, start_of, apply_of}
use Rattle.table.specs.Rules.{Sound, board_keeps}
use Rattle.table.specs.declared.Board.{Board}
use Rattle.table.specs.declared.Refusal.TheVariants.{Unfit}
use Rattle.table.proofs.Kept.{clash, start-sound, apply-sound, apply-board}
use Rattle.table.proofs.Truth.{start-sorted, apply-sorted}
use Rattle.image.specs.Save.{image_of, size_for, saving, save_of}
use Rattle.image.specs.Restore.{restored, restoring, restore_of}
use Rattle.image.specs.declared.Header.{Header}
use Rattle.std.specs.Prelude.{Ok}
use Rattle.image.proofs.Rounds.{saved-restored, sound-saved, sound-cleared}

-- a start, and then messages that keep their field rules, each of them accepted
pub data Made : Board → Memories → Type 0 where
  started : (l : Memories) (b : Board) (l' : Memories) → start_of l ≡ beside l'.index (accepted b l'.table) → Made b l'
  applied : (b : Board) (l : Memories) (m : Message) (t : Texts) (b' : Board) (l' : Memories) → Made b l → Typed m t → keeps m t ≡ true
      → apply_of b m t l ≡ beside l'.index (accepted b' l'.table) → Made b' l'

outcome-of : {o : Indexed} {ix : List ℕ} {p : Outcome} → o ≡ beside ix p → o.outcome ≡ p
outcome-of e = ap (λ (o : Indexed). o.outcome) e

abbrev SortedBy : Indexed → Type 0
SortedBy o = Sorted o.outcome.applied.board.rows o.index o.outcome.memory

start-board : (l : Memories) (mem' : List ℕ) (b : Board) → (start_of l).outcome ≡ accepted b mem' → board_keeps b ≡ true
unfolding start_of board_keeps listed
start-board l mem' b e = by (is_lent l) e
  where
    by : (y : Bool) → (cond y (beside (replicate (length l.index) 0) (accepted fresh_board (replicate (length l.table) 0))) (refused_beside Unfit fresh_board l)).outcome
        ≡ accepted b mem' → board_keeps b ≡ true
    by true i = ap (λ (o : Outcome). board_keeps o.applied.board) (sym i)
    by false i = clash i

-- its rows are sound and its index is true of them
pub made-sound : (b : Board) (l : Memories) → Made b l → Sound b.rows l.table × Sorted b.rows l.index l.table
made-sound b l (started l₀ b₁ l₁ e) = (
  start-sound l₀ l.table b (outcome-of e),
  subst SortedBy e (start-sorted l₀ (ap (λ (o : Indexed). o.outcome.applied.verdict) e)),
)
made-sound b l (applied b₀ l₀ m t b₁ l₁ d f k e) =
    let s = made-sound b₀ l₀ d in (
      apply-sound b₀ m t l₀ b l.table s.0 s.1 f k (outcome-of e),
      subst SortedBy e (apply-sorted b₀ m t l₀ s.1 s.0.sized f),
    )

pub made-board : (b : Board) (l : Memories) → Made b l → board_keeps b ≡ true
made-board b l (started l₀ b₁ l₁ e) = start-board l₀ l.table b (outcome-of e)
made-board b l (applied b₀ l₀ m t b₁ l₁ d f k e) = apply-board b₀ m t l₀ b l.table (made-board b₀ l₀ d) k (outcome-of e)

module _ (h : Header) (l : Memories) (made : Made h.board l) (next : number_in_range h.next ≡ true) (known : h.known ≡ true)
    (out : List ℕ) (room : size_for h.board.rows ≤ length out) where
  -- IT IS SAVED in memory that is long enough
  pub made-saved : save_of h l.table out ≡ saving (Ok (size_for h.board.rows)) (overlay out 0 (image_of h l.table))
  made-saved = sound-saved h l.table (made-sound h.board l made).0 next (made-board h.board l made) known out room

  -- and what is restored from it is the same header and the same memory, every byte
  pub made-restored : length h.session ≡ 10 → (old : List ℕ) → length old ≡ table_size
      → restore_of (part (overlay out 0 (image_of h l.table)) 0 (size_for h.board.rows)) old ≡ restoring (restored (Ok (tt {0})) h) l.table
  made-restored ten old k =
      saved-restored h l.table out _ _ ten made-saved old k
      ∙ ap (restoring (restored (Ok (tt {0})) h)) (sound-cleared h l.table (made-sound h.board l made).0 next (made-board h.board l made) known)
