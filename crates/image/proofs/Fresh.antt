-- C12: the fresh image is one block, and its check is 18 84.
-- Assumes nothing.
use mathlib.Core.Path.{◌≡◌, refl}
use mathlib.Core.List.{List, [], ◌∷◌}
use Prim.Native.Nat.{ℕ, ◌≤◌}
use lib.ListN.{length}
use borrow.Author.Tests.{eq-eqb, le-leb}
use Rattle.field.specs.Bytes.{part, overlay, digits}
use Rattle.field.specs.Text.{every}
use Rattle.message.specs.Letters.{listed}
use Rattle.block.specs.Block.{block_size, checked_size, weighted, check_of, head_bytes, sealed, block_of}
use Rattle.image.specs.Shape.{pages_for, blocks_for, head_for}
use Rattle.table.specs.Memory.{table_size}
use Rattle.table.specs.Board.{fits}
use Rattle.table.specs.Rules.{rows_keep, board_keeps}
use Rattle.image.specs.Header.{fresh_header, within_limits, is_fresh, header_keeps, session_bytes, board_bytes, first_body}
use Rattle.image.specs.Save.{body_of, saved_block, blocks, image_in, image_of, size_for, saving, save_of}
use Rattle.std.specs.Prelude.{Ok}

pub fresh-length : (mem : List ℕ) → length (image_of fresh_header mem) ≡ block_size
unfolding digits weighted check_of head_bytes sealed block_of pages_for blocks_for head_for session_bytes board_bytes first_body body_of saved_block blocks image_in
fresh-length mem = refl

pub fresh-check : (mem : List ℕ) → part (image_of fresh_header mem) checked_size 2 ≡ 24 ∷ 132 ∷ []
unfolding part digits weighted check_of head_bytes sealed block_of pages_for blocks_for head_for session_bytes board_bytes first_body body_of saved_block blocks image_in
fresh-check mem = refl

pub fresh-saved : (mem out : List ℕ) → length mem ≡ table_size → block_size ≤ length out
    → save_of fresh_header mem out ≡ saving (Ok block_size) (overlay out 0 (image_of fresh_header mem))
unfolding save_of within_limits fits header_keeps board_keeps listed is_fresh every rows_keep size_for blocks_for pages_for
fresh-saved mem out l f = rw (eq-eqb (length mem) table_size l, le-leb block_size (length out) f)
