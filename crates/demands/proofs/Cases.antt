-- The small set of document 01 is answered as its table says, by computing.
-- Assumes nothing.
use mathlib.Core.Path.{◌≡◌}
use mathlib.Core.Bool.{true}
use mathlib.Core.List.{map}
use borrow.Author.Tests.{eq-eqb}
use lib.Dec.{eqb}
use lib.ListN.{length}
use Rattle.field.specs.Bytes.{part, overlay, value, digits}
use Rattle.field.specs.Text.{every}
use Rattle.message.specs.Layout.{price_from, values, keeps_all}
use Rattle.message.specs.Feed.{letter_among, fields_read, letter_read, bytes_read}
use Rattle.message.specs.Letters.{listed, letters}
use Rattle.message.specs.Message.{read_of}
use Rattle.packet.specs.Frame.{framed, frame}
use Rattle.packet.specs.Stream.{step_of}
use Rattle.packet.specs.Table.{packet_table, entry_of}
use Rattle.packet.specs.Line.{packet_of}
use Rattle.packet.specs.Session.{soup_bin_tcp}
use Rattle.table.specs.Memory.{table_size, Memories}
use Rattle.table.specs.Index.{index_size}
use Rattle.table.specs.Board.{fits}
use Rattle.table.specs.Rules.{board_keeps, rows_keep}
use Rattle.reader.specs.Refusals.{standing}
use Rattle.reader.specs.Deliver.{deliver}
use Rattle.reader.specs.Limits.{unfinished, holds_unfinished, within_limits, may_step}
use Rattle.reader.specs.Calls.{step_in, step_all}
use Rattle.reader.specs.Saving.{save_all}
use Rattle.block.specs.Block.{weighted, check_of, head_bytes, sealed, block_of}
use Rattle.image.specs.Shape.{pages_for, blocks_for, head_for}
use Rattle.image.specs.Header as headers
use Rattle.image.specs.Header.{session_bytes, board_bytes, first_body, header_keeps, is_fresh}
use Rattle.image.specs.Save.{body_of, saved_block, blocks, image_in, size_for, save_of}
use Rattle.demands.specs.Cases.{calls, answered, Case, small_set}

-- THEOREM: C1 to C12, with memories of the right lengths, whatever the index holds
pub small-set : (t : Memories) → length t.table ≡ table_size → length t.index ≡ index_size
    → map (λ (c : Case). answered t c.question) small_set ≡ map (λ (c : Case). c.answer) small_set
unfolding calls step_all step_in may_step within_limits fits holds_unfinished unfinished standing step_of frame framed value soup_bin_tcp packet_of entry_of packet_table deliver read_of bytes_read letter_read fields_read letters letter_among values keeps_all price_from listed part digits save_all headers.within_limits save_of header_keeps is_fresh every board_keeps rows_keep size_for weighted check_of head_bytes sealed block_of pages_for blocks_for head_for session_bytes board_bytes first_body body_of saved_block blocks image_in overlay
small-set t long wide =
    let e : eqb (length t.table) table_size ≡ true = eq-eqb (length t.table) table_size long in
    let f : eqb (length t.index) index_size ≡ true = eq-eqb (length t.index) index_size wide in
    simp (e, f)
