-- What our own calls make: a table and a session that keep document 01's rules.
-- Assumes nothing.
use Rattle.std.specs.Prelude.{◌≤◌, ◌≡◌, true, ◌⊎◌, length, replicate}
use Rattle.field.specs.Bytes.{Bytes}
use Rattle.packet.specs.Frame.{short, frame, held_size}
use Rattle.packet.specs.Line.{fresh_line, InRange}
use Rattle.packet.specs.Session.{Session}
use Rattle.table.specs.Memory.{table_size, Memories, memories}
use Rattle.table.specs.Index.{index_size}
use Rattle.table.specs.Sorted.{Sorted}
use Rattle.table.specs.Board.{fresh_board}
use Rattle.table.specs.Rules.{Sound, board_keeps}
use Rattle.reader.specs.Refusals.{standing}
use Rattle.reader.specs.Deliver.{Table}
use Rattle.reader.specs.View.{session_of, held_of}
use Rattle.reader.specs.declared.Reader.{Reader}

-- the rows in use keep the row rules, no id is there twice, and what follows them is zero; the board keeps its rules; the index is true of the rows
pub record SoundTable (t : Table) : Type 0 where
  pub rows : Sound t.board.rows t.memory.table
  pub board : board_keeps t.board ≡ true
  pub index : Sorted t.board.rows t.memory.index t.memory.table

-- a reader that was just started: next number 1, no known session, no rows, and zeros
abbrev pub begin : Session Table
begin = session_of fresh_line fresh_board (memories (replicate table_size 0) (replicate index_size 0))

-- the next number is in range; the session's name is ten bytes; the table is sound; and where no session is known, nothing has happened
pub record SoundSession (s : Session Table) : Type 0 where
  pub range : InRange s.line
  pub name : Bytes s.line.session
  pub ten : length s.line.session ≡ 10
  pub about : SoundTable s.about
  pub whose : (s.line.known ≡ true) ⊎ (s ≡ begin)

-- A HANDLE AND MEMORIES AS OUR OWN CALLS MAKE THEM: a sound session; a standing refusal of the list, or none; and no whole packet among the held bytes
pub record Ours (r : Reader) (t : Memories) : Type 0 where
  pub sound : SoundSession (session_of r.line r.board t)
  pub stands : standing r.refusal ≡ true
  pub used : r.used ≤ held_size
  pub short : frame (held_of r) ≡ short
  pub bytes : Bytes (held_of r)
