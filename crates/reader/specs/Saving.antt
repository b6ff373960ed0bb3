-- What saving and restoring promise.
-- Assumes nothing.
use Rattle.std.specs.Prelude.{ℕ, ◌≡◌, cond, List, [], length}
use Rattle.packet.specs.Stream.{State, live}
use Rattle.packet.specs.Session.{Session}
use Rattle.packet.specs.Line.{fresh_line, waiting}
use Rattle.packet.specs.declared.Line.{Line}
use Rattle.table.specs.Memory.{Memories, memories}
use Rattle.table.specs.Index.{is_index, built}
use Rattle.table.specs.Board.{fresh_board}
use Rattle.image.specs.Save as images
use Rattle.image.specs.Save.{Saving, save_of}
use Rattle.image.specs.Restore.{Restoring, restore_of}
use Rattle.image.specs.declared.Header.{Header}
use Rattle.reader.specs.Refusals.{refusal_number}
use Rattle.reader.specs.Deliver.{Table}
use Rattle.reader.specs.View.{session_of, state_of}
use Rattle.reader.specs.Limits.{within_limits}
use Rattle.reader.specs.declared.Refusal.TheVariants.{Unfit}
use Rattle.reader.specs.declared.Reader.{Reader}
use Rattle.reader.specs.declared.Restored.{Restored}
use Rattle.std.specs.Prelude.{Err}
use Rattle.std.specs.Prelude.{Ok}
use Rattle.std.specs.Prelude.{Result}
use Rattle.image.specs.declared.Refusal.{Refusal}

-- ---- SAVING

-- what is saved of a handle beside the rows: held bytes and a standing refusal are not
abbrev pub header_of : Reader → Header
header_of r = record { session = r.line.session; known = r.line.known; next = r.line.next; board = r.board }

-- the number of the refusal, 0 for none; the count of bytes written; and the output as it is left
pub record Written : Type 0 where
  pub refusal : ℕ
  pub count : ℕ
  pub out : List ℕ

abbrev pub written_of : Result ℕ Refusal → List ℕ → Written
written_of (Ok n) out = record { refusal = 0; count = n; out = out }
written_of (Err r) out = record { refusal = images.refusal_number r; count = 0; out = out }

abbrev pub written_by : Saving → Written
written_by s = written_of s.answer s.out

-- 20 comes first, for every limit of a handle
unfoldable pub save_all : Reader → List ℕ → List ℕ → Written
save_all r memory out =
    cond (within_limits r memory)
    (written_by (save_of (header_of r) memory out))
    (record { refusal = refusal_number Unfit; count = 0; out = out })

-- THE PROMISE OF SAVING: table memory and an output were lent, and an answer came and the output was left so
abbrev pub Saves : Reader → List ℕ → List ℕ → Result ℕ Refusal → List ℕ → Type 0
Saves r memory out a after = written_of a after ≡ save_all r memory out

-- ---- RESTORING

-- with a known session the reader waits for its login; without one it is fresh
abbrev pub line_of : Header → Line
line_of h = cond h.known (waiting h.session h.next) fresh_line

-- an accepted image's rows have their index made anew (W-207); a refused one leaves the index
abbrev pub index_after : Result (Unit {0}) Refusal → ℕ → List ℕ → List ℕ → List ℕ
index_after (Ok u) rows table index = built rows (length index) table
index_after (Err r) rows table index = index

-- the session that an image and the memory that it left give
abbrev pub restored_session : Restoring → List ℕ → Session Table
restored_session o index =
    session_of (line_of o.answer.header) o.answer.header.board
    (memories o.memory (index_after o.answer.verdict o.answer.header.board.rows o.memory index))

-- the state, how many bytes are held, and the number of the refusal, 0 for none
pub record Came : Type 0 where
  pub state : State (Session Table)
  pub used : ℕ
  pub refusal : ℕ

abbrev pub came : Session Table → ℕ → Came
came s refusal = record { state = live s []; used = 0; refusal = refusal }

abbrev pub restore_number : Result (Unit {0}) Refusal → ℕ
restore_number (Ok u) = 0
restore_number (Err r) = images.refusal_number r

abbrev pub came_of : Restored → Memories → Came
came_of r memory =
    record { state = state_of r.reader memory; used = r.reader.used; refusal = restore_number r.verdict }

-- 20 for index memory of the wrong length comes before the image is judged
unfoldable pub restore_all : List ℕ → Memories → Came
restore_all image memory =
    let o = restore_of image memory.table in
    cond (is_index memory.index)
    (came (restored_session o memory.index) (restore_number o.answer.verdict))
    (came (session_of fresh_line fresh_board memory) (refusal_number Unfit))

-- THE PROMISE OF RESTORING
abbrev pub Restores : List ℕ → Memories → Restored → Memories → Type 0
Restores image memory r after = came_of r after ≡ restore_all image memory
