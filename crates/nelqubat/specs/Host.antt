-- The calls for C over memory that the host lends: what each answers, and every byte that it leaves.
-- An answer's low byte is the number of the refusal, 0 for none.
-- Assumes nothing.
use Rattle.std.specs.Prelude.{ℕ, ◌+◌, ◌*◌, ◌≤◌, ◌<◌, ◌≡◌, cond, List, [], eqb, leb, length, take, replicate}
use Rattle.field.specs.Bytes.{overlay}
use Rattle.packet.specs.Frame.{held_size}
use Rattle.packet.specs.Stream.{State}
use Rattle.packet.specs.Session.{Session}
use Rattle.handle.specs.Handle.{handle_size, is_handle, head_of, handle_bytes}
use Rattle.block.specs.Block.{block_size}
use Rattle.image.specs.Shape.{most_blocks}
use Rattle.image.specs.Moves.{move_of}
use Rattle.image.specs.declared.Way.{Way}
use Rattle.table.specs.Memory.{most_rows, Memories, Found, At, Nothing, row_for}
use Rattle.table.specs.Index.{sought}
use Rattle.table.specs.declared.index.Sought.{Sought}
use Rattle.table.specs.declared.index.Sought.TheVariants.{Here, Absent, Astray}
use Rattle.listing.specs.Lines.{ending_of, line_of}
use Rattle.listing.specs.declared.Shown.{Shown}
use Rattle.listing.specs.declared.Shown.TheVariants as shown
use Rattle.listing.specs.declared.Text.{Text}
use Rattle.record.specs.Record.{Answered, answered}
use Rattle.reader.specs.Deliver.{Table}
use Rattle.reader.specs.View.{state_of, memory_in}
use Rattle.reader.specs.Calls.{Begun, start_all}
use Rattle.reader.specs.Saving.{Written, written_of, written_by, Came, save_all, restore_all}
use Rattle.reader.specs.Handles.{reader_in, host_within, host_may_step, head_in, Left, left}
use Rattle.std.specs.Prelude.{Result}
use Rattle.image.specs.declared.Refusal.{Refusal}

-- ---- STARTING AND RESTORING

-- places that hold nothing
abbrev pub no_held : List ℕ
no_held = replicate held_size 0

-- a reader that holds nothing
abbrev pub unheld : ℕ → State (Session Table) → ℕ → Left
unheld number st used = left number (handle_bytes (head_in st used) no_held) (memory_in st)

abbrev pub started_as : Begun → Left
started_as b = unheld b.refusal b.state b.used

-- 20 for handle memory of another length; else the handle is fresh, also where table or index memory has another (W-207)
unfoldable pub start_host : List ℕ → Memories → Left
start_host handle memory = cond (eqb (length handle) handle_size) (started_as (start_all memory)) (left 20 handle memory)

abbrev pub restored_as : Came → Left
restored_as c = unheld c.refusal c.state c.used

unfoldable pub restore_host : List ℕ → Memories → List ℕ → Left
restore_host handle memory image = cond (eqb (length handle) handle_size) (restored_as (restore_all image memory)) (left 20 handle memory)

-- THE PROMISES OF STARTING AND RESTORING: what was lent, and then the answer and what was left
abbrev pub HostStarts : List ℕ → Memories → ℕ → List ℕ → Memories → Type 0
HostStarts handle memory a handle' memory' = left a handle' memory' ≡ start_host handle memory

abbrev pub HostRestores : List ℕ → Memories → List ℕ → ℕ → List ℕ → Memories → Type 0
HostRestores handle memory image a handle' memory' = left a handle' memory' ≡ restore_host handle memory image

-- the handle that they leave is the reader that they make
abbrev pub StartsOn : List ℕ → Memories → List ℕ → Memories → Type 0
StartsOn handle memory handle' memory' = length handle ≡ handle_size → state_of (reader_in handle') memory' ≡ (start_all memory).state

abbrev pub RestoresOn : List ℕ → Memories → List ℕ → List ℕ → Memories → Type 0
RestoresOn handle memory image handle' memory' = length handle ≡ handle_size → state_of (reader_in handle') memory' ≡ (restore_all image memory).state

-- ---- SAVING

-- above the low byte stands the count of bytes written
abbrev pub saved_number : Written → ℕ
saved_number w = w.refusal + w.count * 256

abbrev pub saved_as : Written → Answered
saved_as w = answered (saved_number w) w.out

-- 20 for bytes that are no handle
unfoldable pub save_host : List ℕ → List ℕ → List ℕ → Answered
save_host handle table out = cond (is_handle handle) (saved_as (save_all (reader_in handle) table out)) (answered 20 out)

-- THE PROMISE OF SAVING
abbrev pub HostSaves : List ℕ → List ℕ → List ℕ → ℕ → List ℕ → Type 0
HostSaves handle table out a out' = answered a out' ≡ save_host handle table out

-- the count has room: no image is longer
abbrev pub SavedFits : Result ℕ Refusal → Type 0
SavedFits s = (written_of s []).count ≤ most_blocks * block_size

-- ---- MOVING AN IMAGE (W-209)

-- it answers as saving does, and looks at no handle
unfoldable pub move_host : Way → List ℕ → List ℕ → Answered
move_host way image out = saved_as (written_by (move_of way image out))

-- THE PROMISE OF A MOVE
abbrev pub HostMoves : Way → List ℕ → List ℕ → ℕ → List ℕ → Type 0
HostMoves way image out a out' = answered a out' ≡ move_host way image out

-- ---- A LINE OF THE LISTING

-- 25 for a line that has no room
unfoldable pub line_to : List ℕ → List ℕ → Answered
line_to line out = cond (leb (length line) (length out)) (answered (length line * 256) (overlay out 0 line)) (answered 25 out)

-- what is shown: a line, nothing past the last, 20
abbrev pub shown_as : Shown → List ℕ → List ℕ → Answered
shown_as (shown.Line n) text out = line_to (take n text) out
shown_as shown.Past text out = answered 0 out
shown_as shown.Unfit text out = answered 20 out

abbrev pub shown_to : Text → List ℕ → Answered
shown_to t out = shown_as t.shown t.text out

-- 20 for bytes that are no handle, and for a handle or table memory that breaks a limit
unfoldable pub line_host : List ℕ → List ℕ → ℕ → List ℕ → Answered
line_host handle table k out =
    cond (host_within handle table)
    (line_to (line_of k (head_of handle).line.next (head_of handle).board.rows table (ending_of (head_of handle).refusal (head_of handle).ended)) out)
    (answered 20 out)

-- ---- THE ROW FOR AN ID

-- 256 times its place, counted from 1; 0 where the search finds none, 20 where the index led it astray (W-207)
abbrev pub found_number : Sought → ℕ
found_number (Here k) = (k + 1) * 256
found_number (Absent place) = 0
found_number Astray = 20

-- 20 as for a line, and for index memory of another length (W-207)
unfoldable pub find_host : List ℕ → Memories → ℕ → ℕ
find_host handle memory id =
    cond (host_may_step handle memory)
    (found_number (sought memory.index memory.table (head_of handle).board.rows id))
    20

-- its place has room
abbrev pub FoundFits : Sought → Type 0
FoundFits (Here k) = k < most_rows
FoundFits (Absent place) = Unit
FoundFits Astray = Unit

-- ---- the same with the walk, as it was until W-207

abbrev pub walked_number : Found → ℕ
walked_number (At k) = (k + 1) * 256
walked_number Nothing = 0

unfoldable pub walked_find : List ℕ → List ℕ → ℕ → ℕ
walked_find handle table id = cond (host_within handle table) (walked_number (row_for (head_of handle).board.rows table id)) 20

-- ---- THE VERSION

-- that the header names too
abbrev pub host_version : ℕ
host_version = 6
