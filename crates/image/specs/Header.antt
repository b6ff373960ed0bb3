-- What is saved beside the rows: its rules, and the body of block 0 that holds it.
-- Assumes nothing.
use Rattle.std.specs.Prelude.{ℕ, ◌-◌, Bool, false, ◌&&◌, ◌||◌, cond, List, ◌++◌, eqb, replicate}
use Rattle.field.specs.Bytes.{part, be, bytes_be}
use Rattle.field.specs.Limits.{number_in_range}
use Rattle.field.specs.Text.{every, is_space}
use Rattle.block.specs.Block.{body_size, head_at}
use Rattle.table.specs.Board.{fresh_board, fits}
use Rattle.table.specs.Rules.{board_keeps}
use Rattle.table.specs.declared.Board.{Board}
use Rattle.image.specs.declared.Header.{Header}

-- ---- its rules

-- a fresh reader's
abbrev pub fresh_header : Header
fresh_header = record { session = replicate 10 32; known = false; next = 1; board = fresh_board }

-- 20: the rows fit their memory, next number 1 to 10^12
unfoldable pub within_limits : Header → List ℕ → Bool
within_limits h mem = fits h.board mem && number_in_range h.next

-- an unknown session is ten spaces with next number 1 and all else 0
unfoldable pub is_fresh : Header → Bool
is_fresh h =
    every is_space h.session
    && (eqb h.next 1 && (eqb h.board.event 0 && (eqb h.board.rows 0 && eqb h.board.live 0)))

unfoldable pub header_keeps : Header → Bool
header_keeps h = board_keeps h.board && (h.known || is_fresh h)

-- ---- the body of block 0

abbrev pub flag : Bool → ℕ
flag b = cond b 1 0

-- session (10) and session known (1)
unfoldable pub session_bytes : Header → List ℕ
session_bytes h = h.session ++ bytes_be 1 (flag h.known)

-- latest event (1), rows (2), live number (8)
unfoldable pub board_bytes : Board → List ℕ
board_bytes b = bytes_be 1 b.event ++ (bytes_be 2 b.rows ++ bytes_be 8 b.live)

abbrev pub facts_size : ℕ
facts_size = 22

-- then zeros
unfoldable pub first_body : Header → List ℕ
first_body h = session_bytes h ++ (board_bytes h.board ++ replicate (body_size - facts_size) 0)

-- what an image says: session 14-23, known 24, event 25, rows 26-27, live number 28-35, and the next number of block 0
unfoldable pub header_of : List ℕ → Header
header_of image =
    record {
      session = part image 14 10;
      known = eqb (be (part image 24 1)) 1;
      next = (head_at image 0).next;
      board = record { rows = be (part image 26 2); event = be (part image 25 1); live = be (part image 28 8) };
    }
