-- The handle in bytes: its head, and behind that the places of its held bytes.
-- Assumes nothing.
use Rattle.std.specs.Prelude.{ℕ, ◌+◌, Bool, ◌&&◌, cond, List, [], ◌∷◌, ◌++◌, eqb, leb, length, get_or}
use Rattle.field.specs.Bytes.{part, overlay, bytes_be}
use Rattle.message.specs.Layout.{Value, num, raw, number_at, bytes_at, binary, bytes, Row, row, values, keeps_all, bytes_for}
use Rattle.message.specs.Letters.{anything}
use Rattle.packet.specs.Frame.{held_size}
use Rattle.packet.specs.declared.Line.{Line}
use Rattle.table.specs.declared.Board.{Board}
use Rattle.handle.specs.declared.Head.{Head}

abbrev pub head_size : ℕ
head_size = 47

-- with the places of held bytes behind the head, 305
abbrev pub handle_size : ℕ
handle_size = head_size + held_size

-- ---- a flag is a byte, 0 or 1

abbrev pub is_flag : ℕ → Bool
is_flag n = leb n 1

abbrev pub flag : Bool → ℕ
flag b = cond b 1 0

abbrev pub is_set : ℕ → Bool
is_set n = eqb n 1

-- ---- the layout of a head

abbrev pub number_rows : List Row
number_rows =
    row 0 8 (binary anything)  -- next number
    ∷ row 8 8 (binary anything)  -- live number, 0 for none
    ∷ row 16 8 (binary anything)  -- rows in use
    ∷ row 24 8 (binary anything)  -- how many bytes are held
    ∷ []

abbrev pub mark_rows : List Row
mark_rows =
    row 42 1 (binary is_flag)  -- session known
    ∷ row 43 1 (binary is_flag)  -- logged in
    ∷ row 44 1 (binary is_flag)  -- ended
    ∷ row 45 1 (binary anything)  -- standing refusal, 0 for none
    ∷ row 46 1 (binary anything)  -- latest event code, 0 before any
    ∷ []

abbrev pub head_rows : List Row
head_rows = number_rows ++ (row 32 10 bytes ∷ mark_rows)  -- between them the session

abbrev pub number_fields : Head → List Value
number_fields h = num h.line.next ∷ num h.board.live ∷ num h.board.rows ∷ num h.used ∷ []

abbrev pub mark_fields : Head → List Value
mark_fields h =
    num (flag h.line.known) ∷ num (flag h.line.logged) ∷ num (flag h.ended) ∷ num h.refusal ∷ num h.board.event ∷ []

abbrev pub head_fields : Head → List Value
head_fields h = number_fields h ++ (raw h.line.session ∷ mark_fields h)

-- what the fields say, in the order of the rows
abbrev pub head_from : List Value → Head
head_from vs =
    record {
      line = record {
        session = bytes_at vs 4;
        known = is_set (number_at vs 5);
        logged = is_set (number_at vs 6);
        next = number_at vs 0;
      };
      board = record { rows = number_at vs 2; event = number_at vs 9; live = number_at vs 1 };
      ended = is_set (number_at vs 7);
      refusal = number_at vs 8;
      used = number_at vs 3;
    }

-- ---- handles

-- so many bytes, and each flag 0 or 1
unfoldable pub is_handle : List ℕ → Bool
is_handle bs = eqb (length bs) handle_size && keeps_all head_rows (values head_rows bs)

unfoldable pub head_of : List ℕ → Head
head_of bs = head_from (values head_rows bs)

unfoldable pub number_bytes : Head → List ℕ
number_bytes h = bytes_for number_rows (number_fields h)

unfoldable pub mark_bytes : Head → List ℕ
mark_bytes h = bytes_for mark_rows (mark_fields h)

unfoldable pub head_bytes : Head → List ℕ
head_bytes h = bytes_for head_rows (head_fields h)

-- a head, and behind it the places of held bytes
unfoldable pub handle_bytes : Head → List ℕ → List ℕ
handle_bytes h held = head_bytes h ++ held

-- the places of held bytes of a handle
abbrev pub places_in : List ℕ → List ℕ
places_in bs = part bs head_size held_size

-- a head with another line, or another board
abbrev pub with_line : Line → Head → Head
with_line l h = record { line = l; board = h.board; ended = h.ended; refusal = h.refusal; used = h.used }

abbrev pub with_board : Board → Head → Head
with_board b h = record { line = h.line; board = b; ended = h.ended; refusal = h.refusal; used = h.used }

-- ---- one field of a handle, by its row in the layout

abbrev pub next_field : ℕ
next_field = 0

abbrev pub live_field : ℕ
live_field = 1

abbrev pub rows_field : ℕ
rows_field = 2

abbrev pub used_field : ℕ
used_field = 3

abbrev pub ended_field : ℕ
ended_field = 7

abbrev pub refusal_field : ℕ
refusal_field = 8

abbrev pub event_field : ℕ
event_field = 9

abbrev pub field_row : ℕ → Row
field_row i = get_or head_rows i (row 0 0 bytes)

-- a number is laid over the field, and every other byte stays
abbrev pub with_field : ℕ → ℕ → List ℕ → List ℕ
with_field i v bs = overlay bs (field_row i).at (bytes_be (field_row i).width v)
