-- The small set of document 01, C1 to C12: one table of questions with their answers.
-- Assumes nothing.
use Rattle.std.specs.Prelude.{ℕ, ◌-◌, ◌/◌, Bool, true, false, cond, List, [], ◌∷◌, ◌++◌, eqb, length, replicate}
use Rattle.field.specs.Bytes.{part}
use Rattle.message.specs.Layout.{amount}
use Rattle.message.specs.Message as messages
use Rattle.message.specs.Message.{read_of}
use Rattle.message.specs.declared.Message.TheVariants as message
use Rattle.packet.specs.Stream as stream
use Rattle.packet.specs.Frame.{held_size}
use Rattle.packet.specs.Stream.{State, live, Event, More, Refused}
use Rattle.packet.specs.Line.{fresh_line, logged_in}
use Rattle.packet.specs.Session as packets
use Rattle.packet.specs.Session.{Session}
use Rattle.row.specs.Changes.{widened}
use Rattle.table.specs.Memory.{Memories}
use Rattle.table.specs.Board.{fresh_board}
use Rattle.table.specs.Places.{time_of}
use Rattle.block.specs.Block.{block_size, checked_size}
use Rattle.reader.specs.Deliver.{Table, Said}
use Rattle.reader.specs.View.{ready_of, memory_in}
use Rattle.reader.specs.Calls.{step_all}
use Rattle.reader.specs.Saving.{Written, save_all}
use Rattle.reader.specs.declared.Reader.{Reader}
use Rattle.std.specs.Prelude.{Err}
use Rattle.std.specs.Prelude.{Ok}
use Rattle.std.specs.Prelude.{Result}
use Rattle.message.specs.declared.Refusal.{Refusal}
use Rattle.message.specs.declared.Message.{Message}

-- ---- what is asked

-- pieces, one for each call, of a reader that is fresh, or logged in; the time of a message; whether a message is accepted; the price that a row keeps;
-- the image of a fresh reader
pub data Question : Type 0 where
  fresh : List (List ℕ) → Question
  logged_on : List (List ℕ) → Question
  time : List ℕ → Question
  accepted : List ℕ → Question
  kept : List ℕ → Question
  fresh_image : Question

-- one call: the bytes taken, and its answer
pub record Told : Type 0 where
  pub taken : ℕ
  pub answer : stream.Answer (packets.Event Said)

-- calls; a number; or a count of blocks, and the check of the first
pub data Answer : Type 0 where
  told : List Told → Answer
  number : ℕ → Answer
  blocks : ℕ → List ℕ → Answer

abbrev pub takes : ℕ → stream.Answer (packets.Event Said) → Told
takes n a = record { taken = n; answer = a }

-- ---- how it is answered by the definitions that the promises cite

-- a reader in a state, with zeros past what it holds
abbrev pub reader_by : Session Table → List ℕ → Bool → ℕ → Reader
reader_by s held ended refusal =
    record {
      line = s.line;
      board = s.about.board;
      ended = ended;
      refusal = refusal;
      used = length held;
      held = held ++ replicate (held_size - length held) 0;
    }

abbrev pub reader_in : State (Session Table) → Reader
reader_in (live s held) = reader_by s held false 0
reader_in (stream.ended s held) = reader_by s held true 0
reader_in (stream.refused s held e n) = reader_by s held e n

-- a step with each piece, of the reader and the memories that the step before it left
unfoldable pub calls : Reader → Memories → List (List ℕ) → List Told
calls r memory [] = []
calls r memory (piece ∷ pieces) =
    let s = (step_all r memory piece).step in
    takes s.taken s.answer ∷ calls (reader_in s.state) (memory_in s.state) pieces

abbrev pub time_in : Result Message Refusal → ℕ
time_in (Ok m) = time_of m
time_in (Err r) = 0

-- the price of a side that was given in pennies, as the number that its row keeps, 0 for none
abbrev pub price_in : Result Message Refusal → ℕ
price_in (Ok (message.SystemEvent m)) = 0
price_in (Ok (message.Directory m)) = 0
price_in (Ok (message.TradingAction m)) = 0
price_in (Ok (message.ShortQuote m)) = 0
price_in (Ok (message.LongQuote m)) = 0
price_in (Ok (message.ShortSide m)) = amount (widened m.numbers).price
price_in (Ok (message.LongSide m)) = 0
price_in (Ok (message.EndOfReplay m)) = 0
price_in (Err r) = 0

-- 0 where it is accepted, or the number of its refusal
abbrev pub refusal_in : Result Message Refusal → ℕ
refusal_in (Ok m) = 0
refusal_in (Err r) = messages.refusal_number r

-- how many blocks were saved, and the check of the first; or the number of the refusal
abbrev pub saved_as : Written → Answer
saved_as w = cond (eqb w.refusal 0) (blocks (w.count / block_size) (part w.out checked_size 2)) (number w.refusal)

-- a fresh reader saved to one block
abbrev pub fresh_saved : List ℕ → Written
fresh_saved t = save_all (ready_of fresh_line fresh_board) t (replicate block_size 0)

-- with those memories
abbrev pub answered : Memories → Question → Answer
answered t (fresh pieces) = told (calls (ready_of fresh_line fresh_board) t pieces)
answered t (logged_on pieces) = told (calls (ready_of (logged_in fresh_line (replicate 10 65)) fresh_board) t pieces)
answered t (time m) = number (time_in (read_of m).answer)
answered t (accepted m) = number (refusal_in (read_of m).answer)
answered t (kept m) = number (price_in (read_of m).answer)
answered t fresh_image = saved_as (fresh_saved t.table)

-- ---- messages around a field

-- `S`: a system event O with that time
abbrev pub event_at : List ℕ → List ℕ
event_at field = 83 ∷ 0 ∷ 0 ∷ (field ++ (79 ∷ []))

-- `b`: a bid for id 7 with that price in pennies, and `B` with one of four bytes; all else is 0, the condition a space
abbrev pub short_bid : List ℕ → List ℕ
short_bid price = 98 ∷ (replicate 13 0 ++ (7 ∷ 32 ∷ 0 ∷ 0 ∷ (price ++ replicate 6 0)))

abbrev pub long_bid : List ℕ → List ℕ
long_bid price = 66 ∷ (replicate 13 0 ++ (7 ∷ 32 ∷ 0 ∷ 0 ∷ 0 ∷ 0 ∷ (price ++ replicate 12 0)))

-- ---- THE TABLE

pub record Case : Type 0 where
  pub question : Question
  pub answer : Answer

abbrev pub case : Question → Answer → Case
case q a = record { question = q; answer = a }

abbrev pub small_set : List Case
small_set =
    -- C1 an empty piece to a fresh reader
    case (fresh ([] ∷ [])) (told (takes 0 More ∷ []))
    -- C2 `00 00`
    ∷ case (fresh ((0x00 ∷ 0x00 ∷ []) ∷ [])) (told (takes 2 (Refused 1) ∷ []))
    -- C3 `01 01`; `01 00`
    ∷ case (fresh ((0x01 ∷ 0x01 ∷ []) ∷ [])) (told (takes 2 (Refused 1) ∷ []))
    ∷ case (fresh ((0x01 ∷ 0x00 ∷ []) ∷ [])) (told (takes 2 More ∷ []))
    -- C4 `00 01 48`
    ∷ case (fresh ((0x00 ∷ 0x01 ∷ 0x48 ∷ []) ∷ [])) (told (takes 3 (Event packets.heartbeat) ∷ []))
    -- C5 the same cut after two bytes
    ∷ case (fresh ((0x00 ∷ 0x01 ∷ []) ∷ (0x48 ∷ []) ∷ [])) (told (takes 2 More ∷ takes 1 (Event packets.heartbeat) ∷ []))
    -- C6 `00 01 5A` fresh
    ∷ case (fresh ((0x00 ∷ 0x01 ∷ 0x5A ∷ []) ∷ [])) (told (takes 3 (Refused 3) ∷ []))
    -- C7 `00 01 53` before and after login
    ∷ case (fresh ((0x00 ∷ 0x01 ∷ 0x53 ∷ []) ∷ [])) (told (takes 3 (Refused 3) ∷ []))
    ∷ case (logged_on ((0x00 ∷ 0x01 ∷ 0x53 ∷ []) ∷ [])) (told (takes 3 (Refused 10) ∷ []))
    -- C8 time `00 00 1F 1A D6 35 BD 15`
    ∷ case (time (event_at (0x00 ∷ 0x00 ∷ 0x1F ∷ 0x1A ∷ 0xD6 ∷ 0x35 ∷ 0xBD ∷ 0x15 ∷ []))) (number 34_200_123_456_789)
    -- C9 time 86,400,000,000,000
    ∷ case (accepted (event_at (0x00 ∷ 0x00 ∷ 0x4E ∷ 0x94 ∷ 0x91 ∷ 0x4F ∷ 0x00 ∷ 0x00 ∷ []))) (number 12)
    -- C10 pennies `00 7D` and `FF FF`, in ten-thousandths
    ∷ case (kept (short_bid (0x00 ∷ 0x7D ∷ []))) (number 12_500)
    ∷ case (kept (short_bid (0xFF ∷ 0xFF ∷ []))) (number 6_553_500)
    -- C11 price `7F FF FF FF` and `80 00 00 00`
    ∷ case (accepted (long_bid (0x7F ∷ 0xFF ∷ 0xFF ∷ 0xFF ∷ []))) (number 0)
    ∷ case (accepted (long_bid (0x80 ∷ 0x00 ∷ 0x00 ∷ 0x00 ∷ []))) (number 12)
    -- C12 the fresh image is one block with check `18 84`
    ∷ case fresh_image (blocks 1 (0x18 ∷ 0x84 ∷ []))
    ∷ []
