-- What the functions within the crate hand to each other. No promise of a public function names any of it.
-- Assumes nothing.
use Rattle.std.specs.Prelude.{ℕ, ◌+◌, ◌-◌, ◌%◌, ◌≤◌, ◌≡◌, Bool, true, false, cond, not, ◌&&◌, List, eqb, leb, length, take, drop, get_or}
use Rattle.field.specs.Bytes.{overlay, bytes_be}
use Rattle.field.specs.Limits.{highest_number}
use Rattle.message.specs.Message.{read_of}
use Rattle.message.specs.Test.{tested}
use Rattle.packet.specs.Frame.{short, frame, held_size}
use Rattle.packet.specs.Stream as stream
use Rattle.packet.specs.Stream.{live, step_judged, step_of}
use Rattle.packet.specs.Session.{Session, Event, Delivered, done, denied, soup_bin_tcp}
use Rattle.table.specs.Memory.{Memories}
use Rattle.table.specs.Index.{LentFitting}
use Rattle.table.specs.Board.{Indexed}
use Rattle.record.specs.Places.{record_size}
use Rattle.record.specs.Record.{read_to}
use Rattle.handle.specs.Handle.{handle_size, is_handle, head_of, handle_bytes, places_in, with_board, used_field, refusal_field, with_field}
use Rattle.handle.specs.declared.Head.{Head}
use Rattle.reader.specs.Deliver.{Table, Said, deliver, table_by}
use Rattle.reader.specs.View.{session_of, no_text, answer_of, answer_texts, seen}
use Rattle.reader.specs.Calls.{step_in, places_after, verdict_number}
use Rattle.reader.specs.Handles.{Left, left, login_bytes, taken_in, kind_in, gone_to, turned_as}
use Rattle.reader.specs.declared.StepAnswer.{StepAnswer}
use Rattle.reader.specs.declared.Texts.{Texts}
use Rattle.reader.specs.declared.told.Heard.{Heard}

-- ---- a handle within its limits, and the table beside it

-- it has neither refused nor ended
abbrev pub lives_on : Head → Bool
lives_on h = eqb h.refusal 0 && not h.ended

-- why it takes no packet at its ceiling: the refusal that stands, or 7 for an end, else 9
abbrev pub stopped_number : Head → ℕ
stopped_number h = cond (eqb h.refusal 0) (cond h.ended 1792 2304) (2048 + h.refusal)

-- it goes on
pub record Going (handle : List ℕ) (memory : Memories) : Type 0 where
  pub handle-is : is_handle handle ≡ true
  pub live : (head_of handle).ended ≡ false
  pub unrefused : (head_of handle).refusal ≡ 0
  pub some : 1 ≤ (head_of handle).line.next
  pub most : (head_of handle).line.next ≤ highest_number
  pub fitting : LentFitting (head_of handle).board.rows memory

-- nothing is held
pub record Ready (handle : List ℕ) (memory : Memories) : Type 0 where
  pub going : Going handle memory
  pub unheld : (head_of handle).used ≡ 0

-- the bytes of an unfinished packet are held
pub record Holding (handle : List ℕ) (memory : Memories) : Type 0 where
  pub going : Going handle memory
  pub start : (head_of handle).used ≤ held_size
  pub short : frame (take (head_of handle).used (places_in handle)) ≡ short

-- the session that it is in
abbrev pub session_at : List ℕ → Memories → Session Table
session_at handle memory = session_of (head_of handle).line (head_of handle).board memory

-- ---- what a call leaves

-- one that ends with a packet that was judged, but for the bytes that it takes: nothing is held, and the places stay
abbrev pub closed_as : stream.Verdict (Session Table) (Event Said) → List ℕ → Left
closed_as v handle = turned_as (gone_to (seen (step_judged 0 v)) (places_in handle))

-- a step of a handle that goes on, before its index is heeded, and what it leaves
abbrev pub step_on : List ℕ → Memories → List ℕ → stream.Stepped (Session Table) (Event Said)
step_on handle memory piece = step_of (soup_bin_tcp deliver) (live (session_at handle memory) (take (head_of handle).used (places_in handle))) piece

abbrev pub gone_on : List ℕ → Memories → List ℕ → Left
gone_on handle memory piece =
    let x = seen (step_on handle memory piece) in
    turned_as (gone_to x (places_after (places_in handle) (head_of handle).used piece x))

-- and with its index heeded
abbrev pub heeded_on : List ℕ → Memories → List ℕ → Left
heeded_on handle memory piece =
    let x = seen (step_in (live (session_at handle memory) (take (head_of handle).used (places_in handle))) piece) in
    turned_as (gone_to x (places_after (places_in handle) (head_of handle).used piece x))

-- the number of a step says that its index led astray; then no refusal stands, and so many bytes are held
abbrev pub is_astray : ℕ → Bool
is_astray number = eqb (number % 65_536) 2068

abbrev pub held_again : ℕ → List ℕ → List ℕ
held_again used handle = with_field used_field used (with_field refusal_field 0 handle)

-- the number of a step says that a packet was finished
abbrev pub tells_event : ℕ → Bool
tells_event number = leb 1 (kind_in number) && leb (kind_in number) 6

-- ---- what is told of a packet, by the number of its step, the handle after it and the bytes that it begins

-- the message's bytes, behind the length and the letter
abbrev pub message_at : ℕ → List ℕ → List ℕ
message_at number bytes = take (taken_in number - 3) (drop 3 bytes)

unfoldable pub told_by : ℕ → List ℕ → List ℕ → List ℕ → List ℕ
told_by number handle bytes event =
    let kind = number % 65_536 in
    let r = read_of (message_at number bytes) in
    cond (eqb kind 768) (read_to r.answer r.texts event).memory
    (cond (eqb kind 256) (overlay event 0 (login_bytes (head_of handle).line.next (head_of handle).line.session))
    (cond (eqb kind 512) (overlay event 0 (bytes_be 1 (get_or bytes 3 0))) event))

-- what is asked for it: a message has passed its test, a rejected login has its reason
pub record Tellable (number : ℕ) (handle bytes event : List ℕ) : Type 0 where
  pub long : length event ≡ record_size
  pub handle-long : length handle ≡ handle_size
  pub whole : number % 65_536 ≡ 768 → (3 ≤ taken_in number) × (taken_in number ≤ length bytes)
  pub passed : number % 65_536 ≡ 768 → tested (read_of (message_at number bytes)) ≡ 0
  pub reasoned : number % 65_536 ≡ 512 → 4 ≤ length bytes

-- ---- a message, before its number is counted

-- applied to the table, with the number of the refusal, 0 for none
abbrev pub applied_as : Indexed → List ℕ → Left
applied_as o handle =
    let t = table_by o in
    left (verdict_number o.outcome.applied.verdict) (handle_bytes (with_board t.board (head_of handle)) (places_in handle)) t.memory

-- delivered: 0, or the refusal
abbrev pub tried_as : Delivered Table Said → List ℕ → Left
tried_as (done x t) handle = left 0 (handle_bytes (with_board t.board (head_of handle)) (places_in handle)) t.memory
tried_as (denied n t) handle = left n (handle_bytes (with_board t.board (head_of handle)) (places_in handle)) t.memory

-- ---- an answer that is read back by value

pub record Read : Type 0 where
  pub answer : stream.Answer (Event Said)
  pub texts : Texts

abbrev pub read_back : Heard → Read
read_back h = record { answer = answer_of h.texts h.answer; texts = h.texts }

abbrev pub beside : stream.Answer (Event Said) → Read
beside a = record { answer = a; texts = answer_texts a }

-- without texts
abbrev pub quiet_heard : StepAnswer → Heard
quiet_heard a = record { answer = a; texts = no_text }
