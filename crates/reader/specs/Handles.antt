-- A step on memory that the host lends: what it answers, and every byte of handle, table, index and event memory that it leaves.
-- Assumes nothing.
use Rattle.std.specs.Prelude.{ℕ, ◌+◌, ◌*◌, ◌/◌, ◌%◌, ◌≡◌, Bool, true, false, ◌&&◌, cond, List, ◌++◌, eqb, length}
use Rattle.field.specs.Bytes.{part, overlay, be, bytes_be}
use Rattle.message.specs.declared.Texts.{Texts}
use Rattle.packet.specs.Stream as stream
use Rattle.packet.specs.Stream.{State, live, ended, refused}
use Rattle.packet.specs.Session.{Session, Event, login, rejected, message, heartbeat, end, skipped}
use Rattle.record.specs.Places.{record_size}
use Rattle.record.specs.Record.{record_bytes, record_of}
use Rattle.table.specs.Memory.{Memories}
use Rattle.handle.specs.Handle.{is_handle, head_of, handle_bytes, places_in}
use Rattle.handle.specs.declared.Head.{Head}
use Rattle.reader.specs.Refusals.{refusal_number, named}
use Rattle.reader.specs.Deliver.{Table, Said, said}
use Rattle.reader.specs.View.{Seen, reader_with, state_of, memory_in}
use Rattle.reader.specs.Limits.{within_limits, may_step}
use Rattle.reader.specs.Calls.{step_all, places_after}
use Rattle.reader.specs.declared.Refusal.TheVariants.{Unfit}
use Rattle.reader.specs.declared.Reader.{Reader}
use Rattle.std.specs.Prelude.{None}
use Rattle.std.specs.Prelude.{Option}
use Rattle.std.specs.Prelude.{Some}
use Rattle.message.specs.declared.Message.{Message}

-- ---- a handle

-- the reader that a handle's bytes are
abbrev pub reader_in : List ℕ → Reader
reader_in bs = reader_with (head_of bs) (places_in bs)

-- a handle that keeps its limits with that table memory
unfoldable pub host_within : List ℕ → List ℕ → Bool
host_within handle table = is_handle handle && within_limits (reader_in handle) table

-- and may step
unfoldable pub host_may_step : List ℕ → Memories → Bool
host_may_step handle memory = is_handle handle && may_step (reader_in handle) memory

-- the head of a reader in a state, that holds so many bytes
abbrev pub head_in : State (Session Table) → ℕ → Head
head_in (live s held) used = record { line = s.line; board = s.about.board; ended = false; refusal = 0; used = used }
head_in (ended s held) used = record { line = s.line; board = s.about.board; ended = true; refusal = 0; used = used }
head_in (refused s held e n) used = record { line = s.line; board = s.about.board; ended = e; refusal = n; used = used }

-- ---- an answer, and the handle and the memory that it leaves

pub record Left : Type 0 where
  pub number : ℕ
  pub handle : List ℕ
  pub memory : Memories

abbrev pub left : ℕ → List ℕ → Memories → Left
left number handle memory = record { number = number; handle = handle; memory = memory }

-- ---- what is told

-- the second byte of a number is the kind: 1 to 6 for events
unfoldable pub event_number : Event Said → ℕ
event_number (login n session) = 256
event_number (rejected reason) = 512
event_number (message x) = 768
event_number heartbeat = 1024
event_number end = 1280
event_number skipped = 1536

-- 0 where more is wanted, 7 after an end, 8 for a refusal
unfoldable pub told_number : stream.Answer (Event Said) → ℕ
told_number (stream.Event e) = event_number e
told_number stream.More = 0
told_number stream.Ended = 1792
told_number (stream.Refused n) = 2048 + n

-- event memory: a login's number and session; a rejected login's reason; a message's record
abbrev pub login_bytes : ℕ → List ℕ → List ℕ
login_bytes n session = bytes_be 8 n ++ session

unfoldable pub event_memory : Event Said → List ℕ → List ℕ
event_memory (login n session) memory = overlay memory 0 (login_bytes n session)
event_memory (rejected reason) memory = overlay memory 0 (bytes_be 1 reason)
event_memory (message x) memory = record_bytes x.message x.texts
event_memory heartbeat memory = memory
event_memory end memory = memory
event_memory skipped memory = memory

-- an answer that is no event leaves it
unfoldable pub told_memory : stream.Answer (Event Said) → List ℕ → List ℕ
told_memory (stream.Event e) memory = event_memory e memory
told_memory stream.More memory = memory
told_memory stream.Ended memory = memory
told_memory (stream.Refused n) memory = memory

-- ---- and read back from an answer and event memory

-- the upper half of an answer is the count of bytes taken, and its second byte the kind
abbrev pub taken_in : ℕ → ℕ
taken_in a = a / 65_536

abbrev pub kind_in : ℕ → ℕ
kind_in a = a / 256 % 256

-- the message of a record; bytes that are none tell nothing
abbrev pub message_in : Option Message → Texts → stream.Answer (Event Said)
message_in (Some m) t = stream.Event (message (said m t))
message_in None t = stream.More

-- by kind: a login's number is at 0 and its session at 8, a rejected login's reason at 0, a message is the record that the memory is; 4 to 6 have
-- nothing to say; a refusal's number is the low byte
unfoldable pub answer_for : ℕ → ℕ → List ℕ → stream.Answer (Event Said)
answer_for kind low memory =
    cond (eqb kind 0) stream.More
    (cond (eqb kind 1) (stream.Event (login (be (part memory 0 8)) (part memory 8 10)))
    (cond (eqb kind 2) (stream.Event (rejected (be (part memory 0 1))))
    (cond (eqb kind 3) (message_in (record_of memory).taken (record_of memory).texts)
    (cond (eqb kind 4) (stream.Event heartbeat)
    (cond (eqb kind 5) (stream.Event end)
    (cond (eqb kind 6) (stream.Event skipped)
    (cond (eqb kind 7) stream.Ended (stream.Refused (refusal_number (named low))))))))))

abbrev pub answer_in : ℕ → List ℕ → stream.Answer (Event Said)
answer_in a memory = answer_for (kind_in a) (a % 256) memory

-- ---- A STEP

-- a step of a handle where it lies: how many bytes were taken, the answer, and the handle and the memory that it leaves
pub record Gone : Type 0 where
  pub taken : ℕ
  pub answer : stream.Answer (Event Said)
  pub handle : List ℕ
  pub memory : Memories

abbrev pub gone_to : Seen → List ℕ → Gone
gone_to x held =
    record {
      taken = x.step.taken;
      answer = x.step.answer;
      handle = handle_bytes (head_in x.step.state x.used) held;
      memory = memory_in x.step.state;
    }

unfoldable pub moved_by : List ℕ → Memories → List ℕ → Gone
moved_by handle memory piece =
    let x = step_all (reader_in handle) memory piece in
    gone_to x (places_after (places_in handle) (head_of handle).used piece x)

-- an answer, and the handle, the memory and the event memory that it leaves
pub record Stepped : Type 0 where
  pub number : ℕ
  pub handle : List ℕ
  pub memory : Memories
  pub event : List ℕ

abbrev pub host_stepped : ℕ → List ℕ → Memories → List ℕ → Stepped
host_stepped number handle memory event = record { number = number; handle = handle; memory = memory; event = event }

-- the upper half of the number is the count of bytes taken
abbrev pub turned_as : Gone → Left
turned_as g = left (told_number g.answer + g.taken * 65_536) g.handle g.memory

abbrev pub stepped_as : Gone → List ℕ → Stepped
stepped_as g event =
    let l = turned_as g in
    host_stepped l.number l.handle l.memory (told_memory g.answer event)

-- 20 for event memory of another length and for bytes that are no handle, and nothing changes
unfoldable pub step_host : List ℕ → Memories → List ℕ → List ℕ → Stepped
step_host handle memory piece event =
    cond (eqb (length event) record_size && is_handle handle)
    (stepped_as (moved_by handle memory piece) event)
    (host_stepped (told_number (stream.Refused (refusal_number Unfit))) handle memory event)

-- THE PROMISE OF A STEP
abbrev pub HostSteps : List ℕ → Memories → List ℕ → List ℕ → ℕ → List ℕ → Memories → List ℕ → Type 0
HostSteps handle memory piece event a handle' memory' event' = host_stepped a handle' memory' event' ≡ step_host handle memory piece event

-- THE HANDLE GOES ON AS THE READER: what a step leaves of a handle is the reader that the step leaves, so that the calls of a host are
-- those of the reader
abbrev pub Follows : List ℕ → Memories → List ℕ → List ℕ → Memories → Type 0
Follows handle memory piece handle' memory' = state_of (reader_in handle') memory' ≡ (step_all (reader_in handle) memory piece).step.state

-- where the bytes are a handle, and event memory has its length
abbrev pub GoesOn : List ℕ → Memories → List ℕ → List ℕ → List ℕ → Memories → Type 0
GoesOn handle memory piece event handle' memory' = is_handle handle ≡ true → length event ≡ record_size → Follows handle memory piece handle' memory'
