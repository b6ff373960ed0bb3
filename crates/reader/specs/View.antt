-- The code's values as those of the definitions.
-- Assumes nothing.
use Rattle.std.specs.Prelude.{ℕ, Bool, false, cond, List, eqb, length, take, replicate}
use Rattle.message.specs.Letters.{no_texts}
use Rattle.packet.specs.Stream as stream
use Rattle.packet.specs.Stream.{State, live, ended, refused}
use Rattle.packet.specs.Session as packets
use Rattle.packet.specs.Session.{Session, Event}
use Rattle.packet.specs.Frame.{held_size}
use Rattle.packet.specs.declared.Line.{Line}
use Rattle.table.specs.Memory.{Memories}
use Rattle.table.specs.declared.Board.{Board}
use Rattle.handle.specs.declared.Head.{Head}
use Rattle.reader.specs.Deliver.{Table, table_of, Said, said}
use Rattle.reader.specs.Refusals.{refusal_number}
use Rattle.reader.specs.declared.Texts.{Texts}
use Rattle.reader.specs.declared.Event as code
use Rattle.reader.specs.declared.Event.TheVariants as event
use Rattle.reader.specs.declared.Reader.{Reader}
use Rattle.reader.specs.declared.StepAnswer.{StepAnswer}
use Rattle.reader.specs.declared.StepAnswer.TheVariants as answer
use Rattle.reader.specs.declared.Stepped.{Stepped}

-- ---- a session: the line, and the table that its messages are about

abbrev pub session_of : Line → Board → Memories → Session Table
session_of line board memory = record { line = line; about = table_of board memory }

-- ---- texts beside an event, zeros where it has none

abbrev pub no_session : List ℕ
no_session = replicate 10 0

abbrev pub no_text : Texts
no_text = record { session = no_session; message = no_texts }

-- a login has its session, a directory the texts of its message
abbrev pub texts_of : Event Said → Texts
texts_of (packets.login n session) = record { session = session; message = no_texts }
texts_of (packets.rejected reason) = no_text
texts_of (packets.message x) = record { session = no_session; message = x.texts }
texts_of packets.heartbeat = no_text
texts_of packets.end = no_text
texts_of packets.skipped = no_text

-- the event that the code's event and the texts beside it tell
abbrev pub event_of : Texts → code.Event → Event Said
event_of texts (event.Login n) = packets.login n texts.session
event_of texts (event.Rejected reason) = packets.rejected reason
event_of texts (event.Message m) = packets.message (said m texts.message)
event_of texts event.Heartbeat = packets.heartbeat
event_of texts event.End = packets.end
event_of texts event.Skipped = packets.skipped

-- ---- a reader

-- its head, and the places of held bytes beside it
abbrev pub reader_with : Head → List ℕ → Reader
reader_with h held =
    record { line = h.line; board = h.board; ended = h.ended; refusal = h.refusal; used = h.used; held = held }

abbrev pub head_part : Reader → Head
head_part r = record { line = r.line; board = r.board; ended = r.ended; refusal = r.refusal; used = r.used }

-- Of what it holds, only what is used counts: places past the held bytes do not. A refusal of 0 is none; a handle that says that it has ended and
-- refused, which no call makes, has refused.
abbrev pub state_at : ℕ → Bool → Session Table → List ℕ → State (Session Table)
state_at refusal end s held = cond (eqb refusal 0) (cond end (ended s held) (live s held)) (refused s held end refusal)

abbrev pub held_of : Reader → List ℕ
held_of r = take r.used r.held

abbrev pub state_of : Reader → Memories → State (Session Table)
state_of r memory = state_at r.refusal r.ended (session_of r.line r.board memory) (held_of r)

-- one that holds nothing and has neither ended nor refused
abbrev pub ready_of : Line → Board → Reader
ready_of line board =
    record { line = line; board = board; ended = false; refusal = 0; used = 0; held = replicate held_size 0 }

-- ---- a call: the step of the definitions, how many bytes are held, and the texts beside

pub record Seen : Type 0 where
  pub step : stream.Stepped (Session Table) (Event Said)
  pub used : ℕ
  pub texts : Texts

abbrev pub answer_of : Texts → StepAnswer → stream.Answer (Event Said)
answer_of texts (answer.Event e) = stream.Event (event_of texts e)
answer_of texts answer.More = stream.More
answer_of texts answer.Ended = stream.Ended
answer_of texts (answer.Refused r) = stream.Refused (refusal_number r)

abbrev pub stepped_of : Stepped → Memories → stream.Stepped (Session Table) (Event Said)
stepped_of s memory =
    record { state = state_of s.reader memory; taken = s.taken; answer = answer_of s.texts s.answer }

abbrev pub seen_of : Stepped → Memories → Seen
seen_of s memory = record { step = stepped_of s memory; used = s.reader.used; texts = s.texts }

-- a call that takes nothing and leaves the handle
abbrev pub still_of : Reader → StepAnswer → Stepped
still_of r a = record { reader = r; taken = 0; answer = a; texts = no_text }

-- ---- what a state has, whichever it is

abbrev pub session_in : State (Session Table) → Session Table
session_in (live s held) = s
session_in (ended s held) = s
session_in (refused s held e n) = s

abbrev pub memory_in : State (Session Table) → Memories
memory_in st = (session_in st).about.memory

abbrev pub held_in : State (Session Table) → List ℕ
held_in (live s held) = held
held_in (ended s held) = held
held_in (refused s held e n) = held

-- ---- what a step of the definitions asks of the code's answer

abbrev pub answer_texts : stream.Answer (Event Said) → Texts
answer_texts (stream.Event e) = texts_of e
answer_texts stream.More = no_text
answer_texts stream.Ended = no_text
answer_texts (stream.Refused n) = no_text

abbrev pub seen : stream.Stepped (Session Table) (Event Said) → Seen
seen s = record { step = s; used = length (held_in s.state); texts = answer_texts s.answer }
