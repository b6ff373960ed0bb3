-- What starting and a step promise.
-- Assumes nothing.
use Rattle.std.specs.Prelude.{ℕ, ◌≡◌, Bool, false, cond, List, [], eqb}
use Rattle.field.specs.Bytes.{part, overlay}
use Rattle.packet.specs.Stream as stream
use Rattle.packet.specs.Stream.{State, live, step_of}
use Rattle.packet.specs.Session.{Session, Event, soup_bin_tcp}
use Rattle.packet.specs.Line.{fresh_line}
use Rattle.table.specs.Board as tables
use Rattle.table.specs.Memory.{Memories}
use Rattle.table.specs.Board.{Indexed, start_of}
use Rattle.reader.specs.Refusals.{refusal_number, number_in}
use Rattle.reader.specs.Deliver.{Table, Said, deliver, table_by}
use Rattle.reader.specs.View.{no_text, state_of, Seen, seen_of, seen}
use Rattle.reader.specs.Limits.{may_step}
use Rattle.reader.specs.declared.Refusal.TheVariants.{Unfit}
use Rattle.reader.specs.declared.Reader.{Reader}
use Rattle.reader.specs.declared.Stepped.{Stepped}
use Rattle.reader.specs.declared.Started.{Started}
use Rattle.std.specs.Prelude.{Err}
use Rattle.std.specs.Prelude.{Ok}
use Rattle.std.specs.Prelude.{Result}
use Rattle.table.specs.declared.Refusal.{Refusal}
use Rattle.reader.specs.declared.Refusal as reader_refusal

-- ---- A STEP

-- W-207: where its index leads a message astray, the step takes nothing and leaves the reader, and nothing stands
abbrev pub is_unfit : stream.Answer (Event Said) → Bool
is_unfit (stream.Event e) = false
is_unfit stream.More = false
is_unfit stream.Ended = false
is_unfit (stream.Refused n) = eqb n (refusal_number Unfit)

abbrev pub unmoved : State (Session Table) → stream.Stepped (Session Table) (Event Said)
unmoved st = record { state = st; taken = 0; answer = stream.Refused (refusal_number Unfit) }

abbrev pub unless_unfit : State (Session Table) → stream.Stepped (Session Table) (Event Said) → stream.Stepped (Session Table) (Event Said)
unless_unfit st x = cond (is_unfit x.answer) (unmoved st) x

-- A STEP of a state: the packet is judged, and the index heeded
unfoldable pub step_in : State (Session Table) → List ℕ → stream.Stepped (Session Table) (Event Said)
step_in st piece = unless_unfit st (step_of (soup_bin_tcp deliver) st piece)

-- refusal 20 takes nothing, and leaves the handle and all memory
abbrev pub unfit : Reader → Memories → Seen
unfit r memory = record { step = unmoved (state_of r memory); used = r.used; texts = no_text }

-- 20 comes before all else
unfoldable pub step_all : Reader → Memories → List ℕ → Seen
step_all r memory piece = cond (may_step r memory) (seen (step_in (state_of r memory) piece)) (unfit r memory)

-- THE PROMISE OF A STEP: a reader and memory were given with a piece, and an answer and memory came back
abbrev pub Stepping : Reader → Memories → List ℕ → Stepped → Memories → Type 0
Stepping r memory piece s after = seen_of s after ≡ step_all r memory piece

-- ---- THE PLACES OF HELD BYTES, where they are lent

-- where more is wanted, what was taken stands behind the bytes that are held; any other answer leaves the places
abbrev pub places_by : stream.Answer (Event Said) → List ℕ → List ℕ → List ℕ
places_by (stream.Event e) held put = held
places_by stream.More held put = put
places_by stream.Ended held put = held
places_by (stream.Refused n) held put = held

abbrev pub places_after : List ℕ → ℕ → List ℕ → Seen → List ℕ
places_after held used piece x = places_by x.step.answer held (overlay held used (part piece 0 x.step.taken))

-- ---- STARTING

-- a fresh reader with that table
abbrev pub fresh_on : Indexed → Session Table
fresh_on o = record { line = fresh_line; about = table_by o }

-- the state, how many bytes are held, and the number of the refusal, 0 for none
pub record Begun : Type 0 where
  pub state : State (Session Table)
  pub used : ℕ
  pub refusal : ℕ

abbrev pub verdict_number : Result (Unit {0}) Refusal → ℕ
verdict_number (Ok u) = 0
verdict_number (Err r) = tables.refusal_number r

abbrev pub start_number : Result (Unit {0}) reader_refusal.Refusal → ℕ
start_number a = number_in a

abbrev pub begun_of : Started → Memories → Begun
begun_of s memory =
    record { state = state_of s.reader memory; used = s.reader.used; refusal = start_number s.answer }

-- the table is started; the reader is fresh, also where that is refused
unfoldable pub start_all : Memories → Begun
start_all memory =
    let o = start_of memory in
    record { state = live (fresh_on o) []; used = 0; refusal = verdict_number o.outcome.applied.verdict }

-- THE PROMISE OF STARTING
abbrev pub Starting : Memories → Started → Memories → Type 0
Starting memory s after = begun_of s after ≡ start_all memory
