-- W-203: what a run up to a ceiling promises, by value and on memory that the host lends.
-- Assumes nothing.
use Rattle.std.specs.Prelude.{ℕ, ◌+◌, ◌*◌, ◌/◌, ◌%◌, ◌≡◌, true, cond, List, eqb, leb, length}
use Rattle.field.specs.Bytes.{overlay}
use Rattle.packet.specs.Ceiling as ceiling
use Rattle.packet.specs.Ceiling.{halted, run_by}
use Rattle.packet.specs.Session.{Session}
use Rattle.table.specs.Memory.{Memories}
use Rattle.handle.specs.Handle.{is_handle, handle_bytes, places_in}
use Rattle.reader.specs.Refusals.{refusal_number, named}
use Rattle.reader.specs.Deliver.{Table}
use Rattle.reader.specs.View.{state_of, memory_in, held_in}
use Rattle.reader.specs.Limits.{may_step}
use Rattle.reader.specs.Calls.{step_in}
use Rattle.reader.specs.Handles.{reader_in, head_in, Left, left, kind_in}
use Rattle.reader.specs.declared.Refusal.{Refusal}
use Rattle.reader.specs.declared.Refusal.TheVariants.{Unfit, HighCeiling}
use Rattle.reader.specs.declared.Reader.{Reader}
use Rattle.reader.specs.declared.Why.{Why}
use Rattle.reader.specs.declared.Why.TheVariants as why
use Rattle.reader.specs.declared.Ran.{Ran}

-- the highest ceiling
abbrev pub most_packets : ℕ
most_packets = 1_000

-- ---- A RUN, by value

-- the run of the definitions, and how many bytes are held after it
pub record SeenRun : Type 0 where
  pub run : ceiling.Ran (Session Table)
  pub used : ℕ

abbrev pub seen_run : ceiling.Ran (Session Table) → SeenRun
seen_run x = record { run = x; used = length (held_in x.state) }

abbrev pub why_of : Why → ceiling.Why
why_of why.Ended = ceiling.Ended
why_of (why.Refused r) = ceiling.Refused (refusal_number r)
why_of why.Ceiling = ceiling.Ceiling
why_of why.More = ceiling.More

abbrev pub seen_run_of : Ran → Memories → SeenRun
seen_run_of x memory =
    record {
      run = record { state = state_of x.reader memory; taken = x.taken; finished = x.finished; why = why_of x.why };
      used = x.reader.used;
    }

-- a call that is refused itself takes nothing, finishes nothing, and leaves the handle and all memory
abbrev pub refused_run : Refusal → Reader → Memories → SeenRun
refused_run x r memory = record { run = halted (state_of r memory) 0 (ceiling.Refused (refusal_number x)); used = r.used }

-- 20 comes before all else, and then 27
unfoldable pub run_all : Reader → Memories → List ℕ → ℕ → SeenRun
run_all r memory piece n =
    cond (may_step r memory)
    (cond (leb n most_packets) (seen_run (run_by step_in n (state_of r memory) piece)) (refused_run HighCeiling r memory))
    (refused_run Unfit r memory)

-- THE PROMISE OF A RUN: a reader and memory were given with a piece and a ceiling, and an answer and memory came back
abbrev pub Running : Reader → Memories → List ℕ → ℕ → Ran → Memories → Type 0
Running r memory piece n x after = seen_run_of x after ≡ run_all r memory piece n

-- ---- A RUN, on memory that the host lends

-- the second byte says why: 0 where more is wanted, 7 after an end, 8 for a refusal, whose number is the low byte, 9 at the ceiling
unfoldable pub why_number : ceiling.Why → ℕ
why_number ceiling.More = 0
why_number ceiling.Ended = 1792
why_number (ceiling.Refused n) = 2048 + n
why_number ceiling.Ceiling = 2304

-- the third and the fourth byte count the packets finished, and the upper half the bytes taken
abbrev pub ran_number : ceiling.Ran (Session Table) → ℕ
ran_number x = why_number x.why + x.finished * 65_536 + x.taken * 4_294_967_296

-- what is held stands at the front of its places, and the rest of the places stays
abbrev pub ran_to : SeenRun → List ℕ → Left
ran_to x places =
    left (ran_number x.run) (handle_bytes (head_in x.run.state x.used) (overlay places 0 (held_in x.run.state))) (memory_in x.run.state)

-- 20 for bytes that are no handle, and nothing changes
unfoldable pub run_host : List ℕ → Memories → List ℕ → ℕ → Left
run_host handle memory piece n =
    cond (is_handle handle)
    (ran_to (run_all (reader_in handle) memory piece n) (places_in handle))
    (left (why_number (ceiling.Refused (refusal_number Unfit))) handle memory)

-- THE PROMISE OF A RUN
abbrev pub HostRuns : List ℕ → Memories → List ℕ → ℕ → ℕ → List ℕ → Memories → Type 0
HostRuns handle memory piece n a handle' memory' = left a handle' memory' ≡ run_host handle memory piece n

-- THE HANDLE GOES ON AS THE READER, where the bytes are a handle
abbrev pub RunsOn : List ℕ → Memories → List ℕ → ℕ → List ℕ → Memories → Type 0
RunsOn handle memory piece n handle' memory' =
    is_handle handle ≡ true → state_of (reader_in handle') memory' ≡ (run_all (reader_in handle) memory piece n).run.state

-- ---- and read back from its number

abbrev pub run_taken_in : ℕ → ℕ
run_taken_in a = a / 4_294_967_296

abbrev pub finished_in : ℕ → ℕ
finished_in a = a / 65_536 % 65_536

unfoldable pub why_for : ℕ → ℕ → ceiling.Why
why_for kind low =
    cond (eqb kind 0) ceiling.More
    (cond (eqb kind 7) ceiling.Ended
    (cond (eqb kind 9) ceiling.Ceiling (ceiling.Refused (refusal_number (named low)))))

abbrev pub why_in : ℕ → ceiling.Why
why_in a = why_for (kind_in a) (a % 256)
