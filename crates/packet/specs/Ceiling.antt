-- W-203: steps up to a ceiling, the most packets that one call may finish. What a step does is a parameter.
-- Assumes nothing.
use Rattle.std.specs.Prelude.{ℕ, zero, suc, ◌+◌, List, drop}
use Rattle.packet.specs.Stream as stream
use Rattle.packet.specs.Stream.{Verdict, State, live, ended, refused, Answer, Stepped, step_of}

-- why a run stopped
pub data Why : Type 0 where
  Ended : Why
  Refused : ℕ → Why
  Ceiling : Why
  More : Why

-- the reader that is left, the bytes taken, the packets finished, and why it stopped
pub record Ran (S : Type 0) : Type 0 where
  pub state : State S
  pub taken : ℕ
  pub finished : ℕ
  pub why : Why

-- why no step is made at the ceiling: the reader has ended or refused, else the ceiling
abbrev pub why_at_ceiling : {S : Type 0} → State S → Why
why_at_ceiling (live s held) = Ceiling
why_at_ceiling (ended s held) = Ended
why_at_ceiling (refused s held e n) = Refused n

module _ {S : Type 0} where
  -- a run that stops, with no packet finished
  abbrev pub halted : State S → ℕ → Why → Ran S
  halted st taken why = record { state = st; taken = taken; finished = 0; why = why }

  infixl 20 ◌onward◌
  -- a run, and then one on what was not taken
  abbrev pub ◌onward◌ : Ran S → Ran S → Ran S
  r onward q = record { state = q.state; taken = r.taken + q.taken; finished = r.finished + q.finished; why = q.why }

  -- a packet was finished, and then a run
  abbrev pub further : ℕ → Ran S → Ran S
  further n q = record { state = q.state; taken = n + q.taken; finished = suc q.finished; why = q.why }

module _ {S E : Type 0} where
  -- A step was made: with an event a packet is finished, and `go` runs on what was not taken; any other answer stops. A reader that has ended or
  -- refused takes nothing in a step, and says so.
  abbrev pub ran_by : (State S → List ℕ → Ran S) → List ℕ → State S → ℕ → Answer E → Ran S
  ran_by go piece st taken (stream.Event e) = further taken (go st (drop taken piece))
  ran_by go piece st taken stream.More = halted st taken More
  ran_by go piece st taken stream.Ended = halted st taken Ended
  ran_by go piece st taken (stream.Refused n) = halted st taken (Refused n)

module _ {S E : Type 0} (step : State S → List ℕ → Stepped S E) where
  -- ---- A RUN: steps, until so many packets are finished
  unfoldable pub run_by : ℕ → State S → List ℕ → Ran S
  run_by zero st piece = halted st 0 (why_at_ceiling st)
  run_by (suc n) st piece =
      let r = step st piece in
      ran_by (run_by n) piece r.state r.taken r.answer

module _ {S E : Type 0} (judge : S → ℕ → List ℕ → Verdict S E) where
  -- by the steps of a judge
  abbrev pub run_of : ℕ → State S → List ℕ → Ran S
  run_of = run_by (step_of judge)
