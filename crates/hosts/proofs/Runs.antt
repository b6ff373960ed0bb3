-- DEMAND 3 FOR A HOST IN C, FIRST HALF: whatever pieces it gives to steps and runs, it is told the events of the reading of the uncut bytes.
-- Assumes nothing.
use mathlib.Core.Path.{◌≡◌, refl, sym, ap, ◌∙◌, subst}
use mathlib.Core.Bool.{Bool, true, false}
use mathlib.Core.List.{List, [], ◌++◌}
use mathlib.Core.Logic.{◌⊎◌, inl, inr}
use Prim.Native.Nat.{ℕ, ◌+◌, ◌-◌, ◌*◌, ◌%◌, ◌≤◌}
use native.Mathlib.Omega.{arith}
use borrow.Author.Tests.{eqb-true, eq-eqb}
use lib.Dec.{eqb}
use lib.ListN.{length, drop}
use Rattle.field.specs.Bytes.{Bytes}
use Rattle.packet.specs.Frame.{Framed, short, bad_length, packet, frame}
use Rattle.packet.specs.Stream as stream
use Rattle.packet.specs.Stream.{State, live, ended, refused, accept, finish, refuse, step_judged, step_framed, Called, Unfinished, NothingLeft, events_of, reading, step_of}
use Rattle.packet.specs.Line.{fresh_line}
use Rattle.packet.specs.Session as packets
use Rattle.packet.specs.Session.{Session, Event, soup_bin_tcp}
use Rattle.packet.proofs.Rules.{both, never}
use Rattle.packet.proofs.Frame.{short-fits}
use Rattle.packet.proofs.Step as packet-steps
use Rattle.packet.proofs.Step.{any-caller}
use Rattle.packet.proofs.Ceiling.{called_on}
use Rattle.table.specs.Memory.{Memories}
use Rattle.table.specs.Board.{start_of}
use Rattle.handle.specs.Handle.{handle_size, head_of, handle_bytes}
use Rattle.record.specs.Places.{record_size}
use Rattle.reader.specs.Refusals.{standing}
use Rattle.reader.specs.Deliver.{Table, table_by, Said, deliver}
use Rattle.reader.specs.View.{session_of, held_of, state_of, Seen, seen, held_in, ready_of}
use Rattle.reader.specs.Calls.{fresh_on, verdict_number, start_all, Starting, step_all}
use Rattle.reader.specs.declared.Started.{Started}
use Rattle.reader.specs.Handles.{reader_in, head_in, Left, left, event_number, told_number, told_memory, taken_in, kind_in, answer_for, moved_by, Stepped, host_stepped, step_host, HostSteps}
use Rattle.reader.specs.Running.{run_taken_in}
use Rattle.reader.proofs.Fits.{numbered-low, AnswerFits}
use Rattle.reader.proofs.Back.{StandsSome, Own, all-fits, handle-on, state-on, used-on, answer-on, taken-on}
use Rattle.nelqubat.specs.Host.{no_held, unheld, started_as, start_host, HostStarts}
use Rattle.demands.specs.Sound.{begin}
use Rattle.packet.proofs.Bytes.{bytes_left}
use Rattle.demands.proofs.Kept.{Kept, ours_kept, kept-ours, ours-may, unfinished-in, step_kept, AnswerStood, step-stood, unheeded}
use Rattle.demands.proofs.View.{ended_in, refusal_in, ended_of, refusal-of}
use Rattle.demands.proofs.Callers as callers
use Rattle.demands.proofs.Callers.{next-bytes}
use Rattle.hosts.specs.Events.{events_in}
use Rattle.hosts.specs.Runs.{HostCalls, stop, step, run, HostDone}
use Rattle.hosts.proofs.Laid.{HostOurs, host-own, unheld-state, unheld-ours}
use Rattle.hosts.proofs.Ceiling.{run-went, ran-called}
use Rattle.std.specs.Prelude.{Ok}

-- ---- one step

-- what a step with event memory of its length did
pub record Went (a : ℕ) (handle' : List ℕ) (memory' : Memories) (event' : List ℕ) (x : stream.Stepped (Session Table) (Event Said)) : Type 0 where
  pub ours : HostOurs handle' memory'
  pub state : state_of (reader_in handle') memory' ≡ x.state
  pub events : events_in a event' ≡ events_of x.answer
  pub taken : taken_in a ≡ x.taken

-- the low byte of an answer is the number of a refusal, or 0
event-byte : (e : Event Said) (n : ℕ) → (event_number e + n * 65_536) % 256 ≡ 0
unfolding event_number
event-byte (packets.login m session) n = omega arith
event-byte (packets.rejected reason) n = omega arith
event-byte (packets.message x) n = omega arith
event-byte packets.heartbeat n = omega arith
event-byte packets.end n = omega arith
event-byte packets.skipped n = omega arith

pub answer-20 : (a : stream.Answer (Event Said)) (n : ℕ) → AnswerFits a → (told_number a + n * 65_536) % 256 ≡ 20 → a ≡ stream.Refused 20
unfolding told_number
answer-20 (stream.Event x) n f e = absurd (omega (arith, event-byte x n))
answer-20 stream.More n f e = absurd (omega arith)
answer-20 stream.Ended n f e = absurd (omega arith)
answer-20 (stream.Refused k) n f e =
    let z : k ≡ 20 = omega (arith, numbered-low k f) in
    ap stream.Refused z

-- an answer of kind 7 or 8 leaves a reader that has ended or refused
abbrev Stops : stream.Answer (Event Said) → State (Session Table) → Type 0
Stops (stream.Event e) st = Unit
Stops stream.More st = Unit
Stops stream.Ended st = ended_in st ≡ true
Stops (stream.Refused n) st = eqb (refusal_in st) 0 ≡ false

judged-stops : (n : ℕ) (v : stream.Verdict (Session Table) (Event Said)) → StandsSome (step_judged n v).state → Stops (step_judged n v).answer (step_judged n v).state
judged-stops n (accept e s) z = tt
judged-stops n (finish e s) z = tt
judged-stops n (refuse k s) z = z

framed-stops : (s : Session Table) (held piece : List ℕ) (f : Framed)
    → (let x = step_framed (soup_bin_tcp deliver) s held piece f in StandsSome x.state → Stops x.answer x.state)
framed-stops s held piece short z = tt
framed-stops s held piece (bad_length r) z = z
framed-stops s held piece (packet l b r) z = judged-stops (length piece - length r) (soup_bin_tcp deliver s l b) z

step-stops : (st : State (Session Table)) (piece : List ℕ)
    → (let x = step_of (soup_bin_tcp deliver) st piece in StandsSome x.state → Stops x.answer x.state)
unfolding step_of
step-stops (live s held) piece z = framed-stops s held piece (frame (held ++ piece)) z
step-stops (ended s held) piece z = refl
step-stops (refused s held e n) piece z = z

event-kind : (e : Event Said) (n : ℕ) → kind_in (event_number e + n * 65_536) ≤ 6
unfolding event_number
event-kind (packets.login m session) n = omega arith
event-kind (packets.rejected reason) n = omega arith
event-kind (packets.message x) n = omega arith
event-kind packets.heartbeat n = omega arith
event-kind packets.end n = omega arith
event-kind packets.skipped n = omega arith

told-stops : (a : stream.Answer (Event Said)) (n : ℕ) (st : State (Session Table)) → 7 ≤ kind_in (told_number a + n * 65_536)
    → Stops a st → (ended_in st ≡ true) ⊎ (eqb (refusal_in st) 0 ≡ false)
unfolding told_number
told-stops (stream.Event x) n st k s = absurd (omega (arith, event-kind x n))
told-stops stream.More n st k s = absurd (omega arith)
told-stops stream.Ended n st k s = inl s
told-stops (stream.Refused m) n st k s = inr s

module _ (handle : List ℕ) (memory : Memories) (piece event : List ℕ) (o : HostOurs handle memory) (b : Bytes piece) (a : ℕ) (handle' : List ℕ)
    (memory' : Memories) (event' : List ℕ) (s : HostSteps handle memory piece event a handle' memory' event') where
  abbrev before : State (Session Table)
  before = state_of (reader_in handle) memory

  abbrev went : stream.Stepped (Session Table) (Event Said)
  went = step_of (soup_bin_tcp deliver) before piece

  own : Own handle
  own = host-own handle memory o

  kept-before : Kept before
  kept-before = ours_kept (reader_in handle) memory o.ours

  -- it is the packet's step, for its index does not lead it astray
  all : step_all (reader_in handle) memory piece ≡ seen went
  unfolding step_all
  all = (rw (ours-may (reader_in handle) memory o.ours)) ∙ ap seen (unheeded before piece b kept-before)

  kept : Kept went.state
  kept = step_kept before piece b kept-before

  some : StandsSome went.state
  some = subst (λ (x : Seen). StandsSome x.step.state) all (all-fits handle memory piece own b).some

  module _ (long : length event ≡ record_size) where
    number : a ≡ told_number went.answer + went.taken * 65_536
    unfolding step_host moved_by
    number =
        ap (λ (q : Stepped). q.number) (rw (eq-eqb (length event) record_size long, o.handle-is) at s)
        ∙ ap (λ (x : Seen). told_number x.step.answer + x.step.taken * 65_536) all

    pub step_went : Went a handle' memory' event' went
    step_went =
        let st : state_of (reader_in handle') memory' ≡ went.state
        = state-on handle memory piece event handle' memory' event' a own b s long ∙ ap (λ (x : Seen). x.step.state) all in
        let u : (reader_in handle').used ≡ length (held_in went.state)
        = used-on handle memory piece event handle' memory' event' a own b s long ∙ ap (λ (x : Seen). x.used) all in
        record {
          ours = record {
            handle-is = handle-on handle memory piece event handle' memory' event' a own b s long;
            ours =
                kept-ours (reader_in handle') memory' (subst Kept (sym st) kept)
                (omega (arith, u, short-fits (held_in went.state) kept.short));
          };
          state = st;
          events = ap events_of (answer-on handle memory piece event handle' memory' event' a own b s long ∙ ap (λ (x : Seen). x.step.answer) all);
          taken = taken-on handle memory piece event handle' memory' event' a own b s long ∙ ap (λ (x : Seen). x.step.taken) all;
        }

    -- THEOREM: a step of what is ours, with event memory of its length, is not refused as 20
    pub not-20 : a % 256 ≡ 20 → ⊥
    unfolding standing
    not-20 e =
        let fits : AnswerFits went.answer = subst (λ (x : Seen). AnswerFits x.step.answer) all (all-fits handle memory piece own b).answer in
        let z : went.answer ≡ stream.Refused 20 = answer-20 went.answer went.taken fits (ap (λ (n : ℕ). n % 256) (sym number) ∙ e) in
        let k : standing 20 ≡ true = subst AnswerStood z (step-stood before piece b kept-before) in
        never k

    -- THEOREM: IT GETS ON. By its answer, a step of a handle that has neither ended nor refused takes a byte at least of a piece that is not empty.
    pub gets-on : ((head_of handle).refusal ≡ 0) × ((head_of handle).ended ≡ false) → 1 ≤ length piece → 1 ≤ taken_in a
    gets-on alive h =
        let w : Went a handle' memory' event' went = step_went in
        let session : Session Table = session_of (head_of handle).line (head_of handle).board memory in
        let held : List ℕ = held_of (reader_in handle) in
        let e : before ≡ live session held = rw (alive.0, alive.1) in
        rw (w.taken ∙ ap (λ (x : State (Session Table)). (step_of (soup_bin_tcp deliver) x piece).taken) e)
        (packet-steps.gets-on (soup_bin_tcp deliver) session held piece o.ours.short h)

    -- THEOREM: after an answer of kind 7 or 8 no step is left to make
    pub says-done : 7 ≤ kind_in a → (rest : List ℕ) → HostDone handle' rest
    says-done k rest =
        by
        (told-stops went.answer went.taken went.state
        (subst (λ (n : ℕ). 7 ≤ kind_in n) number k) (step-stops before piece some))
      where
        w : Went a handle' memory' event' went
        w = step_went

        by : (ended_in went.state ≡ true) ⊎ (eqb (refusal_in went.state) 0 ≡ false) → HostDone handle' rest
        by (inl e) = inr (inl (sym (ended_of (reader_in handle') memory') ∙ ap ended_in w.state ∙ e))
        by (inr e) =
            inr (inr (λ z. never (sym e ∙ ap (λ (n : ℕ). eqb n 0) (sym (ap refusal_in w.state) ∙ refusal-of (reader_in handle') memory' ∙ z))))

  -- one with other event memory changes nothing, takes nothing and tells nothing
  unfit : eqb (length event) record_size ≡ false → host_stepped a handle' memory' event' ≡ host_stepped 2068 handle memory event
  unfolding step_host told_number told_memory
  unfit e = rw e at s

  pub one-ours : HostOurs handle' memory'
  one-ours = by (eqb (length event) record_size) refl
    where
      by : (y : Bool) → eqb (length event) record_size ≡ y → HostOurs handle' memory'
      by true e = (step_went (eqb-true (length event) record_size e)).ours
      by false e = subst (λ (q : Stepped). HostOurs q.handle q.memory) (sym (unfit e)) o

  abbrev Goes : List ℕ → List (Event Said) → State (Session Table) → List ℕ → Type 0
  Goes more es last rest =
      Called (soup_bin_tcp deliver) (state_of (reader_in handle') memory') (drop (taken_in a) piece ++ more) es last rest
      → Called (soup_bin_tcp deliver) before (piece ++ more) (events_in a event' ++ es) last rest

  pub one-called : (more : List ℕ) (es : List (Event Said)) (last : State (Session Table)) (rest : List ℕ) → Goes more es last rest
  unfolding answer_for
  one-called more es last rest c = by (eqb (length event) record_size) refl
    where
      by : (y : Bool) → eqb (length event) record_size ≡ y → Called (soup_bin_tcp deliver) before (piece ++ more) (events_in a event' ++ es) last rest
      by true e =
          let w = step_went (eqb-true (length event) record_size e) in
          let c₁ = subst (λ (st : State (Session Table)). Called (soup_bin_tcp deliver) st (drop (taken_in a) piece ++ more) es last rest) w.state c in
          let c₂ = subst (λ (n : ℕ). Called (soup_bin_tcp deliver) went.state (drop n piece ++ more) es last rest) w.taken c₁ in
          subst (λ (l : List (Event Said)). Called (soup_bin_tcp deliver) before (piece ++ more) (l ++ es) last rest) (sym w.events)
          (stream.call piece more c₂)
      by false e =
          subst
          (λ (q : Stepped). Called (soup_bin_tcp deliver) (state_of (reader_in q.handle) q.memory) (drop (taken_in q.number) piece ++ more) es last rest
          → Called (soup_bin_tcp deliver) before (piece ++ more) (events_in q.number q.event ++ es) last rest)
          (sym (unfit e)) (λ d. d) c

-- ---- calls

-- the steps and runs of a host are calls of the definitions
pub calls-called : {handle bs handle' rest : List ℕ} {memory memory' : Memories} {es : List (Event Said)}
    → HostCalls handle memory bs es handle' memory' rest → HostOurs handle memory → Bytes bs
    → Called (soup_bin_tcp deliver) (state_of (reader_in handle) memory) bs es (state_of (reader_in handle') memory') rest
calls-called stop o b = stream.stop
calls-called (step {handle = handle} {handle'' = handle''} {rest = rest} {memory = memory} {memory'' = memory''} {es = es} piece more event a handle' memory' event' s c) o b =
    let own = bytes_left piece more b in
    one-called handle memory piece event o own a handle' memory' event' s more es (state_of (reader_in handle'') memory'') rest
    (calls-called c (one-ours handle memory piece event o own a handle' memory' event' s) (next-bytes piece more (taken_in a) b))
calls-called (run {handle = handle} {memory = memory} piece more n a handle' memory' s c) o b =
    let own = bytes_left piece more b in
    called_on (soup_bin_tcp deliver) (ran-called handle memory piece n o own a handle' memory' s more)
    (calls-called c (run-went handle memory piece n o own a handle' memory' s).ours (next-bytes piece more (run_taken_in a) b))

-- THEOREM: what they leave is a handle within its limits, a table that keeps its rules, and an index that is true of it
pub calls-ours : {handle bs handle' rest : List ℕ} {memory memory' : Memories} {es : List (Event Said)}
    → HostCalls handle memory bs es handle' memory' rest → HostOurs handle memory → Bytes bs → HostOurs handle' memory'
calls-ours stop o b = o
calls-ours (step {handle = handle} {memory = memory} piece more event a handle' memory' event' s c) o b =
    calls-ours c (one-ours handle memory piece event o (bytes_left piece more b) a handle' memory' event' s) (next-bytes piece more (taken_in a) b)
calls-ours (run {handle = handle} {memory = memory} piece more n a handle' memory' s c) o b =
    calls-ours c (run-went handle memory piece n o (bytes_left piece more b) a handle' memory' s).ours (next-bytes piece more (run_taken_in a) b)

pub done-left : (handle : List ℕ) (memory : Memories) (rest : List ℕ) → HostDone handle rest → NothingLeft (state_of (reader_in handle) memory) rest
done-left handle memory rest d = by d
  where
    None : State (Session Table) → Type 0
    None st = NothingLeft st rest

    by : HostDone handle rest → None (state_of (reader_in handle) memory)
    by (inl e) = both None (eqb (head_of handle).refusal 0) (λ _. both None (head_of handle).ended (λ _. tt) (λ _. e)) (λ _. tt)
    by (inr (inl e)) =
        both None (eqb (head_of handle).refusal 0)
        (λ _. both None (head_of handle).ended (λ _. tt) (λ f. absurd (never (sym f ∙ e)))) (λ _. tt)
    by (inr (inr r)) = both None (eqb (head_of handle).refusal 0) (λ f. absurd (r (eqb-true (head_of handle).refusal 0 f))) (λ _. tt)

pub own-unfinished : (handle : List ℕ) (memory : Memories) → HostOurs handle memory → Unfinished (state_of (reader_in handle) memory)
own-unfinished handle memory o = unfinished-in (reader_in handle) memory o.ours

pub calls-read : {handle bs handle' rest : List ℕ} {memory memory' : Memories} {es : List (Event Said)}
    → HostCalls handle memory bs es handle' memory' rest → HostOurs handle memory → Bytes bs → HostDone handle' rest
    → reading (soup_bin_tcp deliver) (state_of (reader_in handle) memory) bs ≡ record { events = es; state = state_of (reader_in handle') memory' }
calls-read {handle = handle} {handle' = handle'} {rest = rest} {memory = memory} {memory' = memory'} c o b none =
    any-caller (soup_bin_tcp deliver) (calls-called c o b) (own-unfinished handle memory o) (done-left handle' memory' rest none)

-- ---- a handle that holds nothing

pub record Fresh (handle : List ℕ) (memory : Memories) (s : Session Table) : Type 0 where
  pub ours : HostOurs handle memory
  pub state : state_of (reader_in handle) memory ≡ live s []

pub unheld-fresh : (s : Session Table) → Kept (live s []) → (a n : ℕ) (handle : List ℕ) (memory : Memories) → left a handle memory ≡ unheld n (live s []) 0
    → Fresh handle memory s
unheld-fresh s k a n handle memory e =
    let h : handle ≡ handle_bytes (head_in (live s []) 0) no_held = ap (λ (q : Left). q.handle) e in
    let t : memory ≡ s.about.memory = ap (λ (q : Left). q.memory) e in
    record {
      ours = subst (λ (y : List ℕ). HostOurs y memory) (sym h) (subst (HostOurs (handle_bytes (head_in (live s []) 0) no_held)) (sym t) (unheld-ours s k));
      state = (λ i. state_of (reader_in (h i)) (t i)) ∙ unheld-state s k;
    }

-- ---- from a start

module _ (hm : List ℕ) (tm : Memories) (a : ℕ) (handle : List ℕ) (memory : Memories) (start : HostStarts hm tm a handle memory) (ready : a ≡ 0) where
  -- the handle's memory had its length
  start-long : left a handle memory ≡ started_as (start_all tm)
  unfolding start_host
  start-long = by (eqb (length hm) handle_size) refl
    where
      by : (y : Bool) → eqb (length hm) handle_size ≡ y → left a handle memory ≡ started_as (start_all tm)
      by true e = rw e at start
      by false e =
          let z : left a handle memory ≡ left 20 hm tm = rw e at start in
          absurd (omega (arith, ap (λ (q : Left). q.number) z))

  -- THEOREM: a handle that was started without refusal is ours, and its reader is fresh
  pub started : Fresh handle memory begin
  unfolding start_all
  started =
      let o = start_of tm in
      let after : Memories = (table_by o).memory in
      let r : Started = record { reader = ready_of fresh_line o.outcome.applied.board; answer = (Ok (tt {0})) } in
      let n : 0 ≡ verdict_number o.outcome.applied.verdict = sym ready ∙ ap (λ (q : Left). q.number) start-long in
      let h : Starting tm r after = λ i. record { state = live (fresh_on o) []; used = 0; refusal = n i } in
      let w = (callers.started tm r after h refl).0 in
      unheld-fresh begin (subst Kept w (ours_kept r.reader after (callers.start-ours tm r after h refl)))
      a (verdict_number o.outcome.applied.verdict) handle memory
      (start-long ∙ ap (λ (st : State (Session Table)). unheld (verdict_number o.outcome.applied.verdict) st 0) w)

  -- THEOREM: ANY HOST, ANY PIECES. Of a handle that was started without refusal, steps and runs with handle, table and index handed on untouched and until
  -- no byte is left or the reader has ended or refused, leave the reader, the table and the index of the reading of the uncut bytes, and its events are, in
  -- order, those that the steps tell by their answers and event memory and those of the bytes that the runs take.
  pub any-host : {bs handle' rest : List ℕ} {memory' : Memories} {es : List (Event Said)} → Bytes bs → HostCalls handle memory bs es handle' memory' rest
      → HostDone handle' rest → reading (soup_bin_tcp deliver) (live begin []) bs ≡ record { events = es; state = state_of (reader_in handle') memory' }
  any-host {bs} b c none =
      ap (λ (st : State (Session Table)). reading (soup_bin_tcp deliver) st bs) (sym started.state) ∙ calls-read c started.ours b none

  -- THEOREM: what they leave is a handle within its limits, a table that keeps its rules, and an index that is true of it, however many bytes are left
  pub rules-kept : {bs handle' rest : List ℕ} {memory' : Memories} {es : List (Event Said)} → Bytes bs → HostCalls handle memory bs es handle' memory' rest
      → HostOurs handle' memory'
  rules-kept b c = calls-ours c started.ours b
