-- A run on a handle where it lies: its steps one after the other, and the ways through its code.
-- Assumes nothing.
use mathlib.Core.Path.{◌≡◌, refl, sym, ap, ◌∙◌}
use mathlib.Core.Bool.{Bool, true, false, cond, not}
use mathlib.Core.List.{List}
use Prim.Native.Nat.{ℕ, suc, ◌+◌, ◌-◌, ◌*◌, ◌/◌, ◌%◌, ◌≤◌, ◌<◌}
use native.Mathlib.Nat.{zero-add}
use native.Mathlib.Omega.{arith}
use lib.Dec.{eqb}
use lib.ListN.{length, take, drop, length-drop}
use lib.Seq.{take_all, drop-drop, length-take-le}
use Rattle.field.specs.Bytes.{Bytes, overlay}
use Rattle.field.proofs.Numbers.{Lent, lent-bytes}
use Rattle.packet.specs.Frame.{held_size}
use Rattle.packet.specs.Stream as stream
use Rattle.packet.specs.Stream.{State, live, ended, refused}
use Rattle.packet.specs.Ceiling as ceiling
use Rattle.packet.specs.Ceiling.{why_at_ceiling, halted, further, run_by}
use Rattle.packet.specs.Session.{Session, Event}
use Rattle.packet.proofs.Rules.{not_call, not-not-call, never, both}
use Rattle.packet.proofs.Bytes.{bytes_drop}
use Rattle.packet.proofs.Ceiling.{Halts, run-event, run-stops}
use Rattle.handle.specs.Handle.{is_handle, head_of, handle_bytes, places_in}
use Rattle.handle.specs.declared.Head.{Head}
use Rattle.handle.proofs.Rounds.{handle-length, head-fits}
use Rattle.table.specs.Memory.{Memories}
use Rattle.reader.specs.Deliver.{Table, Said}
use Rattle.reader.specs.View.{state_of, memory_in, held_in}
use Rattle.reader.specs.Calls.{step_in}
use Rattle.reader.specs.Handles.{reader_in, host_may_step, head_in, left, told_number, taken_in, turned_as, moved_by}
use Rattle.reader.specs.Running.{seen_run, why_number, ran_to}
use Rattle.reader.specs.Shapes.{stopped_number, tells_event}
use Rattle.reader.proofs.Kept.{may-within}
use Rattle.reader.proofs.Views.{head_in_lem, memory-in, held_in_lem}
use Rattle.reader.proofs.Back.{Own, own-bytes}
use Rattle.reader.proofs.Delivered.{own, own-long}
use Rattle.reader.proofs.Steps.{may-handle, may-step}
use Rattle.reader.proofs.Onward.{is_event, NumberBack, held-laid, takes-within, takes-most, turned-number, turned-back, turned-state, turned-laid, turned-within, turned-places}

-- a run after so many bytes and packets
abbrev past : ℕ → ℕ → ceiling.Ran (Session Table) → ceiling.Ran (Session Table)
past taken finished r = record { state = r.state; taken = taken + r.taken; finished = finished + r.finished; why = r.why }

-- ---- BETWEEN TWO STEPS of a run with the ceiling n
pub record Along (n : ℕ) (handle₀ : List ℕ) (table₀ : Memories) (piece handle : List ℕ) (table : Memories) (taken finished : ℕ) : Type 0 where
  pub within : host_may_step handle table ≡ true
  pub few : finished ≤ n
  pub room : taken ≤ finished * held_size
  pub there : taken ≤ length piece
  pub places : places_in handle ≡ places_in handle₀
  pub ran : (d : ℕ) → finished + d ≡ n
      → run_by step_in n (state_of (reader_in handle₀) table₀) piece
      ≡ past taken finished (run_by step_in d (state_of (reader_in handle) table) (drop taken piece))

pub along-begins : (n : ℕ) (handle : List ℕ) (table : Memories) (piece : List ℕ) → host_may_step handle table ≡ true → Along n handle table piece handle table 0 0
along-begins n handle table piece w =
    record {
      within = w;
      few = omega arith;
      room = omega arith;
      there = omega arith;
      places = refl;
      ran = λ d e.
          let q = run_by step_in d (state_of (reader_in handle) table) piece in
          ap (λ (k : ℕ). run_by step_in k (state_of (reader_in handle) table) piece) (sym (sym (zero-add d) ∙ e))
          ∙ (λ i. record { state = q.state; taken = sym (zero-add q.taken) i; finished = sym (zero-add q.finished) i; why = q.why });
    }

-- the rest of the piece
rest-is : (piece : List ℕ) (n : ℕ) → take (length piece - n) (drop n piece) ≡ drop n piece
rest-is piece n = take_all (length piece - n) (drop n piece) (omega (arith, length-drop n piece))

-- an answer that is no event stops the run, and its number says why
why-of : (a : stream.Answer (Event Said)) → is_event a ≡ false → (w : ceiling.Why) × (Halts a w × (told_number a ≡ why_number w))
unfolding told_number why_number
why-of (stream.Event e) f = absurd (never (sym f))
why-of stream.More f = (ceiling.More, (refl, refl))
why-of stream.Ended f = (ceiling.Ended, (refl, refl))
why-of (stream.Refused n) f = (ceiling.Refused n, (refl, refl))

-- and the event of one that is
event-of : (a : stream.Answer (Event Said)) → is_event a ≡ true → (e : Event Said) × (a ≡ stream.Event e)
event-of (stream.Event e) f = (e, refl)
event-of stream.More f = absurd (never f)
event-of stream.Ended f = absurd (never f)
event-of (stream.Refused n) f = absurd (never f)

-- ---- ONE MORE STEP

module _ (n : ℕ) (handle₀ : List ℕ) (table₀ : Memories) (piece handle : List ℕ) (table : Memories) (taken finished : ℕ) (g : Along n handle₀ table₀ piece handle table taken finished)
    (b : Bytes handle) (p : Bytes piece) (more : finished < n) {a : ℕ} {handle' : List ℕ} {table' : Memories}
    (h : left a handle' table' ≡ turned_as (moved_by handle table (take (length piece - taken) (drop taken piece)))) where
  abbrev st : State (Session Table)
  st = state_of (reader_in handle) table

  abbrev rest : List ℕ
  rest = drop taken piece

  abbrev x : stream.Stepped (Session Table) (Event Said)
  x = step_in st rest

  o : Own handle
  o = own-bytes handle (may-handle handle table g.within) b

  h₁ : left a handle' table' ≡ turned_as (moved_by handle table rest)
  h₁ = h ∙ ap (λ (l : List ℕ). turned_as (moved_by handle table l)) (rest-is piece taken)

  rest-bytes : Bytes rest
  rest-bytes = bytes_drop taken piece p

  number : a ≡ told_number x.answer + x.taken * 65_536
  number = turned-number handle table rest handle' table' a o rest-bytes g.within h₁

  back : NumberBack x.answer x.taken
  back = turned-back handle table rest handle' table' a o rest-bytes g.within h₁

  pub turn-taken : taken_in a ≡ x.taken
  turn-taken = ap taken_in number ∙ back.taken

  -- it takes no more than there is, and no more than a packet has
  pub turn-there : taken + a / 65_536 ≤ length piece
  turn-there = omega (arith, turn-taken, takes-within st rest, length-drop taken piece, g.there)

  pub turn-room : taken + a / 65_536 ≤ (finished + 1) * held_size
  turn-room = omega (arith, turn-taken, takes-most st rest, g.room)

  count-on : (d : ℕ) → finished + suc d ≡ n → past taken finished (run_by step_in (suc d) st rest) ≡ run_by step_in n (state_of (reader_in handle₀) table₀) piece
  count-on d e = sym (g.ran (suc d) e)

  -- a packet was finished
  module _ {y : Bool} (q : y ≡ tells_event a) (f : not y ≡ false) where
    event : is_event x.answer ≡ true
    event = sym back.event ∙ ap tells_event (sym number) ∙ not-not-call y (tells_event a) q f

    state-on : state_of (reader_in handle') table' ≡ x.state
    state-on = turned-state handle table rest handle' table' a o rest-bytes g.within h₁

    ran_on : (d : ℕ) → finished + 1 + d ≡ n
        → run_by step_in n (state_of (reader_in handle₀) table₀) piece
        ≡ past (taken + a / 65_536) (finished + 1) (run_by step_in d (state_of (reader_in handle') table') (drop (taken + a / 65_536) piece))
    ran_on d e =
        let v = event-of x.answer event in
        let r = run_by step_in d x.state (drop x.taken rest) in
        let one : run_by step_in (suc d) st rest ≡ further x.taken r
        = run-event step_in d st rest (λ i. record { state = x.state; taken = x.taken; answer = v.1 i }) in
        let t : taken + (x.taken + r.taken) ≡ taken + a / 65_536 + r.taken = omega (arith, turn-taken) in
        let k : finished + suc r.finished ≡ finished + 1 + r.finished = omega arith in
        let rest' : drop x.taken rest ≡ drop (taken + a / 65_536) piece
        = drop-drop x.taken taken piece ∙ ap (λ (m : ℕ). drop (taken + m) piece) (sym turn-taken) in
        g.ran (suc d) (omega (arith, e))
        ∙ ap (past taken finished) one
        ∙ (λ i. record { state = r.state; taken = t i; finished = k i; why = r.why })
        ∙ ap (λ (l : List ℕ). past (taken + a / 65_536) (finished + 1) (run_by step_in d x.state l)) rest'
        ∙ ap (λ (s : State (Session Table)). past (taken + a / 65_536) (finished + 1) (run_by step_in d s (drop (taken + a / 65_536) piece))) (sym state-on)

    pub along-on : length table'.table ≡ length table.table → length table'.index ≡ length table.index → Along n handle₀ table₀ piece handle' table' (taken + a / 65_536) (finished + 1)
    along-on l m =
        record {
          within = turned-within handle table rest handle' table' a o rest-bytes g.within h₁ event l m;
          few = omega (arith, more);
          room = turn-room;
          there = turn-there;
          places = turned-places handle table rest handle' table' a o rest-bytes g.within h₁ event ∙ g.places;
          ran = ran_on;
        }

  -- the run stops
  module _ {y : Bool} (q : y ≡ tells_event a) (f : not y ≡ true) where
    none : is_event x.answer ≡ false
    none = sym back.event ∙ ap tells_event (sym number) ∙ not_call y (tells_event a) q f

    low : a % 65_536 ≡ told_number x.answer
    low = ap (λ (m : ℕ). m % 65_536) number ∙ back.low

    pub stop-low : a % 65_536 < 65_536
    stop-low = omega (arith, low, back.small)

    pub run-halts : {r : ℕ} → r ≡ a % 65_536 + finished * 65_536 + (taken + a / 65_536) * 4_294_967_296
        → left r handle' table' ≡ ran_to (seen_run (run_by step_in n (state_of (reader_in handle₀) table₀) piece)) (places_in handle₀)
    run-halts {r} e =
        let v = why-of x.answer none in
        let d : ℕ = n - finished - 1 in
        let one : run_by step_in (suc d) st rest ≡ halted x.state x.taken v.0 = run-stops step_in d st rest {a = x.answer} refl v.1.0 in
        let all : run_by step_in n (state_of (reader_in handle₀) table₀) piece ≡ past taken finished (halted x.state x.taken v.0)
        = g.ran (suc d) (omega (arith, more)) ∙ ap (past taken finished) one in
        let z : finished ≡ finished + 0 = omega arith in
        let k : r ≡ why_number v.0 + (finished + 0) * 65_536 + (taken + x.taken) * 4_294_967_296
        = e ∙ (λ i. (low ∙ v.1.1) i + z i * 65_536 + (taken + turn-taken i) * 4_294_967_296) in
        let laid = turned-laid handle table rest handle' table' a o rest-bytes g.within h₁ in
        (λ i. left (k i) (laid i).handle (laid i).memory)
        ∙ ap (λ (l : List ℕ). left (why_number v.0 + (finished + 0) * 65_536 + (taken + x.taken) * 4_294_967_296) (handle_bytes (head_in x.state (length (held_in x.state))) (overlay l 0 (held_in x.state))) (memory_in x.state)) g.places
        ∙ ap (λ (y : ceiling.Ran (Session Table)). ran_to (seen_run y) (places_in handle₀)) (sym all)

-- ---- A HANDLE THAT IS LEFT as it was

module _ (handle : List ℕ) (table : Memories) (is : is_handle handle ≡ true) (lent : Lent handle) where
  -- what is held stands at the front of its places
  pub left-as-held : (n : ℕ) → left n handle table
      ≡ left n (handle_bytes (head_in (state_of (reader_in handle) table) (head_of handle).used) (overlay (places_in handle) 0 (held_in (state_of (reader_in handle) table)))) (memory_in (state_of (reader_in handle) table))
  left-as-held n =
      let r = reader_in handle in
      let held : places_in handle ≡ overlay (places_in handle) 0 (held_in (state_of r table))
      = held-laid (head_of handle).used (places_in handle) ∙ ap (overlay (places_in handle) 0) (sym (held_in_lem r table)) in
      (λ i. left n ((own handle is lent ∙ (λ j. handle_bytes (sym (head_in_lem r table) j) (held j))) i) (sym (memory-in r table) i))

-- ---- AT THE CEILING

stopped-why : (h : Head) (s : Session Table) (held : List ℕ) (none end : Bool) → eqb h.refusal 0 ≡ none → h.ended ≡ end
    → cond none (cond end 1792 2304) (2048 + h.refusal) ≡ why_number (why_at_ceiling (cond none (cond end (ended s held) (live s held)) (refused s held h.ended h.refusal)))
unfolding why_number
stopped-why h s held true true e f = refl
stopped-why h s held true false e f = refl
stopped-why h s held false end e f = refl

module _ (n : ℕ) (handle₀ : List ℕ) (table₀ : Memories) (piece handle : List ℕ) (table : Memories) (taken finished : ℕ) (g : Along n handle₀ table₀ piece handle table taken finished)
    (lent : Lent handle) (end : n ≤ finished) where
  is : is_handle handle ≡ true
  is = may-handle handle table g.within

  held-used : (head_of handle).used ≡ length (held_in (state_of (reader_in handle) table))
  held-used =
      let w = may-within (reader_in handle) table (may-step handle table g.within) in
      sym (length-take-le (head_of handle).used (places_in handle) (omega (arith, own-long handle is, w.start))) ∙ ap length (sym (held_in_lem (reader_in handle) table))

  pub run_ends : {w r : ℕ} → w ≡ stopped_number (head_of handle) → r ≡ w + n * 65_536 + taken * 4_294_967_296
      → left r handle table ≡ ran_to (seen_run (run_by step_in n (state_of (reader_in handle₀) table₀) piece)) (places_in handle₀)
  unfolding run_by
  run_ends {w} {r} e f =
      let s : State (Session Table) = state_of (reader_in handle) table in
      let all : run_by step_in n (state_of (reader_in handle₀) table₀) piece ≡ past taken finished (halted s 0 (why_at_ceiling s))
      = g.ran 0 (omega (arith, g.few, end)) in
      let why : w ≡ why_number (why_at_ceiling s)
      = e ∙ stopped-why (head_of handle) _ _ (eqb (head_of handle).refusal 0) (head_of handle).ended refl refl in
      let z : n ≡ finished + 0 = omega (arith, g.few, end) in
      let t : taken ≡ taken + 0 = omega arith in
      let k : r ≡ why_number (why_at_ceiling s) + (finished + 0) * 65_536 + (taken + 0) * 4_294_967_296
      = f ∙ (λ i. why i + z i * 65_536 + t i * 4_294_967_296) in
      ap (λ (m : ℕ). left m handle table) k
      ∙ left-as-held handle table is lent (why_number (why_at_ceiling s) + (finished + 0) * 65_536 + (taken + 0) * 4_294_967_296)
      ∙ (λ i. left (why_number (why_at_ceiling s) + (finished + 0) * 65_536 + (taken + 0) * 4_294_967_296) (handle_bytes (head_in s (held-used i)) (overlay (g.places i) 0 (held_in s))) (memory_in s))
      ∙ ap (λ (y : ceiling.Ran (Session Table)). ran_to (seen_run y) (places_in handle₀)) (sym all)

  pub end_low : {w : ℕ} → w ≡ stopped_number (head_of handle) → w < 65_536
  end_low {w} e =
      let l : (head_of handle).refusal < 256 = omega (arith, (head-fits handle (handle-length handle is) (lent-bytes handle lent)).refusal) in
      rw e (both (λ (m : ℕ). m < 65_536) (eqb (head_of handle).refusal 0) (λ _. both (λ (m : ℕ). m < 65_536) (head_of handle).ended (λ _. omega arith) (λ _. omega arith)) (λ _. omega arith))
