-- A step with nothing told, and what it leaves for the next: the handle is read back, and stays within its limits after an accepted packet.
-- Assumes nothing.
use mathlib.Core.Path.{◌≡◌, refl, sym, ap, ◌∙◌, subst}
use mathlib.Core.Bool.{Bool, true, false, ◌&&◌}
use mathlib.Core.List.{List, [], ◌∷◌, ◌++◌}
use Prim.Native.Nat.{ℕ, zero, suc, ◌+◌, ◌-◌, ◌*◌, ◌/◌, ◌%◌, ◌≤◌, ◌<◌}
use native.Mathlib.Nat.{zero-add}
use native.Mathlib.Omega.{arith}
use lib.Dec.{leb}
use lib.ListN.{length, take, drop, length-append}
use lib.Seq.{length-take-le}
use Rattle.field.specs.Bytes.{Bytes, part, overlay}
use Rattle.field.proofs.Parts.{part_length, part-all, overlay-none}
use Rattle.packet.specs.Frame.{Framed, short, bad_length, packet, frame, held_size}
use Rattle.packet.specs.Stream as stream
use Rattle.packet.specs.Stream.{State, live, ended, refused, accept, finish, refuse, step_judged, step_framed, step_of}
use Rattle.packet.specs.Session.{Session, Event, login, rejected, message, heartbeat, end, skipped, soup_bin_tcp}
use Rattle.packet.proofs.Rules.{both, never}
use Rattle.packet.proofs.Frame.{short-fits}
use Rattle.packet.proofs.Step.{step-within, step-most}
use Rattle.table.specs.Memory.{Memories, table_size}
use Rattle.table.specs.Board.{fits}
use Rattle.table.proofs.Ways.{rows-fitting, fitting-rows}
use Rattle.handle.specs.Handle.{head_size, is_handle, head_of, handle_bytes, places_in}
use Rattle.handle.proofs.Rounds.{handle-length}
use Rattle.handle.proofs.Laid.{laid-handle}
use Rattle.reader.specs.Refusals.{standing}
use Rattle.reader.specs.Deliver.{Table, Said, deliver}
use Rattle.reader.specs.View.{Seen, seen, reader_with, state_of, memory_in, held_in}
use Rattle.reader.specs.Calls.{is_unfit, step_in, step_all, places_by, places_after}
use Rattle.reader.specs.Handles.{reader_in, host_may_step, head_in, Left, left, event_number, told_number, taken_in, gone_to, turned_as, moved_by}
use Rattle.reader.specs.Shapes.{tells_event}
use Rattle.reader.specs.declared.Reader.{Reader}
use Rattle.reader.proofs.Kept.{Within, may-within, may-index, steps-hold}
use Rattle.reader.proofs.Views.{held_in_lem, reader-back}
use Rattle.reader.proofs.Fits.{numbered-low, AnswerFits, StateFits}
use Rattle.reader.proofs.Back.{Own, Fitting, all-fits, goes-fits-state, state-back}
use Rattle.reader.proofs.Steps.{front-laid, may-step}

-- ---- the number of a step

-- is it an event?
abbrev pub is_event : stream.Answer (Event Said) → Bool
is_event (stream.Event e) = true
is_event stream.More = false
is_event stream.Ended = false
is_event (stream.Refused n) = false

pub record NumberBack (a : stream.Answer (Event Said)) (n : ℕ) : Type 0 where
  pub event : tells_event (told_number a + n * 65_536) ≡ is_event a
  pub taken : taken_in (told_number a + n * 65_536) ≡ n
  pub low : (told_number a + n * 65_536) % 65_536 ≡ told_number a
  pub small : told_number a < 65_536

module _ (n : ℕ) where
  number-as : (a : stream.Answer (Event Said)) (k : ℕ) → told_number a < 65_536 → told_number a / 256 ≡ k → leb 1 k && leb k 6 ≡ is_event a → NumberBack a n
  number-as a k l e f =
      let q : (told_number a + n * 65_536) / 256 ≡ k + n * 256 = omega (arith, e) in
      let m : (k + n * 256) % 256 ≡ k = omega (arith, l, e) in
      record {
        event = ap (λ (x : ℕ). leb 1 x && leb x 6) (ap (λ (x : ℕ). x % 256) q ∙ m) ∙ f;
        taken = omega (arith, l);
        low = omega (arith, l);
        small = l;
      }

  event-number : (e : Event Said) → NumberBack (stream.Event e) n
  unfolding told_number event_number
  event-number (login m session) = number-as (stream.Event (login m session)) 1 (omega arith) refl refl
  event-number (rejected reason) = number-as (stream.Event (rejected reason)) 2 (omega arith) refl refl
  event-number (message x) = number-as (stream.Event (message x)) 3 (omega arith) refl refl
  event-number heartbeat = number-as (stream.Event heartbeat) 4 (omega arith) refl refl
  event-number end = number-as (stream.Event end) 5 (omega arith) refl refl
  event-number skipped = number-as (stream.Event skipped) 6 (omega arith) refl refl

  pub number-back : (a : stream.Answer (Event Said)) → AnswerFits a → NumberBack a n
  unfolding told_number
  number-back (stream.Event e) f = event-number e
  number-back stream.More f = number-as stream.More 0 (omega arith) refl refl
  number-back stream.Ended f = number-as stream.Ended 7 (omega arith) refl refl
  number-back (stream.Refused m) f =
      let low : m < 256 = numbered-low m f in
      number-as (stream.Refused m) 8 (omega (arith, low)) (omega (arith, low)) refl

-- ---- the places of held bytes: what is held stands at their front

front-back : (n : ℕ) (l : List ℕ) → take n l ++ drop (length (take n l)) l ≡ l
front-back zero l = refl
front-back (suc n) [] = refl
front-back (suc n) (x ∷ l) = ap (λ (ys : List ℕ). x ∷ ys) (front-back n l)

pub held-laid : (used : ℕ) (places : List ℕ) → places ≡ overlay places 0 (take used places)
unfolding overlay
held-laid used places = sym (ap (λ (k : ℕ). take used places ++ drop k places) (zero-add (length (take used places))) ∙ front-back used places)

none-laid : (places : List ℕ) → places ≡ overlay places 0 []
none-laid places = sym (overlay-none places 0)

judged-laid : (n : ℕ) (v : stream.Verdict (Session Table) (Event Said)) (places put : List ℕ)
    → places_by (step_judged n v).answer places put ≡ overlay places 0 (held_in (step_judged n v).state)
judged-laid n (accept e s) places put = none-laid places
judged-laid n (finish e s) places put = none-laid places
judged-laid n (refuse k s) places put = none-laid places

module _ (places : List ℕ) (used : ℕ) (long : length places ≡ held_size) (start : used ≤ held_size) (piece : List ℕ) where
  abbrev Laid : stream.Stepped (Session Table) (Event Said) → Type 0
  Laid x = places_by x.answer places (overlay places used (part piece 0 x.taken)) ≡ overlay places 0 (held_in x.state)

  framed-laid : (s : Session Table) (f : Framed) → frame (take used places ++ piece) ≡ f → Laid (step_framed (soup_bin_tcp deliver) s (take used places) piece f)
  framed-laid s short e =
      let l : length (take used places) ≡ used = length-take-le used places (omega (arith, long, start)) in
      ap (overlay places used) (part-all piece)
      ∙ sym (front-laid places used piece (omega (arith, short-fits (take used places ++ piece) e, length-append (take used places) piece, l, long)))
  framed-laid s (bad_length r) e = none-laid places
  framed-laid s (packet l b r) e = judged-laid (length piece - length r) (soup_bin_tcp deliver s l b) places _

  judged-step-laid : (st : State (Session Table)) → held_in st ≡ take used places → Laid (step_of (soup_bin_tcp deliver) st piece)
  unfolding step_of
  judged-step-laid (live s held) e =
      subst (λ (x : List ℕ). Laid (step_framed (soup_bin_tcp deliver) s x piece (frame (x ++ piece)))) (sym e) (framed-laid s (frame (take used places ++ piece)) refl)
  judged-step-laid (ended s held) e = held-laid used places ∙ ap (overlay places 0) (sym e)
  judged-step-laid (refused s held over n) e = held-laid used places ∙ ap (overlay places 0) (sym e)

  step-laid : (st : State (Session Table)) → held_in st ≡ take used places → Laid (step_in st piece)
  unfolding step_in
  step-laid st e =
      both Laid (is_unfit (step_of (soup_bin_tcp deliver) st piece).answer) (λ _. held-laid used places ∙ ap (overlay places 0) (sym e)) (λ _. judged-step-laid st e)

-- ---- after an accepted packet nothing is held, and no refusal stands

abbrev Idle : State (Session Table) → Type 0
Idle (live s held) = held ≡ []
Idle (ended s held) = held ≡ []
Idle (refused s held e n) = ⊥

abbrev IdleAfter : stream.Stepped (Session Table) (Event Said) → Type 0
IdleAfter x = is_event x.answer ≡ true → Idle x.state

judged-idle : (n : ℕ) (v : stream.Verdict (Session Table) (Event Said)) → IdleAfter (step_judged n v)
judged-idle n (accept e s) h = refl
judged-idle n (finish e s) h = refl
judged-idle n (refuse k s) h = absurd (never h)

framed-idle : (s : Session Table) (held piece : List ℕ) (f : Framed) → IdleAfter (step_framed (soup_bin_tcp deliver) s held piece f)
framed-idle s held piece short h = absurd (never h)
framed-idle s held piece (bad_length r) h = absurd (never h)
framed-idle s held piece (packet l b r) h = judged-idle (length piece - length r) (soup_bin_tcp deliver s l b) h

judged-step-idle : (st : State (Session Table)) (piece : List ℕ) → IdleAfter (step_of (soup_bin_tcp deliver) st piece)
unfolding step_of
judged-step-idle (live s held) piece h = framed-idle s held piece (frame (held ++ piece)) h
judged-step-idle (ended s held) piece h = absurd (never h)
judged-step-idle (refused s held e n) piece h = absurd (never h)

step-idle : (st : State (Session Table)) (piece : List ℕ) → IdleAfter (step_in st piece)
unfolding step_in
step-idle st piece =
    both IdleAfter (is_unfit (step_of (soup_bin_tcp deliver) st piece).answer) (λ _ h. absurd (never h)) (λ _. judged-step-idle st piece)

-- and what has room in a handle is within its limits there
idle-within : (st : State (Session Table)) (places table : List ℕ) → Idle st → StateFits st → length table ≡ table_size
    → Within (reader_with (head_in st (length (held_in st))) places) table
unfolding fits standing frame
idle-within (live s held) places table e f l =
    let used : length held ≡ 0 = ap length e in
    record {
      fitted = fitting-rows s.about.board.rows table (l, f.board.rows);
      some = f.some;
      most = f.most;
      start = omega (arith, used);
      short = ap (λ (n : ℕ). frame (take n places)) used;
      stands = refl;
    }
idle-within (ended s held) places table e f l =
    let used : length held ≡ 0 = ap length e in
    record {
      fitted = fitting-rows s.about.board.rows table (l, f.board.rows);
      some = f.some;
      most = f.most;
      start = omega (arith, used);
      short = ap (λ (n : ℕ). frame (take n places)) used;
      stands = refl;
    }
idle-within (refused s held over n) places table e f l = absurd e

-- ---- how much a step takes: no more than there is, and no more than a packet has

module _ (st : State (Session Table)) (piece : List ℕ) where
  abbrev judged : stream.Stepped (Session Table) (Event Said)
  judged = step_of (soup_bin_tcp deliver) st piece

  pub takes-within : (step_in st piece).taken ≤ length piece
  unfolding step_in
  takes-within =
      both (λ (y : stream.Stepped (Session Table) (Event Said)). y.taken ≤ length piece) (is_unfit judged.answer)
      (λ _. omega arith) (λ _. step-within (soup_bin_tcp deliver) st piece)

  pub takes-most : (step_in st piece).taken ≤ held_size
  unfolding step_in
  takes-most =
      both (λ (y : stream.Stepped (Session Table) (Event Said)). y.taken ≤ held_size) (is_unfit judged.answer)
      (λ _. omega arith) (λ _. step-most (soup_bin_tcp deliver) st piece)

-- ---- A STEP OF A HANDLE WITHIN ITS LIMITS

module _ (handle : List ℕ) (table : Memories) (piece handle' : List ℕ) (table' : Memories) (a : ℕ) (o : Own handle) (p : Bytes piece) (w : host_may_step handle table ≡ true)
    (h : left a handle' table' ≡ turned_as (moved_by handle table piece)) where
  abbrev st : State (Session Table)
  st = state_of (reader_in handle) table

  abbrev x : stream.Stepped (Session Table) (Event Said)
  x = step_in st piece

  abbrev places : List ℕ
  places = places_in handle

  here : Within (reader_in handle) table.table
  here = may-within (reader_in handle) table (may-step handle table w)

  all : step_all (reader_in handle) table piece ≡ seen x
  unfolding step_all
  all = rw (may-step handle table w)

  places-long : length places ≡ held_size
  places-long = part_length handle head_size held_size (omega (arith, handle-length handle o.is))

  abbrev left-places : List ℕ
  left-places = places_after places (head_of handle).used piece (seen x)

  state-fits : StateFits x.state
  state-fits = goes-fits-state handle table piece o p here

  fitting : Fitting (seen x) left-places
  fitting = subst (λ (y : Seen). Fitting y (places_after places (head_of handle).used piece y)) all (all-fits handle table piece o p)

  gone : left a handle' table' ≡ turned_as (gone_to (seen x) left-places)
  unfolding moved_by
  gone = h ∙ ap (λ (y : Seen). turned_as (gone_to y (places_after places (head_of handle).used piece y))) all

  reader-turned : reader_in handle' ≡ reader_with (head_in x.state (length (held_in x.state))) left-places
  reader-turned =
      ap (λ (l : Left). reader_in l.handle) gone
      ∙ reader-back (head_in x.state (length (held_in x.state))) left-places fitting.head fitting.long

  pub turned-number : a ≡ told_number x.answer + x.taken * 65_536
  turned-number = ap (λ (l : Left). l.number) gone

  pub turned-back : NumberBack x.answer x.taken
  turned-back = number-back x.taken x.answer fitting.answer

  pub turned-handle : is_handle handle' ≡ true
  turned-handle =
      ap (λ (l : Left). is_handle l.handle) gone
      ∙ laid-handle (head_in x.state (length (held_in x.state))) left-places fitting.head.session fitting.long

  pub turned-state : state_of (reader_in handle') table' ≡ x.state
  turned-state =
      (λ i. state_of (reader-turned i) (gone i).memory) ∙ state-back x.state (length (held_in x.state)) left-places fitting.some fitting.holds

  -- the handle and the table that it leaves, with what is held at the front of its places
  pub turned-laid : (left a handle' table')
      ≡ left (told_number x.answer + x.taken * 65_536) (handle_bytes (head_in x.state (length (held_in x.state))) (overlay places 0 (held_in x.state))) (memory_in x.state)
  turned-laid =
      gone
      ∙ ap (λ (y : List ℕ). left (told_number x.answer + x.taken * 65_536) (handle_bytes (head_in x.state (length (held_in x.state))) y) (memory_in x.state))
      (step-laid places (head_of handle).used places-long here.start piece st (held_in_lem (reader_in handle) table))

  -- an accepted packet leaves the places, and a handle within its limits
  module _ (e : is_event x.answer ≡ true) where
    pub turned-within : length table'.table ≡ length table.table → length table'.index ≡ length table.index → host_may_step handle' table' ≡ true
    unfolding host_may_step fits
    turned-within l m =
        let size : length table'.table ≡ table_size = l ∙ (rows-fitting (reader_in handle).board.rows table.table here.fitted).0 in
        let y = subst (λ (r : Reader). Within r table'.table) (sym reader-turned) (idle-within x.state left-places table'.table (step-idle st piece e) state-fits size) in
        rw (turned-handle, steps-hold (reader_in handle') table' y (m ∙ may-index (reader_in handle) table (may-step handle table w)))

    pub turned-places : places_in handle' ≡ places_in handle
    turned-places = ap (λ (r : Reader). r.held) reader-turned ∙ by x.answer e
      where
        by : (y : stream.Answer (Event Said)) → is_event y ≡ true → places_by y places (overlay places (head_of handle).used (part piece 0 x.taken)) ≡ places
        by (stream.Event q) f = refl
        by stream.More f = absurd (never f)
        by stream.Ended f = absurd (never f)
        by (stream.Refused n) f = absurd (never f)
