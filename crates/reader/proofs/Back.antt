-- THE HANDLE GOES ON AS THE READER: what a step leaves in a handle and tells in a number and event memory is read back from them.
-- Assumes nothing.
use mathlib.Core.Path.{◌≡◌, refl, sym, ap, ◌∙◌, subst}
use mathlib.Core.Bool.{Bool, true, false}
use mathlib.Core.List.{List, ◌++◌, append_assoc}
use Prim.Native.Nat.{ℕ, ◌+◌, ◌-◌, ◌*◌, ◌/◌, ◌%◌, ◌^◌, ◌≤◌, ◌<◌}
use native.Mathlib.Omega.{arith}
use borrow.Author.Tests.{eq-eqb, eqb-false}
use lib.Dec.{eqb, lit<}
use lib.ListN.{length, take, drop, length-append}
use lib.Seq.{take_at, drop_at, length-take-le}
use Rattle.field.specs.Bytes.{part, overlay, be, bytes_be, Bytes}
use Rattle.field.proofs.Numbers.{digits-length, written, value-digits, part_bytes}
use Rattle.field.proofs.Parts.{part_length, part-all, overlay-length, take-overlay-end}
use Rattle.message.specs.declared.Texts.{Texts}
use Rattle.packet.specs.Frame.{Framed, short, bad_length, packet, frame, held_size}
use Rattle.packet.specs.Stream as stream
use Rattle.packet.specs.Stream.{State, live, ended, refused, accept, finish, refuse, step_judged, step_framed, step_of}
use Rattle.packet.specs.Session.{Session, Event, login, rejected, message, heartbeat, end, skipped, soup_bin_tcp}
use Rattle.packet.proofs.Rules.{both}
use Rattle.packet.proofs.Frame.{short-fits}
use Rattle.table.specs.Board.{fits}
use Rattle.table.proofs.Ways.{rows-fitting}
use Rattle.record.specs.Places.{record_size}
use Rattle.record.specs.Record.{record_bytes}
use Rattle.record.specs.declared.Held.{Held}
use Rattle.record.proofs.Rounds.{take_back}
use Rattle.handle.specs.Handle.{head_size, is_handle, head_of, handle_bytes, places_in}
use Rattle.handle.proofs.Rounds.{HeadFits, head-fits, handle-length}
use Rattle.handle.proofs.Laid.{laid-handle}
use Rattle.table.specs.Memory.{Memories}
use Rattle.reader.specs.Refusals.{refusal_number, named}
use Rattle.reader.specs.Deliver.{Table, Said, said, deliver}
use Rattle.reader.specs.View.{Seen, seen, no_text, session_of, reader_with, head_part, held_of, state_of, memory_in, held_in, answer_of, answer_texts}
use Rattle.reader.specs.Limits.{may_step}
use Rattle.reader.specs.Calls.{is_unfit, unmoved, step_in, step_all, unfit, Stepping, places_by, places_after}
use Rattle.reader.specs.Handles.{reader_in, head_in, login_bytes, event_number, told_number, event_memory, told_memory, taken_in, kind_in, message_in, answer_for, answer_in, gone_to, moved_by, Stepped, host_stepped, stepped_as, step_host, HostSteps, GoesOn}
use Rattle.reader.specs.Shapes.{Read, read_back, beside}
use Rattle.reader.specs.declared.told.Heard.{Heard}
use Rattle.reader.specs.declared.Reader.{Reader}
use Rattle.reader.specs.declared.Refusal.TheVariants.{Unfit}
use Rattle.reader.proofs.Ways.{some_number}
use Rattle.reader.proofs.Kept.{Within, may-within, named-number}
use Rattle.reader.proofs.Views.{head_in_lem, held_in_lem, reader-back}
use Rattle.reader.proofs.Fits.{numbered-named, numbered-low, EventFits, SessionFits, AnswerFits, StateFits, StepFits, step_fits}

-- ---- AN ANSWER IS READ BACK

pub record ReadBack (a : stream.Answer (Event Said)) (memory : List ℕ) (n : ℕ) : Type 0 where
  pub answer : answer_in (told_number a + n * 65_536) (told_memory a memory) ≡ a
  pub taken : taken_in (told_number a + n * 65_536) ≡ n

module _ (memory : List ℕ) (long : length memory ≡ record_size) (taken : ℕ) where
  -- by the kind in the second byte
  kind-as : {a : stream.Answer (Event Said)} (kind number : ℕ) (m : List ℕ) → kind_in number ≡ kind → answer_for kind (number % 256) m ≡ a → answer_in number m ≡ a
  kind-as kind number m e f = ap (λ (k : ℕ). answer_for k (number % 256) m) e ∙ f

  login-back : (n : ℕ) (session : List ℕ) → n < 256 ^ 8 → length session ≡ 10
      → (be (part (overlay memory 0 (login_bytes n session)) 0 8) ≡ n) × (part (overlay memory 0 (login_bytes n session)) 8 10 ≡ session)
  unfolding overlay part
  login-back n session f ten =
      let rest : List ℕ = drop (0 + length (login_bytes n session)) memory in
      let eight : length (bytes_be 8 n) ≡ 8 = digits-length 256 8 n in
      let e : (bytes_be 8 n ++ session) ++ rest ≡ bytes_be 8 n ++ (session ++ rest) = append_assoc (bytes_be 8 n) session rest in (
        ap (λ (x : List ℕ). be (part x 0 8)) e ∙ ap be (take_at (bytes_be 8 n) (session ++ rest) 8 eight) ∙ value-digits 256 (lit< tt) 8 n f,
        ap (λ (x : List ℕ). part x 8 10) e
            ∙ ap (λ (x : List ℕ). part x 0 10) (drop_at (bytes_be 8 n) (session ++ rest) 8 eight) ∙ take_at session rest 10 ten,
      )

  event-back : (e : Event Said) → EventFits e → ReadBack (stream.Event e) memory taken
  unfolding told_number event_number told_memory event_memory answer_for
  event-back (login n session) f =
      let b = login-back n session f.0 f.1 in
      record {
        answer = kind-as 1 (256 + taken * 65_536) (overlay memory 0 (login_bytes n session)) (omega arith) (λ i. stream.Event (login (b.0 i) (b.1 i)));
        taken = omega arith;
      }
  event-back (rejected reason) f =
      record {
        answer =
            kind-as 2 (512 + taken * 65_536) (overlay memory 0 (bytes_be 1 reason)) (omega arith)
            (ap (λ (x : ℕ). stream.Event (rejected x)) (written memory 0 1 reason (omega (arith, long)) f));
        taken = omega arith;
      }
  event-back (message x) f =
      record {
        answer =
            kind-as 3 (768 + taken * 65_536) (record_bytes x.message x.texts) (omega arith)
            (ap (λ (y : Held). message_in y.taken y.texts) (take_back x.message x.texts f.0 f.2)
            ∙ ap (λ (t : Texts). stream.Event (message (said x.message t))) f.1);
        taken = omega arith;
      }
  event-back heartbeat f = record { answer = kind-as 4 (1024 + taken * 65_536) memory (omega arith) refl; taken = omega arith }
  event-back end f = record { answer = kind-as 5 (1280 + taken * 65_536) memory (omega arith) refl; taken = omega arith }
  event-back skipped f = record { answer = kind-as 6 (1536 + taken * 65_536) memory (omega arith) refl; taken = omega arith }

  pub answer_back : (a : stream.Answer (Event Said)) → AnswerFits a → ReadBack a memory taken
  unfolding told_number told_memory answer_for
  answer_back (stream.Event e) f = event-back e f
  answer_back stream.More f = record { answer = kind-as 0 (0 + taken * 65_536) memory (omega arith) refl; taken = omega arith }
  answer_back stream.Ended f = record { answer = kind-as 7 (1792 + taken * 65_536) memory (omega arith) refl; taken = omega arith }
  answer_back (stream.Refused n) f =
      let low : n < 256 = numbered-low n f in
      let x : ℕ = 2048 + n + taken * 65_536 in
      let q : x / 256 ≡ 8 + taken * 256 = omega (arith, low) in
      let k : (8 + taken * 256) % 256 ≡ 8 = omega arith in
      let l : x % 256 ≡ n = omega (arith, low) in
      record {
        answer =
            kind-as 8 x memory (ap (λ (y : ℕ). y % 256) q ∙ k)
            (ap (λ (y : ℕ). stream.Refused (refusal_number (named y))) l ∙ ap stream.Refused (numbered-named n f));
        taken = omega (arith, low);
      }

-- ---- A STATE IS READ BACK

-- a refusal that stands is some
abbrev pub StandsSome : State (Session Table) → Type 0
StandsSome (live s held) = Unit
StandsSome (ended s held) = Unit
StandsSome (refused s held e n) = eqb n 0 ≡ false

pub state-back : (st : State (Session Table)) (used : ℕ) (places : List ℕ) → StandsSome st → take used places ≡ held_in st
    → state_of (reader_with (head_in st used) places) (memory_in st) ≡ st
state-back (live s held) used places z e = ap (live s) e
state-back (ended s held) used places z e = ap (ended s) e
state-back (refused s held over n) used places z e = rw z (ap (λ (x : List ℕ). refused s x over n) e)

pub used-in : (st : State (Session Table)) (n : ℕ) → (head_in st n).used ≡ n
used-in (live s held) n = refl
used-in (ended s held) n = refl
used-in (refused s held e k) n = refl

-- ---- the places of held bytes after a step

record Places (st : State (Session Table)) (places : List ℕ) : Type 0 where
  pub long : length places ≡ held_size
  pub few : length (held_in st) ≤ held_size
  pub holds : take (length (held_in st)) places ≡ held_in st

module _ (piece places : List ℕ) (long : length places ≡ held_size) where
  abbrev put : ℕ → ℕ → List ℕ
  put used taken = overlay places used (part piece 0 taken)

  judged-places : (n : ℕ) (v : stream.Verdict (Session Table) (Event Said)) (used : ℕ)
      → Places (step_judged n v).state (places_by (step_judged n v).answer places (put used (step_judged n v).taken))
  judged-places n (accept e s) used = record { long = long; few = omega arith; holds = refl }
  judged-places n (finish e s) used = record { long = long; few = omega arith; holds = refl }
  judged-places n (refuse m s) used = record { long = long; few = omega arith; holds = refl }

  framed-places : (s : Session Table) (held : List ℕ) (f : Framed) → frame (held ++ piece) ≡ f → take (length held) places ≡ held
      → (let x = step_framed (soup_bin_tcp deliver) s held piece f in Places x.state (places_by x.answer places (put (length held) x.taken)))
  framed-places s held short e h =
      let n : length (held ++ piece) ≡ length held + length piece = length-append held piece in
      let room : length held + length piece ≤ length places = omega (arith, n, long, short-fits (held ++ piece) e) in
      rw (part-all piece) (record {
        long = overlay-length places (length held) piece room ∙ long;
        few = omega (arith, n, room, long);
        holds =
            ap (λ (m : ℕ). take m (overlay places (length held) piece)) n ∙ take-overlay-end places (length held) piece room
            ∙ ap (λ (x : List ℕ). x ++ piece) h;
      })
  framed-places s held (bad_length r) e h = record { long = long; few = omega arith; holds = refl }
  framed-places s held (packet l b r) e h = judged-places (length piece - length r) (soup_bin_tcp deliver s l b) (length held)

  step-places : (st : State (Session Table)) → length (held_in st) ≤ held_size → take (length (held_in st)) places ≡ held_in st
      → (let x = step_of (soup_bin_tcp deliver) st piece in Places x.state (places_by x.answer places (put (length (held_in st)) x.taken)))
  unfolding step_of
  step-places (live s held) l h = framed-places s held (frame (held ++ piece)) refl h
  step-places (ended s held) l h = record { long = long; few = l; holds = h }
  step-places (refused s held e n) l h = record { long = long; few = l; holds = h }

-- ---- WHAT A STEP OF A HANDLE LEAVES

-- it has room in a handle, and is some state's
pub record Fitting (x : Seen) (places : List ℕ) : Type 0 where
  pub head : HeadFits (head_in x.step.state x.used)
  pub answer : AnswerFits x.step.answer
  pub some : StandsSome x.step.state
  pub long : length places ≡ held_size
  pub holds : take x.used places ≡ held_in x.step.state

session-head : (s : Session Table) → SessionFits s → (e : Bool) (n used : ℕ) → n < 256 → used ≤ held_size
    → HeadFits (record { line = s.line; board = s.about.board; ended = e; refusal = n; used = used })
session-head s h e n used low few =
    record {
      session = h.ten;
      next = omega (arith, h.most);
      live = h.board.live;
      rows = omega (arith, h.board.rows);
      used = omega arith;
      refusal = omega arith;
      event = h.board.event;
    }

pub state-head : (st : State (Session Table)) (used : ℕ) → StateFits st → used ≤ held_size → HeadFits (head_in st used)
state-head (live s held) used f few = session-head s f false 0 used (lit< tt) few
state-head (ended s held) used f few = session-head s f true 0 used (lit< tt) few
state-head (refused s held e n) used f few = session-head s f.0 e n used (numbered-low n f.1) few

pub state-some : (st : State (Session Table)) → StateFits st → StandsSome st
state-some (live s held) f = tt
state-some (ended s held) f = tt
state-some (refused s held e n) f = ap (λ (k : ℕ). eqb k 0) (sym f.1.is) ∙ some_number f.1.refusal

-- what is asked of a handle: its head has room in its fields, and what it holds are bytes
pub record Own (handle : List ℕ) : Type 0 where
  pub is : is_handle handle ≡ true
  pub head : HeadFits (head_of handle)
  pub bytes : Bytes (held_of (reader_in handle))

-- as of every handle that is bytes
pub own-bytes : (handle : List ℕ) → is_handle handle ≡ true → Bytes handle → Own handle
unfolding part
own-bytes handle is b =
    record {
      is = is;
      head = head-fits handle (handle-length handle is) b;
      bytes = part_bytes (places_in handle) 0 (head_of handle).used (part_bytes handle head_size held_size b);
    }

module _ (handle : List ℕ) (table : Memories) (piece : List ℕ) (o : Own handle) where
  abbrev r : Reader
  r = reader_in handle

  abbrev places : List ℕ
  places = places_in handle

  abbrev st : State (Session Table)
  st = state_of r table

  places-long : length places ≡ held_size
  places-long = part_length handle head_size held_size (omega (arith, handle-length handle o.is))

  -- refusal 20 leaves all as it was
  unfit-fits : Fitting (unfit r table) places
  unfit-fits =
      record {
        head = subst HeadFits (sym (head_in_lem r table)) o.head;
        answer = record { refusal = Unfit; is = refl };
        some = both StandsSome (eqb r.refusal 0) (λ _. both StandsSome r.ended (λ _. tt) (λ _. tt)) (λ e. e);
        long = places-long;
        holds = sym (held_in_lem r table);
      }

  module _ (p : Bytes piece) (w : Within r table.table) where
    own-session : SessionFits (session_of r.line r.board table)
    unfolding fits
    own-session =
        record {
          ten = o.head.session;
          some = w.some;
          most = w.most;
          board = record { rows = (rows-fitting r.board.rows table.table w.fitted).1; live = o.head.live; event = o.head.event };
        }

    pub own-fits : StateFits st
    own-fits =
        both StateFits (eqb r.refusal 0) (λ _. both StateFits r.ended (λ _. own-session) (λ _. own-session))
        (λ e. (own-session, record { refusal = named r.refusal; is = named-number r.refusal w.stands (eqb-false r.refusal 0 e) }))

    own-used : length (held_in st) ≡ r.used
    own-used = ap length (held_in_lem r table) ∙ length-take-le r.used places (omega (arith, places-long, w.start))

    step-has : StepFits (step_of (soup_bin_tcp deliver) st piece)
    step-has = step_fits st piece (rw (held_in_lem r table) o.bytes) p own-fits

    pub goes-fits-state : StateFits (step_in st piece).state
    unfolding step_in
    goes-fits-state =
        let x = step_of (soup_bin_tcp deliver) st piece in
        both (λ (y : stream.Stepped (Session Table) (Event Said)). StateFits y.state) (is_unfit x.answer) (λ _. own-fits) (λ _. step-has.state)

    abbrev FitsThere : stream.Stepped (Session Table) (Event Said) → Type 0
    FitsThere y = Fitting (seen y) (places_after places r.used piece (seen y))

    -- a step that is judged, and one that leaves all as it was
    judged-fits : FitsThere (step_of (soup_bin_tcp deliver) st piece)
    judged-fits =
        let x = step_of (soup_bin_tcp deliver) st piece in
        let q : Places x.state (places_by x.answer places (overlay places r.used (part piece 0 x.taken)))
        = subst (λ (n : ℕ). Places x.state (places_by x.answer places (overlay places n (part piece 0 x.taken)))) own-used
        (step-places piece places places-long st (omega (arith, own-used, w.start)) (ap (λ (n : ℕ). take n places) own-used ∙ sym (held_in_lem r table))) in
        record {
          head = state-head x.state (length (held_in x.state)) step-has.state q.few;
          answer = step-has.answer;
          some = state-some x.state step-has.state;
          long = q.long;
          holds = q.holds;
        }

    unmoved-fits : FitsThere (unmoved st)
    unmoved-fits = subst (λ (n : ℕ). Fitting (record { step = unmoved st; used = n; texts = no_text }) places) (sym own-used) unfit-fits

    goes-fits : FitsThere (step_in st piece)
    unfolding step_in
    goes-fits =
        both FitsThere (is_unfit (step_of (soup_bin_tcp deliver) st piece).answer) (λ _. unmoved-fits) (λ _. judged-fits)

  -- THEOREM
  pub all-fits : Bytes piece → (let x = step_all r table piece in Fitting x (places_after places r.used piece x))
  unfolding step_all
  all-fits p =
      both (λ (x : Seen). Fitting x (places_after places r.used piece x)) (may_step r table)
      (λ e. goes-fits p (may-within r table e)) (λ _. unfit-fits)

-- ---- THE THEOREMS

module _ (handle : List ℕ) (table : Memories) (piece event handle' : List ℕ) (table' : Memories) (event' : List ℕ) (a : ℕ) (o : Own handle) (p : Bytes piece)
    (h : HostSteps handle table piece event a handle' table' event') (long : length event ≡ record_size) where
  abbrev x : Seen
  x = step_all (reader_in handle) table piece

  abbrev left : List ℕ
  left = places_after (places_in handle) (head_of handle).used piece x

  fitting : Fitting x left
  fitting = all-fits handle table piece o p

  stepped : host_stepped a handle' table' event' ≡ stepped_as (gone_to x left) event
  unfolding step_host moved_by
  stepped = rw (eq-eqb (length event) record_size long, o.is) at h

  reader-on : reader_in handle' ≡ reader_with (head_in x.step.state x.used) left
  reader-on =
      ap (λ (s : Stepped). reader_in s.handle) stepped ∙ reader-back (head_in x.step.state x.used) left fitting.head fitting.long

  -- A HANDLE IS LEFT
  pub handle-on : is_handle handle' ≡ true
  handle-on =
      ap (λ (s : Stepped). is_handle s.handle) stepped
      ∙ laid-handle (head_in x.step.state x.used) left fitting.head.session fitting.long

  -- THE STATE
  pub state-on : state_of (reader_in handle') table' ≡ x.step.state
  state-on =
      (λ i. state_of (reader-on i) (stepped i).memory) ∙ state-back x.step.state x.used left fitting.some fitting.holds

  -- how many bytes are held
  pub used-on : (reader_in handle').used ≡ x.used
  used-on = ap (λ (r : Reader). r.used) reader-on ∙ used-in x.step.state x.used

  told_back : ReadBack x.step.answer event x.step.taken
  told_back = answer_back event long x.step.taken x.step.answer fitting.answer

  -- THE ANSWER, and the count of bytes taken
  pub answer-on : answer_in a event' ≡ x.step.answer
  answer-on = (λ i. answer_in (stepped i).number (stepped i).event) ∙ told_back.answer

  pub taken-on : taken_in a ≡ x.step.taken
  taken-on = ap (λ (s : Stepped). taken_in s.number) stepped ∙ told_back.taken

pub goes_on : (handle : List ℕ) (table : Memories) (piece event handle' : List ℕ) (table' : Memories) (event' : List ℕ) (a : ℕ) → Bytes handle → Bytes piece
    → HostSteps handle table piece event a handle' table' event' → GoesOn handle table piece event handle' table'
goes_on handle table piece event handle' table' event' a b p h is long =
    state-on handle table piece event handle' table' event' a (own-bytes handle is b) p h long

-- ---- THE STEP BY VALUE, on bytes of its own

-- the texts beside an answer are its own
texts-of : (r : Reader) (table : Memories) (piece : List ℕ) → (step_all r table piece).texts ≡ answer_texts (step_all r table piece).step.answer
unfolding step_all
texts-of r table piece = both (λ (x : Seen). x.texts ≡ answer_texts x.step.answer) (may_step r table) (λ _. refl) (λ _. refl)

pub by_value : (r r' : Reader) (handle : List ℕ) (table : Memories) (piece event handle' : List ℕ) (table' : Memories) (event' : List ℕ) (a : ℕ) (h : Heard) → HeadFits (head_part r) → length r.held ≡ held_size
    → length event ≡ record_size → Bytes handle → Bytes piece → handle ≡ handle_bytes (head_part r) r.held
    → HostSteps handle table piece event a handle' table' event' → read_back h ≡ beside (answer_in a event') → r' ≡ reader_in handle'
    → Stepping r table piece (record { reader = r'; taken = taken_in a; answer = h.answer; texts = h.texts }) table'
by_value r r' handle table piece event handle' table' event' a h f l long b p e s g k =
    let is : is_handle handle ≡ true = rw e (laid-handle (head_part r) r.held f.session l) in
    let o = own-bytes handle is b in
    let own : reader_in handle ≡ r = ap reader_in e ∙ reader-back (head_part r) r.held f l in
    let x : Seen = step_all (reader_in handle) table piece in
    let on : answer_in a event' ≡ x.step.answer = answer-on handle table piece event handle' table' event' a o p s long in
    let st : state_of r' table' ≡ x.step.state
    = ap (λ (q : Reader). state_of q table') k ∙ state-on handle table piece event handle' table' event' a o p s long in
    let n : taken_in a ≡ x.step.taken = taken-on handle table piece event handle' table' event' a o p s long in
    let u : r'.used ≡ x.used = ap (λ (q : Reader). q.used) k ∙ used-on handle table piece event handle' table' event' a o p s long in
    let y : answer_of h.texts h.answer ≡ x.step.answer = ap (λ (q : Read). q.answer) g ∙ on in
    let t : h.texts ≡ x.texts = ap (λ (q : Read). q.texts) g ∙ ap answer_texts on ∙ sym (texts-of (reader_in handle) table piece) in
    (λ i. record { step = record { state = st i; taken = n i; answer = y i }; used = u i; texts = t i }) ∙ ap (λ (q : Reader). step_all q table piece) own
