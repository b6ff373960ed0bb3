-- A RUN IS READ BACK: from the number that it answers, and from the handle that it leaves.
-- Assumes nothing.
use mathlib.Core.Path.{◌≡◌, refl, sym, ap, ◌∙◌, subst}
use mathlib.Core.Logic.{◌⊎◌, inl, inr}
use mathlib.Core.Bool.{true, false}
use mathlib.Core.List.{List, [], ◌++◌}
use Prim.Native.Nat.{ℕ, ◌+◌, ◌-◌, ◌*◌, ◌/◌, ◌%◌, ◌≤◌, ◌<◌}
use native.Mathlib.Nat.{zero-add}
use native.Mathlib.Omega.{arith}
use borrow.Author.Tests.{ne_eqb, leb-true, le-leb, lt-leb}
use lib.Dec.{eqb, leb}
use lib.ListN.{length, take}
use Rattle.field.specs.Bytes.{Bytes, overlay}
use Rattle.field.proofs.Numbers.{Lent}
use Rattle.field.proofs.Parts.{part_length, overlay-length, take-overlay-end}
use Rattle.packet.specs.Frame.{Framed, short, bad_length, packet, frame, held_size}
use Rattle.packet.specs.Stream as stream
use Rattle.packet.specs.Stream.{State, live, ended, refused, accept, finish, refuse, step_judged, step_framed, step_of}
use Rattle.packet.specs.Ceiling as ceiling
use Rattle.packet.specs.Ceiling.{why_at_ceiling, run_by}
use Rattle.packet.specs.Session.{Session, Event, soup_bin_tcp}
use Rattle.packet.proofs.Rules.{both}
use Rattle.packet.proofs.Bytes.{bytes-none, bytes-append, bytes_drop}
use Rattle.packet.proofs.Frame.{short-fits}
use Rattle.packet.proofs.Ceiling.{Halts, step-says, run-most, run-says, run-keeps}
use Rattle.handle.specs.Handle.{head_size, is_handle, handle_bytes, places_in}
use Rattle.handle.proofs.Rounds.{HeadFits, handle-length}
use Rattle.handle.proofs.Laid.{laid-handle}
use Rattle.table.specs.Memory.{Memories}
use Rattle.reader.specs.Refusals.{named}
use Rattle.reader.specs.Deliver.{Table, Said, deliver}
use Rattle.reader.specs.View.{reader_with, head_part, held_of, state_of, held_in}
use Rattle.reader.specs.Limits.{may_step}
use Rattle.reader.specs.Calls.{is_unfit, step_in}
use Rattle.reader.specs.Handles.{reader_in, host_may_step, head_in, Left, left, kind_in}
use Rattle.reader.specs.Running.{most_packets, SeenRun, seen_run, why_of, refused_run, run_all, Running, why_number, ran_number, ran_to, run_host, HostRuns, RunsOn, run_taken_in, finished_in, why_for, why_in}
use Rattle.reader.specs.declared.Refusal.{Refusal}
use Rattle.reader.specs.declared.Refusal.TheVariants.{Unfit, HighCeiling}
use Rattle.reader.specs.declared.Reader.{Reader}
use Rattle.reader.specs.declared.Why.{Why}
use Rattle.reader.specs.declared.Why.TheVariants as why
use Rattle.reader.proofs.Kept.{Within, may-within, may-not}
use Rattle.reader.proofs.Views.{head_in_lem, held_in_lem, reader-back}
use Rattle.reader.proofs.Fits.{Numbered, numbered-named, numbered-low, StateFits, step_fits}
use Rattle.reader.proofs.Back.{StandsSome, Own, own-bytes, own-fits, state-back, state-head, state-some, used-in}
use Rattle.reader.proofs.Onward.{held-laid}
use Rattle.reader.proofs.Runs.{left-as-held}
use Rattle.reader.proofs.Steps.{may-handle, may-step}

-- ---- AN ANSWER IS READ BACK

-- the number of a refusal has a name, and room in a byte
abbrev pub WhyFits : ceiling.Why → Type 0
WhyFits ceiling.Ended = Unit
WhyFits (ceiling.Refused n) = Numbered n
WhyFits ceiling.Ceiling = Unit
WhyFits ceiling.More = Unit

why-low : (w : ceiling.Why) → WhyFits w → why_number w < 65_536
unfolding why_number
why-low ceiling.Ended f = omega arith
why-low (ceiling.Refused n) f = omega (arith, numbered-low n f)
why-low ceiling.Ceiling f = omega arith
why-low ceiling.More f = omega arith

module _ (finished taken : ℕ) (few : finished ≤ most_packets) where
  abbrev packed : ℕ → ℕ
  packed low = low + finished * 65_536 + taken * 4_294_967_296

  -- a low half has room below the counts
  low_half : (low : ℕ) → low < 65_536 → (run_taken_in (packed low) ≡ taken) × (finished_in (packed low) ≡ finished)
  low_half low l =
      let q : packed low / 65_536 ≡ finished + taken * 65_536 = omega (arith, l) in
      let m : (finished + taken * 65_536) % 65_536 ≡ finished = omega (arith, few) in
      (omega (arith, l, few), ap (λ (k : ℕ). k % 65_536) q ∙ m)

  kind-of : (low kind : ℕ) → low / 256 ≡ kind → kind < 256 → (kind_in (packed low) ≡ kind) × (packed low % 256 ≡ low % 256)
  kind-of low kind e l =
      let q : packed low / 256 ≡ kind + (finished * 256 + taken * 16_777_216) = omega (arith, e) in
      let m : (kind + (finished * 256 + taken * 16_777_216)) % 256 ≡ kind = omega (arith, l) in
      (ap (λ (k : ℕ). k % 256) q ∙ m, omega arith)

  why-back : (w : ceiling.Why) → WhyFits w → why_in (packed (why_number w)) ≡ w
  unfolding why_number why_for
  why-back ceiling.Ended f = ap (λ (k : ℕ). why_for k (packed 1792 % 256)) (kind-of 1792 7 refl (omega arith)).0
  why-back (ceiling.Refused n) f =
      let low : n < 256 = numbered-low n f in
      let k = kind-of (2048 + n) 8 (omega (arith, low)) (omega arith) in
      let m : (2048 + n) % 256 ≡ n = omega (arith, low) in
      (λ i. why_for (k.0 i) ((k.1 ∙ m) i)) ∙ ap ceiling.Refused (numbered-named n f)
  why-back ceiling.Ceiling f = ap (λ (k : ℕ). why_for k (packed 2304 % 256)) (kind-of 2304 9 refl (omega arith)).0
  why-back ceiling.More f = ap (λ (k : ℕ). why_for k (packed 0 % 256)) (kind-of 0 0 refl (omega arith)).0

-- what a host reads of an answer is what the answer was made of
pub record RanBack (x : ceiling.Ran (Session Table)) : Type 0 where
  pub taken : run_taken_in (ran_number x) ≡ x.taken
  pub finished : finished_in (ran_number x) ≡ x.finished
  pub why : why_in (ran_number x) ≡ x.why

pub ran-back : (x : ceiling.Ran (Session Table)) → WhyFits x.why → x.finished ≤ most_packets → RanBack x
ran-back x f few =
    let h = low_half x.finished x.taken few (why_number x.why) (why-low x.why f) in
    record { taken = h.0; finished = h.1; why = why-back x.finished x.taken few x.why f }

-- ---- WHAT A RUN LEAVES HAS ROOM IN A HANDLE

-- a state that has room in a handle, with what is held
pub record Roomy (st : State (Session Table)) : Type 0 where
  pub fits : StateFits st
  pub bytes : Bytes (held_in st)
  pub few : length (held_in st) ≤ held_size

record Held (held : List ℕ) : Type 0 where
  pub bytes : Bytes held
  pub few : length held ≤ held_size

none-held : Held []
none-held = record { bytes = bytes-none; few = omega arith }

judged-held : (n : ℕ) (v : stream.Verdict (Session Table) (Event Said)) → Held (held_in (step_judged n v).state)
judged-held n (accept e s) = none-held
judged-held n (finish e s) = none-held
judged-held n (refuse k s) = none-held

framed-held : (s : Session Table) (held piece : List ℕ) (f : Framed) → frame (held ++ piece) ≡ f → Bytes (held ++ piece)
    → Held (held_in (step_framed (soup_bin_tcp deliver) s held piece f).state)
framed-held s held piece short e b = record { bytes = b; few = omega (arith, short-fits (held ++ piece) e) }
framed-held s held piece (bad_length r) e b = none-held
framed-held s held piece (packet l body r) e b = judged-held (length piece - length r) (soup_bin_tcp deliver s l body)

step-held : (st : State (Session Table)) (piece : List ℕ) → Bytes piece → Held (held_in st) → Held (held_in (step_of (soup_bin_tcp deliver) st piece).state)
unfolding step_of
step-held (live s held) piece p h = framed-held s held piece (frame (held ++ piece)) refl (bytes-append held piece h.bytes p)
step-held (ended s held) piece p h = h
step-held (refused s held e n) piece p h = h

judged-roomy : (st : State (Session Table)) (piece : List ℕ) → Bytes piece → Roomy st → Roomy (step_of (soup_bin_tcp deliver) st piece).state
judged-roomy st piece p h =
    let k = step-held st piece p (record { bytes = h.bytes; few = h.few }) in
    record { fits = (step_fits st piece h.bytes p h.fits).state; bytes = k.bytes; few = k.few }

step-roomy : (st : State (Session Table)) (piece : List ℕ) → Bytes piece → Roomy st → Roomy (step_in st piece).state
unfolding step_in
step-roomy st piece p h =
    both (λ (y : stream.Stepped (Session Table) (Event Said)). Roomy y.state) (is_unfit (step_of (soup_bin_tcp deliver) st piece).answer)
    (λ _. h) (λ _. judged-roomy st piece p h)

-- why it stopped is numbered, for it is what the reader says, or that more is wanted, or 20
state-why : (st : State (Session Table)) → StateFits st → WhyFits (why_at_ceiling st)
state-why (live s held) h = tt
state-why (ended s held) h = tt
state-why (refused s held e n) h = h.1

judged-why : (st : State (Session Table)) (w : ceiling.Why) → (why_at_ceiling st ≡ w) ⊎ (w ≡ ceiling.More) → StateFits st → WhyFits w
judged-why st w (inl e) f = subst WhyFits e (state-why st f)
judged-why st w (inr e) f = subst WhyFits (sym e) tt

step-why : (st : State (Session Table)) (piece : List ℕ) (w : ceiling.Why) → Halts (step_in st piece).answer w → StateFits (step_in st piece).state → WhyFits w
unfolding step_in
step-why st piece w =
    let x = step_of (soup_bin_tcp deliver) st piece in
    both (λ (y : stream.Stepped (Session Table) (Event Said)). Halts y.answer w → StateFits y.state → WhyFits w) (is_unfit x.answer)
    (λ _ h f. subst WhyFits (sym h) (record { refusal = Unfit; is = refl }))
    (λ _ h f. judged-why x.state w (step-says (soup_bin_tcp deliver) st piece w h) f)

pub record RunFits (x : SeenRun) (places : List ℕ) : Type 0 where
  pub head : HeadFits (head_in x.run.state x.used)
  pub some : StandsSome x.run.state
  pub long : length places ≡ held_size
  pub holds : take x.used places ≡ held_in x.run.state
  pub why : WhyFits x.run.why
  pub finished : x.run.finished ≤ most_packets

module _ (handle : List ℕ) (table : Memories) (piece : List ℕ) (n : ℕ) (o : Own handle) (p : Bytes piece) where
  abbrev r : Reader
  r = reader_in handle

  abbrev places : List ℕ
  places = places_in handle

  abbrev st : State (Session Table)
  st = state_of r table

  abbrev Fits : SeenRun → Type 0
  Fits x = RunFits x (overlay places 0 (held_in x.run.state))

  places-long : length places ≡ held_size
  places-long = part_length handle head_size held_size (omega (arith, handle-length handle o.is))

  -- a call that is refused itself leaves all as it was
  refused-fits : (q : Refusal) → Fits (refused_run q r table)
  refused-fits q =
      let same : overlay places 0 (held_in st) ≡ places = sym (held-laid r.used places ∙ ap (overlay places 0) (sym (held_in_lem r table))) in
      record {
        head = subst HeadFits (sym (head_in_lem r table)) o.head;
        some = both StandsSome (eqb r.refusal 0) (λ _. both StandsSome r.ended (λ _. tt) (λ _. tt)) (λ e. e);
        long = ap length same ∙ places-long;
        holds = ap (take r.used) same ∙ sym (held_in_lem r table);
        why = record { refusal = q; is = refl };
        finished = omega arith;
      }

  allowed-fits : Within r table.table → n ≤ most_packets → Fits (seen_run (run_by step_in n st piece))
  allowed-fits w l =
      let x = run_by step_in n st piece in
      let held : length (held_in st) ≤ held_size = rw (held_in_lem r table) (omega (arith, short-fits (held_of r) w.short)) in
      let first : Roomy st = record { fits = own-fits handle table piece o p w; bytes = rw (held_in_lem r table) o.bytes; few = held } in
      let k : Roomy x.state = run-keeps step_in Roomy Bytes bytes_drop step-roomy n st piece p first in
      let room : 0 + length (held_in x.state) ≤ length places = omega (arith, k.few, places-long) in
      record {
        head = state-head x.state (length (held_in x.state)) k.fits k.few;
        some = state-some x.state k.fits;
        long = overlay-length places 0 (held_in x.state) room ∙ places-long;
        holds = front_of (held_in x.state) room;
        why = run-says step_in (λ st w. StateFits st → WhyFits w) state-why step-why n st piece k.fits;
        finished = omega (arith, run-most step_in n st piece, l);
      }
    where
      front_of : (held : List ℕ) → 0 + length held ≤ length places → take (length held) (overlay places 0 held) ≡ held
      front_of held room = ap (λ (m : ℕ). take m (overlay places 0 held)) (sym (zero-add (length held))) ∙ take-overlay-end places 0 held room

  pub run_fits : Fits (run_all r table piece n)
  unfolding run_all
  run_fits =
      both Fits (may_step r table)
      (λ e. both Fits (leb n most_packets) (λ f. allowed-fits (may-within r table e) (leb-true n most_packets f)) (λ _. refused-fits HighCeiling))
      (λ _. refused-fits Unfit)

-- ---- THE THEOREMS, of any handle that is bytes

module _ (handle : List ℕ) (table : Memories) (piece handle' : List ℕ) (table' : Memories) (n a : ℕ) (o : Own handle) (p : Bytes piece) (h : HostRuns handle table piece n a handle' table') where
  abbrev x : SeenRun
  x = run_all (reader_in handle) table piece n

  abbrev laid : List ℕ
  laid = overlay (places_in handle) 0 (held_in x.run.state)

  fitting : RunFits x laid
  fitting = run_fits handle table piece n o p

  ran : left a handle' table' ≡ ran_to x (places_in handle)
  unfolding run_host
  ran = rw o.is at h

  reader-ran : reader_in handle' ≡ reader_with (head_in x.run.state x.used) laid
  reader-ran = ap (λ (l : Left). reader_in l.handle) ran ∙ reader-back (head_in x.run.state x.used) laid fitting.head fitting.long

  -- A HANDLE IS LEFT
  pub handle-ran : is_handle handle' ≡ true
  handle-ran = ap (λ (l : Left). is_handle l.handle) ran ∙ laid-handle (head_in x.run.state x.used) laid fitting.head.session fitting.long

  -- THE STATE
  pub state-ran : state_of (reader_in handle') table' ≡ x.run.state
  state-ran = (λ i. state_of (reader-ran i) (ran i).memory) ∙ state-back x.run.state x.used laid fitting.some fitting.holds

  -- how many bytes are held
  pub used-ran : (reader_in handle').used ≡ x.used
  used-ran = ap (λ (q : Reader). q.used) reader-ran ∙ used-in x.run.state x.used

  -- THE ANSWER
  pub answer-ran : (run_taken_in a ≡ x.run.taken) × ((finished_in a ≡ x.run.finished) × (why_in a ≡ x.run.why))
  answer-ran =
      let k : a ≡ ran_number x.run = ap (λ (l : Left). l.number) ran in
      let b = ran-back x.run fitting.why fitting.finished in
      (ap run_taken_in k ∙ b.taken, (ap finished_in k ∙ b.finished, ap why_in k ∙ b.why))

pub runs_on : (handle : List ℕ) (table : Memories) (piece handle' : List ℕ) (table' : Memories) (n a : ℕ) → Bytes handle → Bytes piece → HostRuns handle table piece n a handle' table'
    → RunsOn handle table piece n handle' table'
runs_on handle table piece handle' table' n a b p h is = state-ran handle table piece handle' table' n a (own-bytes handle is b) p h

-- ---- THE WAYS THROUGH A RUN

module _ (handle : List ℕ) (table : Memories) (piece : List ℕ) (n : ℕ) (lent : Lent handle) where
  -- refused, and all is left
  stands : (q : Refusal) (k : ℕ) → k ≡ ran_number (refused_run q (reader_in handle) table).run → is_handle handle ≡ true
      → left k handle table ≡ ran_to (refused_run q (reader_in handle) table) (places_in handle)
  stands q k f is = ap (λ (m : ℕ). left m handle table) f ∙ left-as-held handle table is lent (ran_number (refused_run q (reader_in handle) table).run)

  pub run-unfit : host_may_step handle table ≡ false → HostRuns handle table piece n 2068 handle table
  unfolding run_host run_all why_number
  run-unfit f =
      both (λ (y : Left). left 2068 handle table ≡ y) (is_handle handle)
      (λ is.
      let whole : refused_run Unfit (reader_in handle) table ≡ run_all (reader_in handle) table piece n = rw (may-not handle table is f) in
      stands Unfit 2068 refl is ∙ ap (λ (y : SeenRun). ran_to y (places_in handle)) whole)
      (λ _. refl)

  module _ (f : host_may_step handle table ≡ true) where
    is : is_handle handle ≡ true
    is = may-handle handle table f

    pub run-high : most_packets < n → HostRuns handle table piece n 2075 handle table
    unfolding run_host run_all why_number
    run-high l = stands HighCeiling 2075 refl is ∙ (rw (is, may-step handle table f, lt-leb n most_packets l))

    pub run-allowed : n ≤ most_packets → {a : ℕ} {handle' : List ℕ} {table' : Memories}
        → left a handle' table' ≡ ran_to (seen_run (run_by step_in n (state_of (reader_in handle) table) piece)) (places_in handle)
        → HostRuns handle table piece n a handle' table'
    unfolding run_host run_all
    run-allowed l h = h ∙ (rw (is, may-step handle table f, le-leb n most_packets l))

-- ---- THE RUN BY VALUE, on bytes of its own

module _ (number : ℕ) (w : Why) where
  pub why-at : {k : ℕ} → kind_in number ≡ k → why_of w ≡ why_for k (number % 256) → why_of w ≡ why_in number
  why-at e f = rw e f

  pub why-refused : (x : Refusal) → w ≡ why.Refused x → x ≡ named (number % 256) → (kind_in number ≡ 0 → ⊥) → (kind_in number ≡ 7 → ⊥) → (kind_in number ≡ 9 → ⊥)
      → why_of w ≡ why_in number
  unfolding why_for
  why-refused x e f a b c = rw (e, f) (simp (ne_eqb (kind_in number) 0 a, ne_eqb (kind_in number) 7 b, ne_eqb (kind_in number) 9 c))

-- the lower half of an answer says why
pub low-why : (a : ℕ) → why_in (a % 65_536) ≡ why_in a
low-why a =
    let k : kind_in (a % 65_536) ≡ kind_in a = omega arith in
    let l : a % 65_536 % 256 ≡ a % 256 = omega arith in
    λ i. why_for (k i) (l i)

pub run-by-value : (r r' : Reader) (handle : List ℕ) (table : Memories) (piece handle' : List ℕ) (table' : Memories) (n a : ℕ) (w : Why) → HeadFits (head_part r) → length r.held ≡ held_size
    → Bytes handle → Bytes piece → handle ≡ handle_bytes (head_part r) r.held → HostRuns handle table piece n a handle' table'
    → why_of w ≡ why_in (a % 65_536) → r' ≡ reader_in handle'
    → Running r table piece n (record { reader = r'; taken = run_taken_in a; finished = finished_in a; why = w }) table'
run-by-value r r' handle table piece handle' table' n a w f l b p e s g k =
    let is : is_handle handle ≡ true = rw e (laid-handle (head_part r) r.held f.session l) in
    let o = own-bytes handle is b in
    let own : reader_in handle ≡ r = ap reader_in e ∙ reader-back (head_part r) r.held f l in
    let st = ap (λ (q : Reader). state_of q table') k ∙ state-ran handle table piece handle' table' n a o p s in
    let u = ap (λ (q : Reader). q.used) k ∙ used-ran handle table piece handle' table' n a o p s in
    let y = answer-ran handle table piece handle' table' n a o p s in
    let reason = g ∙ low-why a ∙ y.1.1 in
    (λ i. record { run = record { state = st i; taken = y.0 i; finished = y.1.0 i; why = reason i }; used = u i })
    ∙ ap (λ (q : Reader). run_all q table piece n) own
