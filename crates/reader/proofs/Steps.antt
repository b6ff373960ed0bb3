-- The ways through a step of a handle where it lies: a law for each.
-- Assumes nothing.
use mathlib.Core.Path.{◌≡◌, refl, sym, ap, ◌∙◌, subst}
use mathlib.Core.Bool.{Bool, true, false, cond, not, ◌&&◌, and-false}
use mathlib.Core.List.{List, [], ◌++◌, append_assoc}
use Prim.Native.Nat.{ℕ, ◌+◌, ◌-◌, ◌*◌, ◌≤◌}
use native.Mathlib.Omega.{arith}
use borrow.Author.Tests.{eqb-true, eqb-false, eq-eqb, ne_eqb, not-true}
use lib.Dec.{lit<, eqb}
use lib.ListN.{length, take, drop, get_or, length-append}
use lib.Seq.{length-take-le}
use Rattle.field.specs.Bytes.{Bytes, part, overlay}
use Rattle.field.proofs.Parts.{part-all}
use Rattle.field.proofs.Numbers.{Lent, lent-bytes, part_bytes}
use Rattle.packet.specs.Frame.{Framed, short, bad_length, packet, frame, front_of, held_size, room_for}
use Rattle.packet.specs.Refusals.{fault_number}
use Rattle.packet.specs.Stream as stream
use Rattle.packet.specs.Stream.{State, accept, finish, refuse, live, step_judged, step_of}
use Rattle.packet.specs.Session.{Session, Event, soup_bin_tcp}
use Rattle.packet.specs.declared.Fault.TheVariants.{BadLength}
use Rattle.packet.specs.declared.Framing.{Framing}
use Rattle.packet.specs.declared.Framing.TheVariants as front
use Rattle.packet.proofs.Frame.{short-fits, short-there, bad-there, whole-there}
use Rattle.packet.proofs.Bytes.{bytes-append}
use Rattle.packet.proofs.Rules.{both, and_both, not_call, not-not-call, never}
use Rattle.packet.proofs.Seen as found
use Rattle.packet.proofs.Seen.{step-short}
use Rattle.packet.proofs.Mend.{Copied, copied, lies-short, lies-bad, lies_whole, lies_joined, mend-short, mend-bad, mend-whole, joined_step, joined-past}
use Rattle.table.proofs.Ways.{rows-fitting}
use Rattle.table.specs.Board.{fits}
use Rattle.record.specs.Places.{record_size}
use Rattle.handle.specs.Handle.{head_size, is_handle, head_of, handle_bytes, places_in, used_field, refusal_field, with_field}
use Rattle.handle.specs.declared.Head.{Head}
use Rattle.handle.proofs.Rounds.{HeadFits, handle-length, head-fits}
use Rattle.handle.proofs.Laid.{laid-head, laid-places, laid-handle}
use Rattle.handle.proofs.Single.{with_used, used-put, refusal-put, places-put}
use Rattle.table.specs.Memory.{Memories}
use Rattle.reader.specs.Refusals.{refusal_number, named}
use Rattle.reader.specs.Deliver.{Table, Said, deliver}
use Rattle.reader.specs.View.{Seen, seen, state_of, memory_in}
use Rattle.reader.specs.Limits.{may_step}
use Rattle.reader.specs.Calls.{is_unfit, unless_unfit, step_in, unfit, step_all, places_by, places_after}
use Rattle.reader.specs.Handles.{reader_in, host_may_step, head_in, Left, left, told_number, told_memory, gone_to, turned_as, moved_by, host_stepped, step_host, HostSteps}
use Rattle.reader.specs.Shapes.{Going, Ready, Holding, lives_on, stopped_number, session_at, closed_as, step_on, gone_on, heeded_on}
use Rattle.reader.proofs.Kept.{Within, may-within, may-index, named-number, step-refused, step-ended}
use Rattle.reader.proofs.Views.{head_in_lem, memory-in}
use Rattle.reader.proofs.Delivered.{own-ten, own-long, own}

-- ---- what a step of the definitions leaves of a handle

abbrev gone_with : List ℕ → ℕ → List ℕ → stream.Stepped (Session Table) (Event Said) → Left
gone_with held used piece y = let x = seen y in turned_as (gone_to x (places_after held used piece x))

-- a packet that was judged leaves the places
judged-places : (n : ℕ) (v : stream.Verdict (Session Table) (Event Said)) (held put : List ℕ) → held ≡ places_by (step_judged n v).answer held put
judged-places n (accept e s) held put = refl
judged-places n (finish e s) held put = refl
judged-places n (refuse k s) held put = refl

-- and is counted with the bytes that it takes
count : (a n : ℕ) → (a + 0 * 65_536) + n * 65_536 ≡ a + n * 65_536
count a n = omega arith

closed-counts : (handle piece : List ℕ) (used n : ℕ) (v : stream.Verdict (Session Table) (Event Said)) {r : ℕ} {handle' : List ℕ} {table' : Memories}
    → left r handle' table' ≡ closed_as v handle
    → left (r + n * 65_536) handle' table' ≡ gone_with (places_in handle) used piece (step_judged n v)
closed-counts handle piece used n v e = ap (λ (s : Left). left (s.number + n * 65_536) s.handle s.memory) e ∙ by v
  where
    by : (v : stream.Verdict (Session Table) (Event Said))
        → (let s = closed_as v handle in left (s.number + n * 65_536) s.handle s.memory) ≡ gone_with (places_in handle) used piece (step_judged n v)
    by (accept x s) =
        let g = gone_with (places_in handle) used piece (step_judged n (accept x s)) in
        ap (λ (k : ℕ). left k g.handle g.memory) (count (told_number (stream.Event x)) n)
    by (finish x s) =
        let g = gone_with (places_in handle) used piece (step_judged n (finish x s)) in
        ap (λ (k : ℕ). left k g.handle g.memory) (count (told_number (stream.Event x)) n)
    by (refuse k s) =
        let g = gone_with (places_in handle) used piece (step_judged n (refuse k s)) in
        ap (λ (k : ℕ). left k g.handle g.memory) (count (told_number (stream.Refused k)) n)

-- a refusal tells nothing, so that heeding the index changes nothing that is told
unfit-untold : (a : stream.Answer (Event Said)) → is_unfit a ≡ true → (m : List ℕ) → told_memory a m ≡ m
unfolding told_memory
unfit-untold (stream.Event e) h m = absurd (never h)
unfit-untold stream.More h m = refl
unfit-untold stream.Ended h m = refl
unfit-untold (stream.Refused n) h m = refl

told-heeded : (st : State (Session Table)) (x : stream.Stepped (Session Table) (Event Said)) (m : List ℕ)
    → told_memory x.answer m ≡ told_memory (unless_unfit st x).answer m
unfolding told_memory
told-heeded st x m =
    both (λ (y : stream.Stepped (Session Table) (Event Said)). told_memory x.answer m ≡ told_memory y.answer m) (is_unfit x.answer)
    (λ e. unfit-untold x.answer e m) (λ _. refl)

-- ---- nothing is held

-- a piece that is no whole packet fits behind nothing
pub short-room : (bs : List ℕ) {w : Framing} → w ≡ front_of (frame bs) → w ≡ front.Short → length bs ≤ held_size
short-room bs e f = omega (arith, short-fits bs (short-there bs e f))

module _ (handle : List ℕ) (table : Memories) (g : Ready handle table) (lent : Lent handle) (piece : List ℕ) {w : Framing} (e : w ≡ front_of (frame piece)) where
  abbrev h : Head
  h = head_of handle

  abbrev held : List ℕ
  held = places_in handle

  ten : length h.line.session ≡ 10
  ten = own-ten handle g.going.handle-is

  abbrev taken_as : stream.Stepped (Session Table) (Event Said) → Left
  taken_as = gone_with held h.used piece

  pub straight-short : {handle₁ handle' : List ℕ} → w ≡ front.Short → handle₁ ≡ overlay handle head_size (part piece 0 (length piece))
      → handle' ≡ with_field used_field (length piece) handle₁ → left (length piece * 65_536) handle' table ≡ gone_on handle table piece
  unfolding told_number
  straight-short f a b =
      let there = short-there piece e f in
      let all : List ℕ = overlay held 0 (part piece 0 (length piece)) in
      let joined : take (length piece) all ≡ piece = lies_joined held piece all (own-long handle g.going.handle-is) there refl in
      let none : length piece * 65_536 ≡ 0 + length piece * 65_536 = omega arith in
      let put = used-put h all ten (places-put h held ten (own handle g.going.handle-is lent) (part piece 0 (length piece)) a) (length piece) b in
      ap (λ (x : List ℕ). left (length piece * 65_536) x table) put
      ∙ (λ i. left (none i)
      (handle_bytes (record { line = h.line; board = h.board; ended = g.going.live i; refusal = g.going.unrefused i; used = ap length (sym joined) i })
      (overlay held (sym g.unheld i) (part piece 0 (length piece)))) table)
      ∙ ap taken_as (sym (lies-short held h.used piece g.unheld (soup_bin_tcp deliver) (session_at handle table) all joined there))

  pub straight-bad : {n a : ℕ} {handle' : List ℕ} → w ≡ front.BadLength → n ≡ fault_number BadLength → a ≡ 2048 + n → handle' ≡ with_field refusal_field n handle
      → left (a + 2 * 65_536) handle' table ≡ gone_on handle table piece
  unfolding told_number
  straight-bad {n} {a} f k m b =
      let put = refusal-put h held ten (own handle g.going.handle-is lent) n b in
      ap (λ (x : List ℕ). left (a + 2 * 65_536) x table) put
      ∙ (λ i. left ((m ∙ ap (λ (x : ℕ). 2048 + x) k) i + 2 * 65_536)
      (handle_bytes (record { line = h.line; board = h.board; ended = g.going.live i; refusal = k i; used = g.unheld i }) held) table)
      ∙ ap taken_as (sym (lies-bad held h.used piece g.unheld (soup_bin_tcp deliver) (session_at handle table) (bad-there piece e f)))

  pub straight-whole : (n : ℕ) {r : ℕ} {handle' : List ℕ} {table' : Memories} → w ≡ front.Whole n
      → left r handle' table' ≡ closed_as (soup_bin_tcp deliver (session_at handle table) (get_or piece 2 0) (take (n + 2 - 3) (drop 3 piece))) handle
      → left (r + (n + 2) * 65_536) handle' table' ≡ gone_on handle table piece
  straight-whole n f a =
      closed-counts handle piece h.used (n + 2) (soup_bin_tcp deliver (session_at handle table) (get_or piece 2 0) (take (n + 2 - 3) (drop 3 piece))) a
      ∙ ap taken_as (sym (lies_whole held h.used piece g.unheld (soup_bin_tcp deliver) (session_at handle table) n (whole-there piece e f)))

-- ---- the start of a packet is held

-- what is held, and then the piece, laid over the places from the first on
pub front-laid : (held : List ℕ) (used : ℕ) (ys : List ℕ) → used + length ys ≤ length held → overlay held 0 (take used held ++ ys) ≡ overlay held used ys
unfolding overlay
front-laid held used ys h =
    let l : length (take used held) ≡ used = length-take-le used held (omega arith) in
    let m : 0 + length (take used held ++ ys) ≡ used + length ys = omega (arith, length-append (take used held) ys, l) in
    ap (λ (k : ℕ). (take used held ++ ys) ++ drop k held) m ∙ append_assoc (take used held) ys (drop (used + length ys) held)

module _ (held piece : List ℕ) (used n : ℕ) (all : List ℕ) (c : Copied held used piece n all) (s : Session Table) where
  abbrev bytes : List ℕ
  bytes = take (used + n) all

  abbrev lain : stream.Stepped (Session Table) (Event Said)
  lain = step_of (soup_bin_tcp deliver) (live s []) bytes

  abbrev cut : stream.Stepped (Session Table) (Event Said)
  cut = step_of (soup_bin_tcp deliver) (live s (take used held)) piece

  abbrev Same : Type 0
  Same = places_after held 0 bytes (seen lain) ≡ places_after held used piece (seen cut)

  judged-same : (j k : ℕ) (v : stream.Verdict (Session Table) (Event Said)) → lain ≡ step_judged j v → cut ≡ step_judged k v → Same
  judged-same j k v e f =
      ap (λ (x : stream.Stepped (Session Table) (Event Said)). places_after held 0 bytes (seen x)) e
      ∙ sym (judged-places j v held _)
      ∙ judged-places k v held _
      ∙ ap (λ (x : stream.Stepped (Session Table) (Event Said)). places_after held used piece (seen x)) (sym f)

  -- the places are left as if the packet lay in the joined bytes
  places_same : Same
  unfolding part
  places_same = by (frame bytes) refl
    where
      by : (f : Framed) → frame bytes ≡ f → Same
      by short e =
          let w : length (take n piece) ≡ n = length-take-le n piece c.room.within in
          ap (λ (x : stream.Stepped (Session Table) (Event Said)). places_after held 0 bytes (seen x)) (step-short (soup_bin_tcp deliver) s [] bytes e)
          ∙ ap (overlay held 0) (part-all bytes ∙ c.joined)
          ∙ front-laid held used (take n piece) (omega (arith, w, c.long, c.room.fits))
          ∙ ap (λ (x : stream.Stepped (Session Table) (Event Said)). places_after held used piece (seen x))
          (sym (mend-short held used piece n all c (soup_bin_tcp deliver) s e))
      by (bad_length r) e =
          let b = bad-there bytes refl (ap front_of e) in
          judged-same 2 (2 - used) (refuse (fault_number BadLength) s) (found.straight-bad (soup_bin_tcp deliver) s bytes b.two b.is)
          (mend-bad held used piece n all c (soup_bin_tcp deliver) s b)
      by (packet l body r) e =
          let w = whole-there bytes refl (ap front_of e) in
          let k = length body + 1 in
          judged-same (k + 2) (k + 2 - used) (soup_bin_tcp deliver s (get_or bytes 2 0) (take (k + 2 - 3) (drop 3 bytes)))
          (found.straight-whole (soup_bin_tcp deliver) s bytes (k + 2) (get_or bytes 2 0) (take (k + 2 - 3) (drop 3 bytes)) w.there w.is)
          (mend-whole held used piece n all c (soup_bin_tcp deliver) s k w)

  pub held_first : used ≤ lain.taken
  held_first = joined-past held used piece n all c (soup_bin_tcp deliver) s

  -- the bytes that were held are not counted again
  pub mended-as : {r : ℕ} {handle' : List ℕ} {table' : Memories} → left r handle' table' ≡ gone_with held 0 bytes lain
      → left (r - used * 65_536) handle' table' ≡ gone_with held used piece cut
  mended-as e =
      let a : ℕ = told_number lain.answer in
      let fewer-taken : (a + lain.taken * 65_536) - used * 65_536 ≡ a + (lain.taken - used) * 65_536 = omega (arith, held_first) in
      ap (λ (x : Left). left (x.number - used * 65_536) x.handle x.memory) e
      ∙ (λ i. left (fewer-taken i) (handle_bytes (head_in lain.state (seen lain).used) (places_same i)) (gone_with held 0 bytes lain).memory)
      ∙ ap (λ (y : stream.Stepped (Session Table) (Event Said)). turned_as (gone_to (seen y) (places_after held used piece (seen cut))))
      (sym (joined_step held used piece n all c (soup_bin_tcp deliver) s))

  -- and the answer is the same
  pub answer-same : lain.answer ≡ cut.answer
  answer-same =
      ap (λ (y : stream.Stepped (Session Table) (Event Said)). y.answer) (sym (joined_step held used piece n all c (soup_bin_tcp deliver) s))

-- a handle whose held bytes are taken out of it, to be read with the piece
module _ (handle : List ℕ) (table : Memories) (g : Holding handle table) (lent : Lent handle) {handle₁ : List ℕ} (b : handle₁ ≡ with_field used_field 0 handle) where
  is : is_handle handle ≡ true
  is = g.going.handle-is

  abbrev unheld : Head
  unheld = with_used 0 (head_of handle)

  unheld-laid : handle₁ ≡ handle_bytes unheld (places_in handle)
  unheld-laid = used-put (head_of handle) (places_in handle) (own-ten handle is) (own handle is lent) 0 b

  unheld-fits : HeadFits unheld
  unheld-fits =
      let f = head-fits handle (handle-length handle is) (lent-bytes handle lent) in
      record { session = f.session; next = f.next; live = f.live; rows = f.rows; used = lit< tt; refusal = f.refusal; event = f.event }

  head-unheld : head_of handle₁ ≡ unheld
  head-unheld = ap head_of unheld-laid ∙ laid-head unheld (places_in handle) unheld-fits

  places-unheld : places_in handle₁ ≡ places_in handle
  places-unheld = ap places_in unheld-laid ∙ laid-places unheld (places_in handle) (own-ten handle is) (own-long handle is)

  pub unheld-ready : Ready handle₁ table
  unheld-ready =
      record {
        going = record {
          handle-is = ap is_handle unheld-laid ∙ laid-handle unheld (places_in handle) (own-ten handle is) (own-long handle is);
          live = ap (λ (x : Head). x.ended) head-unheld ∙ g.going.live;
          unrefused = ap (λ (x : Head). x.refusal) head-unheld ∙ g.going.unrefused;
          some = rw head-unheld g.going.some;
          most = rw head-unheld g.going.most;
          fitting = rw head-unheld g.going.fitting;
        };
        unheld = ap (λ (x : Head). x.used) head-unheld;
      }

  pub unheld-rows : {rows : ℕ} → rows ≡ (head_of handle).board.rows → rows ≡ (head_of handle₁).board.rows
  unheld-rows e = e ∙ ap (λ (x : Head). x.board.rows) (sym head-unheld)

  -- and read there
  module _ (piece : List ℕ) (used n : ℕ) (all : List ℕ) (u : used ≡ (head_of handle).used) (room : n ≡ room_for used (length piece))
      (joined : all ≡ overlay (places_in handle) used (part piece 0 n)) where
    behind : Copied (places_in handle) used piece n all
    behind = copied (places_in handle) used piece n all (own-long handle is) (rw u g.start) (rw u g.short) room joined

    abbrev bytes-there : List ℕ
    bytes-there = take (used + n) all

    abbrev stepped-there : stream.Stepped (Session Table) (Event Said)
    stepped-there = step_of (soup_bin_tcp deliver) (live (session_at handle table) []) bytes-there

    step-there : step_on handle₁ table bytes-there ≡ stepped-there
    step-there = ap (λ (x : Head). step_at x (places_in handle₁)) head-unheld
      where
        step_at : Head → List ℕ → stream.Stepped (Session Table) (Event Said)
        step_at x places =
            step_of (soup_bin_tcp deliver) (live (record { line = x.line; about = record { board = x.board; memory = table } }) (take x.used places)) bytes-there

    gone-there : gone_on handle₁ table bytes-there ≡ gone_with (places_in handle) 0 bytes-there stepped-there
    gone-there =
        ap (λ (x : stream.Stepped (Session Table) (Event Said)). gone_with (places_in handle₁) (head_of handle₁).used bytes-there x) step-there
        ∙ (λ i. gone_with (places-unheld i) (head-unheld i).used bytes-there stepped-there)

    pub mended-past : {r : ℕ} {handle' : List ℕ} {table' : Memories} → left r handle' table' ≡ gone_on handle₁ table bytes-there → used * 65_536 ≤ r
    mended-past e =
        let a = told_number stepped-there.answer in
        let k = ap (λ (x : Left). x.number) (e ∙ gone-there) in
        omega (arith, k, held_first (places_in handle) piece used n all behind (session_at handle table))

    pub mended-whole : {r : ℕ} {handle' : List ℕ} {table' : Memories} → left r handle' table' ≡ gone_on handle₁ table bytes-there
        → left (r - used * 65_536) handle' table' ≡ gone_on handle table piece
    mended-whole e =
        mended-as (places_in handle) piece used n all behind (session_at handle table) (e ∙ gone-there)
        ∙ ap (λ (k : ℕ). gone_with (places_in handle) k piece (step_of (soup_bin_tcp deliver) (live (session_at handle table) (take k (places_in handle))) piece)) u

    pub mended-bytes : Bytes piece → Bytes bytes-there
    unfolding part
    mended-bytes p =
        subst Bytes (sym behind.joined)
        (bytes-append (take used (places_in handle)) (take n piece)
        (part_bytes (places_in handle) 0 used (part_bytes handle head_size held_size (lent-bytes handle lent))) (part_bytes piece 0 n p))

    -- what is told of it is told of the packet where it is read
    pub mended-answer : (step_on handle₁ table bytes-there).answer ≡ (step_on handle table piece).answer
    mended-answer =
        ap (λ (x : stream.Stepped (Session Table) (Event Said)). x.answer) step-there
        ∙ answer-same (places_in handle) piece used n all behind (session_at handle table)
        ∙ ap (λ (k : ℕ). (step_of (soup_bin_tcp deliver) (live (session_at handle table) (take k (places_in handle))) piece).answer) u

-- ---- any handle

pub may-handle : (handle : List ℕ) (table : Memories) → host_may_step handle table ≡ true → is_handle handle ≡ true
unfolding host_may_step
may-handle handle table w = (and_both (is_handle handle) (may_step (reader_in handle) table) w).0

pub may-step : (handle : List ℕ) (table : Memories) → host_may_step handle table ≡ true → may_step (reader_in handle) table ≡ true
unfolding host_may_step
may-step handle table w = (and_both (is_handle handle) (may_step (reader_in handle) table) w).1

-- has it neither refused nor ended?
module _ (h : Head) where
  pub lives-refused : {n : ℕ} → n ≡ h.refusal → (n ≡ 0 → ⊥) → false ≡ lives_on h
  lives-refused e d = rw (ne_eqb h.refusal 0 (λ z. d (e ∙ z)))

  pub lives-unless : {n : ℕ} {b : Bool} → n ≡ h.refusal → n ≡ 0 → b ≡ h.ended → not b ≡ lives_on h
  lives-unless e z f = rw (eq-eqb h.refusal 0 (sym e ∙ z), f)

  pub stopped-refused : {n : ℕ} → n ≡ h.refusal → (n ≡ 0 → ⊥) → 2048 + n ≡ stopped_number h
  stopped-refused e d = rw (ne_eqb h.refusal 0 (λ z. d (e ∙ z)), e)

  pub stopped-ended : {n : ℕ} {b : Bool} → n ≡ h.refusal → n ≡ 0 → b ≡ h.ended → b ≡ true → 1792 ≡ stopped_number h
  stopped-ended e z f y = rw (eq-eqb h.refusal 0 (sym e ∙ z), sym f ∙ y)

  pub stopped-ceiling : {n : ℕ} {b : Bool} → n ≡ h.refusal → n ≡ 0 → b ≡ h.ended → b ≡ false → 2304 ≡ stopped_number h
  stopped-ceiling e z f y = rw (eq-eqb h.refusal 0 (sym e ∙ z), sym f ∙ y)

module _ (handle : List ℕ) (table : Memories) (piece : List ℕ) where
  gone-moved : {x : Seen} → x ≡ step_all (reader_in handle) table piece
      → turned_as (gone_to x (places_after (places_in handle) (head_of handle).used piece x)) ≡ turned_as (moved_by handle table piece)
  unfolding moved_by
  gone-moved e = ap (λ (x : Seen). turned_as (gone_to x (places_after (places_in handle) (head_of handle).used piece x))) e

  module _ (lent : Lent handle) where
    -- an answer that leaves all memory
    still : is_handle handle ≡ true → (n : ℕ) → left n handle table
        ≡ left n (handle_bytes (head_in (state_of (reader_in handle) table) (head_of handle).used) (places_in handle)) (memory_in (state_of (reader_in handle) table))
    still is n =
        let r = reader_in handle in
        (λ i. left n ((own handle is lent ∙ ap (λ (x : Head). handle_bytes x (places_in handle)) (sym (head_in_lem r table))) i) (sym (memory-in r table) i))

    module _ (w : host_may_step handle table ≡ true) where
      is-handle : is_handle handle ≡ true
      is-handle = may-handle handle table w

      keeps : may_step (reader_in handle) table ≡ true
      keeps = may-step handle table w

      within-here : Within (reader_in handle) table.table
      within-here = may-within (reader_in handle) table keeps

      abbrev h₁ : Head
      h₁ = head_of handle

      -- a handle that does not go on is left, and says why
      stops : (r : ℕ) (e : Bool) → h₁.refusal ≡ r → h₁.ended ≡ e → (eqb r 0 && not e) ≡ false
          → (left (cond (eqb r 0) (cond e 1792 2304) (2048 + r)) handle table ≡ turned_as (moved_by handle table piece))
          × ((m : List ℕ) → m ≡ told_memory (moved_by handle table piece).answer m)
      unfolding told_number told_memory moved_by
      stops r e i j k = by (eqb r 0) refl e refl
        where
          by : (z : Bool) → eqb r 0 ≡ z → (y : Bool) → e ≡ y
              → (left (cond (eqb r 0) (cond e 1792 2304) (2048 + r)) handle table ≡ turned_as (moved_by handle table piece))
              × ((m : List ℕ) → m ≡ told_memory (moved_by handle table piece).answer m)
          by true f false g = absurd (never (sym (rw (f, g) at k)))
          by true f true g =
              let s = step-ended (reader_in handle) table piece keeps (own-long handle is-handle) (i ∙ eqb-true r 0 f) (j ∙ g) in (
                rw (f, g) (still is-handle 1792 ∙ gone-moved s),
                λ m. ap (λ (x : Seen). told_memory x.step.answer m) s,
              )
          by false f y g =
              let some : h₁.refusal ≡ 0 → ⊥ = λ z. eqb-false r 0 f (sym i ∙ z) in
              let s = step-refused (reader_in handle) table piece keeps (own-long handle is-handle) some in
              let n : 2048 + r ≡ 2048 + refusal_number (named h₁.refusal) + 0 * 65_536 = omega (arith, i, named-number h₁.refusal within-here.stands some) in (
                rw f (ap (λ (m : ℕ). left m handle table) n ∙ still is-handle (2048 + refusal_number (named h₁.refusal) + 0 * 65_536) ∙ gone-moved s),
                λ m. ap (λ (x : Seen). told_memory x.step.answer m) s,
              )

      module _ {b : Bool} (e : b ≡ lives_on h₁) where
        -- it stops
        module _ {n : ℕ} (f : not b ≡ true) (g : n ≡ stopped_number h₁) where
          stopped : (left (stopped_number h₁) handle table ≡ turned_as (moved_by handle table piece)) × ((m : List ℕ) → m ≡ told_memory (moved_by handle table piece).answer m)
          stopped = stops h₁.refusal h₁.ended refl refl (not_call b (lives_on h₁) e f)

          pub turned-stops : left n handle table ≡ turned_as (moved_by handle table piece)
          turned-stops = ap (λ (k : ℕ). left k handle table) g ∙ stopped.0

          pub untold : (m : List ℕ) → m ≡ told_memory (moved_by handle table piece).answer m
          untold = stopped.1

        -- it goes on
        module _ (f : not b ≡ false) where
          lives : (h₁.refusal ≡ 0) × (h₁.ended ≡ false)
          lives =
              let q = and_both (eqb h₁.refusal 0) (not h₁.ended) (not-not-call b (lives_on h₁) e f) in
              (eqb-true h₁.refusal 0 q.0, not-true h₁.ended q.1)

          pub turned-going : Going handle table
          unfolding fits
          turned-going =
              record {
                handle-is = is-handle;
                live = lives.1;
                unrefused = lives.0;
                some = within-here.some;
                most = within-here.most;
                fitting = (rows-fitting h₁.board.rows table.table within-here.fitted, may-index (reader_in handle) table keeps);
              }

          pub turned-ready : {used : ℕ} → used ≡ h₁.used → used ≡ 0 → Ready handle table
          turned-ready u o = record { going = turned-going; unheld = sym u ∙ o }

          pub turned-holding : Holding handle table
          turned-holding = record { going = turned-going; start = within-here.start; short = within-here.short }

          goes : step_all (reader_in handle) table piece ≡ seen (step_in (live (session_at handle table) (take h₁.used (places_in handle))) piece)
          unfolding step_all
          goes = rw (keeps, lives.1) (simp (eq-eqb h₁.refusal 0 lives.0))

          pub turned-live : {a : ℕ} {handle' : List ℕ} {table' : Memories} → left a handle' table' ≡ heeded_on handle table piece
              → left a handle' table' ≡ turned_as (moved_by handle table piece)
          turned-live k = k ∙ gone-moved (sym goes)

          -- what is told of a step is what is told of it once its index is heeded
          pub answers : (m : List ℕ) → told_memory (step_on handle table piece).answer m ≡ told_memory (moved_by handle table piece).answer m
          unfolding moved_by step_in
          answers m =
              told-heeded (live (session_at handle table) (take h₁.used (places_in handle))) (step_on handle table piece) m
              ∙ ap (λ (x : Seen). told_memory x.step.answer m) (sym goes)

  -- ---- with event memory

  module _ (event : List ℕ) where
    pub step-event : (length event ≡ record_size → ⊥) → HostSteps handle table piece event 2068 handle table event
    unfolding step_host told_number
    step-event d = rw (ne_eqb (length event) record_size d)

    pub step-no-handle : {b : Bool} → b ≡ is_handle handle → not b ≡ true → HostSteps handle table piece event 2068 handle table event
    unfolding step_host told_number
    step-no-handle {b} e f = rw (not_call b (is_handle handle) e f, and-false (eqb (length event) record_size))

    module _ (l : length event ≡ record_size) (is : is_handle handle ≡ true) where
      -- what is left, and what is told
      pub steps-told : {a : ℕ} {handle' : List ℕ} {table' : Memories} {event' : List ℕ} → left a handle' table' ≡ turned_as (moved_by handle table piece)
          → event' ≡ told_memory (moved_by handle table piece).answer event → HostSteps handle table piece event a handle' table' event'
      unfolding step_host
      steps-told e f =
          (λ i. host_stepped (e i).number (e i).handle (e i).memory (f i)) ∙ (rw (eq-eqb (length event) record_size l, is))

      pub step-unfit : Lent handle → may_step (reader_in handle) table ≡ false → HostSteps handle table piece event 2068 handle table event
      unfolding told_number told_memory step_all moved_by
      step-unfit lent none =
          let s : unfit (reader_in handle) table ≡ step_all (reader_in handle) table piece = rw none in
          steps-told (still lent is 2068 ∙ gone-moved s) (ap (λ (x : Seen). told_memory x.step.answer event) s)
