-- What is told of a packet stands in its bytes and in the handle after it.
-- Assumes nothing.
use mathlib.Core.Path.{◌≡◌, refl, sym, ap, ◌∙◌}
use mathlib.Core.List.{List, [], ◌++◌}
use Prim.Native.Nat.{ℕ, ◌+◌, ◌-◌, ◌*◌, ◌%◌, ◌≤◌, ◌<◌}
use native.Mathlib.Omega.{arith}
use borrow.Author.Tests.{ne_eqb}
use lib.Dec.{lit<}
use lib.ListN.{length, take, drop, get_or, length-drop}
use lib.Seq.{length-take-le}
use Rattle.field.specs.Bytes.{Bytes, part, overlay, bytes_be}
use Rattle.field.proofs.Parts.{part_at}
use Rattle.field.proofs.Numbers.{part_bytes}
use Rattle.message.specs.Message.{read_of, accepted}
use Rattle.message.specs.declared.Reading.{Reading}
use Rattle.message.specs.Test.{tested}
use Rattle.message.specs.declared.Texts.{Texts}
use Rattle.packet.specs.Frame.{Framed, short, bad_length, packet, frame, front_of}
use Rattle.packet.specs.Line.{packet_of}
use Rattle.packet.specs.declared.Line.{Line}
use Rattle.packet.specs.Stream as stream
use Rattle.packet.specs.Stream.{State, live, ended, refused, accept, finish, refuse, step_judged}
use Rattle.packet.specs.Session.{Session, Event, login, rejected, message, heartbeat, end, skipped, delivered, does, soup_bin_tcp}
use Rattle.packet.specs.declared.Packet.{Packet}
use Rattle.packet.specs.declared.Packet.TheVariants as packets
use Rattle.packet.proofs.Frame.{WholeAt, bad-there, whole-there}
use Rattle.packet.proofs.Known.{Known, packet-known, follows-number}
use Rattle.packet.proofs.Mend.{lies-bad, lies_whole}
use Rattle.packet.proofs.Seen.{step-short}
use Rattle.table.specs.Board.{apply_of}
use Rattle.record.specs.Places.{record_size}
use Rattle.record.specs.Record.{read_to}
use Rattle.handle.specs.Handle.{handle_size, head_of, handle_bytes, places_in}
use Rattle.handle.specs.declared.Head.{Head}
use Rattle.handle.proofs.Rounds.{handle-length, head-fits}
use Rattle.handle.proofs.Laid.{laid-head}
use Rattle.table.specs.Memory.{Memories}
use Rattle.reader.specs.Deliver.{Table, table_by, Said, said, settled_by, heard, deliver}
use Rattle.reader.specs.View.{seen, session_in, held_in}
use Rattle.reader.specs.Calls.{places_after}
use Rattle.reader.specs.Handles.{head_in, Left, left, login_bytes, event_number, told_number, event_memory, told_memory, taken_in}
use Rattle.reader.specs.Shapes.{Ready, session_at, step_on, gone_on, message_at, told_by, Tellable}
use Rattle.reader.proofs.Fits.{numbered-low, SessionFits, Reasoned, reasoned, VerdictFits, packet-fits, StateFits}
use Rattle.reader.proofs.Back.{state-head}
use Rattle.std.specs.Prelude.{Err}
use Rattle.std.specs.Prelude.{Ok}
use Rattle.std.specs.Prelude.{Result}
use Rattle.message.specs.declared.Refusal.{Refusal}
use Rattle.table.specs.declared.Refusal as table_refusal
use Rattle.message.specs.declared.Message.{Message}

-- ---- the ways through telling

module _ (number : ℕ) (handle bytes event : List ℕ) {kind : ℕ} (e : kind ≡ number % 65_536) where
  pub tell-message : {event' : List ℕ} → kind ≡ 768
      → event' ≡ (read_to (read_of (message_at number bytes)).answer (read_of (message_at number bytes)).texts event).memory → event' ≡ told_by number handle bytes event
  unfolding told_by
  tell-message k f = rw (← e, k) f

  pub tell-login : {event' : List ℕ} → kind ≡ 256 → event' ≡ overlay event 0 (login_bytes (head_of handle).line.next (head_of handle).line.session)
      → event' ≡ told_by number handle bytes event
  unfolding told_by
  tell-login k f = rw (← e, k) f

  pub tell-rejected : {event' : List ℕ} → kind ≡ 512 → event' ≡ overlay event 0 (bytes_be 1 (get_or bytes 3 0)) → event' ≡ told_by number handle bytes event
  unfolding told_by
  tell-rejected k f = rw (← e, k) f

  pub tell-nothing : (kind ≡ 768 → ⊥) → (kind ≡ 256 → ⊥) → (kind ≡ 512 → ⊥) → event ≡ told_by number handle bytes event
  unfolding told_by
  tell-nothing a b c = rw (← e) (simp (ne_eqb kind 768 a, ne_eqb kind 256 b, ne_eqb kind 512 c))

-- ---- what a packet tells, by its body and the session after it

abbrev Tells : List ℕ → Session Table → Event Said → Type 0
Tells body s (login n session) = (n ≡ s.line.next) × (session ≡ s.line.session)
Tells body s (rejected reason) = (reason ≡ get_or body 0 0) × (length body ≡ 1)
Tells body s (message x) = read_of body ≡ accepted x.message x.texts
Tells body s heartbeat = Unit
Tells body s end = Unit
Tells body s skipped = Unit

abbrev VerdictTells : List ℕ → stream.Verdict (Session Table) (Event Said) → Type 0
VerdictTells body (accept e s) = Tells body s e
VerdictTells body (finish e s) = Tells body s e
VerdictTells body (refuse n s) = Unit

module _ (l : Line) (t : Table) (body : List ℕ) where
  settled-tells : (x : Said) (v : Result (Unit {0}) table_refusal.Refusal) (t' : Table) → read_of body ≡ accepted x.message x.texts → VerdictTells body (delivered l (settled_by v x t'))
  settled-tells x (Ok u) t' e = e
  settled-tells x (Err r) t' e = tt

  heard-tells : (a : Result Message Refusal) → (read_of body).answer ≡ a → VerdictTells body (delivered l (heard t (read_of body).texts a))
  heard-tells (Err r) e = tt
  heard-tells (Ok m) e =
      let texts : Texts = (read_of body).texts in
      let o = apply_of t.board m texts t.memory in
      settled-tells (said m texts) o.outcome.applied.verdict (table_by o) (λ i. record { answer = e i; texts = texts })

  deliver-tells : VerdictTells body (delivered l (deliver t body))
  unfolding deliver
  deliver-tells = heard-tells (read_of body).answer refl

does-tells : (s : Session Table) (body : List ℕ) (p : Packet) → Known s.line body p → Reasoned body p → VerdictTells body (does deliver s body p)
does-tells s body (packets.Login n) k w = (follows-number s.line (part body 0 10) n k.2, refl)
does-tells s body (packets.Rejected reason) k w = (w, k.0)
does-tells s body packets.Message k w = deliver-tells s.line s.about body
does-tells s body packets.Heartbeat k w = tt
does-tells s body packets.End k w = tt
does-tells s body packets.Skipped k w = tt
does-tells s body (packets.Refused f) k w = tt

packet-tells : (s : Session Table) (letter : ℕ) (body : List ℕ) → VerdictTells body (soup_bin_tcp deliver s letter body)
unfolding soup_bin_tcp
packet-tells s letter body =
    does-tells s body (packet_of s.line letter body) (packet-known s.line body letter) (reasoned s.line body letter)

-- ---- TOLD: what stands there is what a step tells

module _ (handle : List ℕ) (table : Memories) (piece event : List ℕ) (g : Ready handle table) (own : Bytes handle) (given : Bytes piece) (long : length event ≡ record_size)
    {number : ℕ} {handle' : List ℕ} {table' : Memories} (size : length handle' ≡ handle_size) (e : left number handle' table' ≡ gone_on handle table piece) where
  abbrev st : stream.Stepped (Session Table) (Event Said)
  st = step_on handle table piece

  pub record Told : Type 0 where
    pub asked : Tellable number handle' piece event
    pub is : told_by number handle' piece event ≡ told_memory st.answer event

  number_is : number ≡ told_number st.answer + st.taken * 65_536
  number_is = ap (λ (l : Left). l.number) e

  -- a step that tells nothing
  untold : (number % 65_536 ≡ 768 → ⊥) → (number % 65_536 ≡ 256 → ⊥) → (number % 65_536 ≡ 512 → ⊥) → event ≡ told_memory st.answer event → Told
  untold a b c m =
      record {
        asked = record {
          long = long;
          handle-long = size;
          whole = λ z. absurd (a z);
          passed = λ z. absurd (a z);
          reasoned = λ z. absurd (c z);
        };
        is = sym (tell-nothing number handle' piece event refl a b c) ∙ m;
      }

  -- an event of a kind that tells nothing
  silent : (k : ℕ) → number % 65_536 ≡ k → 768 < k → event ≡ told_memory st.answer event → Told
  silent k e f m = untold (λ z. omega (arith, z, e, f)) (λ z. omega (arith, z, e, f)) (λ z. omega (arith, z, e, f)) m

  module _ (n : ℕ) (w : WholeAt piece n) (taken : st.taken ≡ n + 2) where
    abbrev body : List ℕ
    body = take (n + 2 - 3) (drop 3 piece)

    module _ {k : ℕ} (low : k < 65_536) (f : told_number st.answer ≡ k) where
      kind : number % 65_536 ≡ k
      kind = let q : number ≡ k + (n + 2) * 65_536 = omega (arith, number_is, f, taken) in omega (arith, q, low)

      ends : taken_in number ≡ n + 2
      ends = let q : number ≡ k + (n + 2) * 65_536 = omega (arith, number_is, f, taken) in omega (arith, q, low)

    event-told : (x : Event Said) (s : Session Table) → Tells body s x → (head_of handle').line ≡ s.line → st.answer ≡ stream.Event x → Told
    unfolding part told_number event_number told_memory event_memory read_to
    event-told (login m session) s t line a =
        let k : number % 65_536 ≡ 256 = kind (lit< tt) (ap told_number a) in
        record {
          asked = record {
            long = long;
            handle-long = size;
            whole = λ z. omega (arith, z, k);
            passed = λ z. omega (arith, z, k);
            reasoned = λ z. omega (arith, z, k);
          };
          is =
              sym (tell-login number handle' piece event refl k refl)
              ∙ ap (λ (l : Line). overlay event 0 (login_bytes l.next l.session)) line
              ∙ (λ i. overlay event 0 (login_bytes (sym t.0 i) (sym t.1 i)))
              ∙ ap (λ (y : stream.Answer (Event Said)). told_memory y event) (sym a);
        }
    event-told (rejected reason) s t line a =
        let k : number % 65_536 ≡ 512 = kind (lit< tt) (ap told_number a) in
        let size_of : length body ≡ n + 2 - 3 = length-take-le (n + 2 - 3) (drop 3 piece) (omega (arith, length-drop 3 piece, w.there)) in
        let four : 4 ≤ length piece = omega (arith, size_of, t.1, w.there, w.low) in
        record {
          asked = record {
            long = long;
            handle-long = size;
            whole = λ z. omega (arith, z, k);
            passed = λ z. omega (arith, z, k);
            reasoned = λ z. four;
          };
          is =
              sym (tell-rejected number handle' piece event refl k refl)
              ∙ ap (λ (y : ℕ). overlay event 0 (bytes_be 1 y)) (sym (t.0 ∙ part_at piece 3 (n + 2 - 3) 0 (omega (arith, size_of, t.1))))
              ∙ ap (λ (y : stream.Answer (Event Said)). told_memory y event) (sym a);
        }
    event-told (message x) s t line a =
        let k : number % 65_536 ≡ 768 = kind (lit< tt) (ap told_number a) in
        let at-end : taken_in number ≡ n + 2 = ends (lit< tt) (ap told_number a) in
        let there : message_at number piece ≡ body = ap (λ (m : ℕ). take (m - 3) (drop 3 piece)) at-end in
        let is_read : read_of (message_at number piece) ≡ accepted x.message x.texts = ap read_of there ∙ t in
        record {
          asked = record {
            long = long;
            handle-long = size;
            whole = λ z. (omega (arith, at-end, w.low), omega (arith, at-end, w.there));
            passed = λ z. ap tested is_read;
            reasoned = λ z. omega (arith, z, k);
          };
          is =
              sym (tell-message number handle' piece event refl k refl)
              ∙ ap (λ (r : Reading). (read_to r.answer r.texts event).memory) is_read
              ∙ ap (λ (y : stream.Answer (Event Said)). told_memory y event) (sym a);
        }
    event-told heartbeat s t line a =
        silent 1024 (kind (lit< tt) (ap told_number a)) (lit< tt) (ap (λ (y : stream.Answer (Event Said)). told_memory y event) (sym a))
    event-told end s t line a =
        silent 1280 (kind (lit< tt) (ap told_number a)) (lit< tt) (ap (λ (y : stream.Answer (Event Said)). told_memory y event) (sym a))
    event-told skipped s t line a =
        silent 1536 (kind (lit< tt) (ap told_number a)) (lit< tt) (ap (λ (y : stream.Answer (Event Said)). told_memory y event) (sym a))

  -- the handle after a step has the state's line
  module _ (x : State (Session Table)) (f : st.state ≡ x) (fits : StateFits x) (none : held_in x ≡ []) where
    line_after : (head_of handle').line ≡ (session_in x).line
    line_after =
        let places : List ℕ = places_after (places_in handle) (head_of handle).used piece (seen st) in
        let used : (seen st).used ≡ 0 = ap (λ (y : State (Session Table)). length (held_in y)) f ∙ ap length none in
        ap (λ (l : Left). (head_of l.handle).line) e
        ∙ (λ i. (head_of (handle_bytes (head_in (f i) (used i)) places)).line)
        ∙ ap (λ (y : Head). y.line) (laid-head (head_in x 0) places (state-head x 0 fits (omega arith)))
        ∙ by x
      where
        by : (y : State (Session Table)) → (head_in y 0).line ≡ (session_in y).line
        by (live s held) = refl
        by (ended s held) = refl
        by (refused s held over k) = refl

  judged-told : (n : ℕ) (v : stream.Verdict (Session Table) (Event Said)) → WholeAt piece n → VerdictTells (take (n + 2 - 3) (drop 3 piece)) v → VerdictFits v
      → st ≡ step_judged (n + 2) v → Told
  unfolding told_number told_memory
  judged-told n (accept x s) w t f q =
      event-told n w (ap (λ (y : stream.Stepped (Session Table) (Event Said)). y.taken) q) x s t
      (line_after (live s []) (ap (λ (y : stream.Stepped (Session Table) (Event Said)). y.state) q) f.1 refl)
      (ap (λ (y : stream.Stepped (Session Table) (Event Said)). y.answer) q)
  judged-told n (finish x s) w t f q =
      event-told n w (ap (λ (y : stream.Stepped (Session Table) (Event Said)). y.taken) q) x s t
      (line_after (ended s []) (ap (λ (y : stream.Stepped (Session Table) (Event Said)). y.state) q) f.1 refl)
      (ap (λ (y : stream.Stepped (Session Table) (Event Said)). y.answer) q)
  judged-told n (refuse k s) w t f q =
      let low : k < 256 = numbered-low k f.0 in
      let a : st.answer ≡ stream.Refused k = ap (λ (y : stream.Stepped (Session Table) (Event Said)). y.answer) q in
      silent (2048 + k) (kind n w (ap (λ (y : stream.Stepped (Session Table) (Event Said)). y.taken) q) (omega (arith, low)) (ap told_number a)) (omega arith)
      (ap (λ (y : stream.Answer (Event Said)). told_memory y event) (sym a))

  -- THEOREM
  pub told-there : Told
  unfolding part told_number told_memory
  told-there = by (frame piece) refl
    where
      s : Session Table
      s = session_at handle table

      own-session : SessionFits (session_at handle table)
      own-session =
          let f = head-fits handle (handle-length handle g.going.handle-is) own in
          record { ten = f.session; some = g.going.some; most = g.going.most; board = record { rows = g.going.fitting.0.1; live = f.live; event = f.event } }

      by : (f : Framed) → frame piece ≡ f → Told
      by short f =
          let q = step-short (soup_bin_tcp deliver) s (take (head_of handle).used (places_in handle)) piece (ap (λ (k : ℕ). frame (take k (places_in handle) ++ piece)) g.unheld ∙ f) in
          let a : st.answer ≡ stream.More = ap (λ (y : stream.Stepped (Session Table) (Event Said)). y.answer) q in
          let k : number ≡ 0 + st.taken * 65_536 = number_is ∙ ap (λ (y : stream.Answer (Event Said)). told_number y + st.taken * 65_536) a in
          untold (λ z. omega (arith, z, k)) (λ z. omega (arith, z, k)) (λ z. omega (arith, z, k)) (ap (λ (y : stream.Answer (Event Said)). told_memory y event) (sym a))
      by (bad_length r) f =
          let q = lies-bad (places_in handle) (head_of handle).used piece g.unheld (soup_bin_tcp deliver) s (bad-there piece refl (ap front_of f)) in
          let a : st.answer ≡ stream.Refused 1 = ap (λ (y : stream.Stepped (Session Table) (Event Said)). y.answer) q in
          let k : number ≡ 2049 + st.taken * 65_536 = number_is ∙ ap (λ (y : stream.Answer (Event Said)). told_number y + st.taken * 65_536) a in
          silent 2049 (omega (arith, k)) (lit< tt) (ap (λ (y : stream.Answer (Event Said)). told_memory y event) (sym a))
      by (packet l b r) f =
          let n : ℕ = length b + 1 in
          let w : WholeAt piece n = whole-there piece refl (ap front_of f) in
          let body : List ℕ = take (n + 2 - 3) (drop 3 piece) in
          let v = soup_bin_tcp deliver s (get_or piece 2 0) body in
          judged-told n v w (packet-tells s (get_or piece 2 0) body)
          (packet-fits s (get_or piece 2 0) body (part_bytes piece 3 (n + 2 - 3) given) own-session)
          (lies_whole (places_in handle) (head_of handle).used piece g.unheld (soup_bin_tcp deliver) s n w)
