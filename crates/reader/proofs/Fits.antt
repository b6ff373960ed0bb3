-- WHAT A STEP LEAVES AND TELLS HAS ROOM: in the head and the places of a handle, in an answer's number and in event memory.
-- Assumes nothing.
use mathlib.Core.Path.{◌≡◌, refl, sym, ap, ◌∙◌, subst}
use mathlib.Core.List.{List, ◌++◌}
use Prim.Native.Nat.{ℕ, ◌+◌, ◌-◌, ◌^◌, ◌≤◌, ◌<◌}
use native.Mathlib.Omega.{arith}
use lib.Dec.{lit<}
use lib.ListN.{length, get_or}
use Rattle.field.specs.Bytes.{part, Bytes}
use Rattle.field.specs.Limits.{highest_number}
use Rattle.field.specs.Decimal.{number_after_spaces}
use Rattle.std.specs.Prelude.{Option}
use Rattle.std.specs.declared.option.Option.TheVariants as option
use Rattle.field.proofs.Parts.{part_length}
use Rattle.message.specs.Letters.{prices_of, NoZero}
use Rattle.message.specs.Message as messages
use Rattle.message.specs.Message.{accepted, read_of, texts_with}
use Rattle.message.specs.declared.Message.{Message}
use Rattle.message.specs.declared.Message.TheVariants as message
use Rattle.message.specs.declared.Texts.{Texts}
use Rattle.message.specs.declared.Reading.{Reading}
use Rattle.message.specs.declared.Refusal as message_refusal
use Rattle.message.specs.declared.Refusal.TheVariants as message_refusals
use Rattle.message.proofs.Rounds.{read-write, write_read}
use Rattle.message.proofs.Typed.{accepted-typed}
use Rattle.message.proofs.NoZero.{kept-no-zero}
use Rattle.packet.specs.Frame.{Framed, short, bad_length, packet, frame}
use Rattle.packet.specs.Refusals.{fault_number}
use Rattle.packet.specs.Stream as stream
use Rattle.packet.specs.Stream.{State, live, ended, refused, accept, finish, refuse, step_judged, step_framed, step_of}
use Rattle.packet.specs.Line.{follows, login_with, login_of, meant_of, packet_by, packet_of}
use Rattle.packet.specs.Numbering.{none_left}
use Rattle.packet.specs.Session as packets
use Rattle.packet.specs.Session.{Session, Event, Delivered, done, denied, delivered, does, soup_bin_tcp}
use Rattle.packet.specs.Table.{packet_table, entry_of, in_place, of_size}
use Rattle.packet.specs.declared.Line.{Line}
use Rattle.packet.specs.declared.Fault.{Fault}
use Rattle.packet.specs.declared.Fault.TheVariants as fault
use Rattle.packet.specs.declared.Packet.{Packet}
use Rattle.packet.specs.declared.Packet.TheVariants as packet
use Rattle.packet.specs.declared.table.Meaning.{Meaning}
use Rattle.packet.specs.declared.table.Meaning.TheVariants as meaning
use Rattle.packet.proofs.Rules.{both}
use Rattle.packet.proofs.Known.{Known, packet-known, follows-number}
use Rattle.packet.proofs.Keep.{StateHas}
use Rattle.packet.proofs.Bytes.{bytes-append, frame-bytes}
use Rattle.table.specs.Memory.{most_rows, Memories, Found, At, Nothing}
use Rattle.table.specs.Index.{found_of}
use Rattle.table.specs.Board as tables
use Rattle.table.specs.Board.{look, apply_of}
use Rattle.table.specs.Places.{board_at, board_after}
use Rattle.table.specs.declared.Board.{Board}
use Rattle.table.specs.declared.Refusal as table_refusal
use Rattle.table.specs.declared.Refusal.TheVariants as table_refusals
use Rattle.table.proofs.Exactly.{exactly-board, refused-leaves, apply-few}
use Rattle.record.specs.Record.{Roomy}
use Rattle.record.proofs.Typed.{roomy}
use Rattle.reader.specs.Refusals.{refusal_number, named, named_in}
use Rattle.reader.specs.Deliver.{Table, table_of, table_by, Said, said, settled_by, heard, deliver}
use Rattle.reader.specs.View.{held_in}
use Rattle.reader.specs.declared.Refusal.{Refusal}
use Rattle.reader.specs.declared.Refusal.TheVariants as refusal
use Rattle.std.specs.Prelude.{Err}
use Rattle.std.specs.Prelude.{Ok}
use Rattle.std.specs.Prelude.{Result}
use Rattle.std.specs.Prelude.{Some}
use Rattle.std.specs.Prelude.{None}
use Rattle.packet.specs.declared.table.Place.{Place}

-- ---- numbers of refusals

-- the number of a refusal
pub record Numbered (n : ℕ) : Type 0 where
  pub refusal : Refusal
  pub is : refusal_number refusal ≡ n

abbrev numbered : (r : Refusal) → Numbered (refusal_number r)
numbered r = record { refusal = r; is = refl }

pub fault-numbered : (f : Fault) → Numbered (fault_number f)
fault-numbered fault.BadLength = numbered refusal.BadPacketLength
fault-numbered fault.UnknownLetter = numbered refusal.UnknownPacket
fault-numbered fault.WrongPlace = numbered refusal.WrongPlace
fault-numbered fault.BadForm = numbered refusal.BadForm
fault-numbered fault.NotNext = numbered refusal.NotNext
fault-numbered fault.NumbersUsedUp = numbered refusal.NumbersUsedUp

message-numbered : (r : message_refusal.Refusal) → Numbered (messages.refusal_number r)
message-numbered message_refusals.UnknownLetter = numbered refusal.UnknownMessage
message-numbered message_refusals.WrongLength = numbered refusal.WrongLength
message-numbered message_refusals.BadField = numbered refusal.BadField

table-numbered : (r : table_refusal.Refusal) → Numbered (tables.refusal_number r)
table-numbered table_refusals.Unfit = numbered refusal.Unfit
table-numbered table_refusals.NoRow = numbered refusal.NoRow
table-numbered table_refusals.NoQuotes = numbered refusal.NoQuotes
table-numbered table_refusals.FixedField = numbered refusal.FixedField
table-numbered table_refusals.TableFull = numbered refusal.TableFull

-- no two names have one number
pub name_back : (r : Refusal) → named (refusal_number r) ≡ r
unfolding named named_in
name_back refusal.Unfit = refl
name_back refusal.BadPacketLength = refl
name_back refusal.UnknownPacket = refl
name_back refusal.WrongPlace = refl
name_back refusal.BadForm = refl
name_back refusal.NotNext = refl
name_back refusal.NumbersUsedUp = refl
name_back refusal.UnknownMessage = refl
name_back refusal.WrongLength = refl
name_back refusal.BadField = refl
name_back refusal.NoRow = refl
name_back refusal.NoQuotes = refl
name_back refusal.FixedField = refl
name_back refusal.TableFull = refl
name_back refusal.HighCeiling = refl

pub number-low : (r : Refusal) → refusal_number r < 256
number-low refusal.Unfit = lit< tt
number-low refusal.BadPacketLength = lit< tt
number-low refusal.UnknownPacket = lit< tt
number-low refusal.WrongPlace = lit< tt
number-low refusal.BadForm = lit< tt
number-low refusal.NotNext = lit< tt
number-low refusal.NumbersUsedUp = lit< tt
number-low refusal.UnknownMessage = lit< tt
number-low refusal.WrongLength = lit< tt
number-low refusal.BadField = lit< tt
number-low refusal.NoRow = lit< tt
number-low refusal.NoQuotes = lit< tt
number-low refusal.FixedField = lit< tt
number-low refusal.TableFull = lit< tt
number-low refusal.HighCeiling = lit< tt

-- its name has it, and it has room in a byte
module _ (n : ℕ) (h : Numbered n) where
  pub numbered-named : refusal_number (named n) ≡ n
  numbered-named = ap (λ (k : ℕ). refusal_number (named k)) (sym h.is) ∙ ap refusal_number (name_back h.refusal) ∙ h.is

  pub numbered-low : n < 256
  numbered-low = omega (arith, number-low h.refusal, h.is)

-- ---- what has room in a record and in a head

abbrev pub EventFits : Event Said → Type 0
EventFits (packets.login n session) = (n < 256 ^ 8) × (length session ≡ 10)
EventFits (packets.rejected reason) = reason < 256 ^ 1
EventFits (packets.message x) =
    Roomy x.message x.texts × (texts_with x.message x.texts ≡ x.texts) × NoZero (prices_of x.message)
EventFits packets.heartbeat = Unit
EventFits packets.end = Unit
EventFits packets.skipped = Unit

pub record BoardFits (b : Board) : Type 0 where
  pub rows : b.rows ≤ most_rows
  pub live : b.live < 256 ^ 8
  pub event : b.event < 256

pub record SessionFits (s : Session Table) : Type 0 where
  pub ten : length s.line.session ≡ 10
  pub some : 1 ≤ s.line.next
  pub most : s.line.next ≤ highest_number
  pub board : BoardFits s.about.board

-- ---- a message

-- an event code and a live number have room in a record, and so in a head
board-fits : (b : Board) (m : Message) (t : Texts) (w : Found) → (board_at b m w).rows ≤ most_rows → BoardFits b → Roomy m t → BoardFits (board_at b m w)
unfolding board_at
board-fits b (message.SystemEvent m) t w few h f = record { rows = h.rows; live = h.live; event = f.1.1.0 }
board-fits b (message.Directory m) t (At k) few h f = h
board-fits b (message.Directory m) t Nothing few h f = record { rows = few; live = h.live; event = h.event }
board-fits b (message.TradingAction m) t w few h f = h
board-fits b (message.ShortQuote m) t w few h f = h
board-fits b (message.LongQuote m) t w few h f = h
board-fits b (message.ShortSide m) t w few h f = h
board-fits b (message.LongSide m) t w few h f = h
board-fits b (message.EndOfReplay m) t w few h f = record { rows = h.rows; live = f.0; event = h.event }

-- a message that is read has room in a record, no texts but its own, and no zero as a price above zero
read_fits : (bs : List ℕ) → Bytes bs → (m : Message) (t : Texts) → read_of bs ≡ accepted m t → EventFits (packets.message (said m t))
read_fits bs b m t e =
    let y = accepted-typed bs b m t e in
    let w = write_read bs b m t e in
    let again : accepted m (texts_with m t) ≡ accepted m t = sym (read-write m t y.0 w.1) ∙ ap read_of w.0 ∙ e in
    (roomy m t y.0 w.1, ap (λ (r : Reading). r.texts) again, kept-no-zero m t w.1)

abbrev DeliveredFits : Delivered Table Said → Type 0
DeliveredFits (done x t) = EventFits (packets.message x) × BoardFits t.board
DeliveredFits (denied n t) = Numbered n × BoardFits t.board

module _ (t : Table) (h : BoardFits t.board) where
  settled-fits : (m : Message) (texts : Texts) (v : Result (Unit {0}) table_refusal.Refusal) (b : Board) (l : Memories)
      → (apply_of t.board m texts t.memory).outcome ≡ tables.outcome (record { board = b; verdict = v }) l.table
      → EventFits (packets.message (said m texts)) → DeliveredFits (settled_by v (said m texts) (table_of b l))
  unfolding board_after
  settled-fits m texts (Ok u) b l e f =
      let w : Found = found_of (look t.board m t.memory) in
      let same : b ≡ board_at t.board m w = exactly-board t.board m texts t.memory b l.table e in
      let few : b.rows ≤ most_rows
      = subst (λ (o : tables.Outcome). o.applied.board.rows ≤ most_rows) e (apply-few t.board t.memory h.rows m texts) in
      (f, subst BoardFits (sym same) (board-fits t.board m texts w (subst (λ (x : Board). x.rows ≤ most_rows) same few) h f.0))
  settled-fits m texts (Err r) b l e f = (
    table-numbered r,
    subst BoardFits (sym (refused-leaves t.board m texts t.memory r b l.table e).0) h,
  )

  heard-fits : (texts : Texts) (a : Result Message message_refusal.Refusal) → ((m : Message) → a ≡ Ok m → EventFits (packets.message (said m texts)))
      → DeliveredFits (heard t texts a)
  heard-fits texts (Err r) f = (message-numbered r, h)
  heard-fits texts (Ok m) f =
      let o = apply_of t.board m texts t.memory in
      settled-fits m texts o.outcome.applied.verdict o.outcome.applied.board (table_by o).memory refl (f m refl)

  deliver-fits : (body : List ℕ) → Bytes body → DeliveredFits (deliver t body)
  unfolding deliver
  deliver-fits body b =
      let r = read_of body in
      heard-fits r.texts r.answer (λ m e. read_fits body b m r.texts (λ i. record { answer = e i; texts = r.texts }))

-- ---- a packet

-- a rejected login's reason is a byte of its packet
abbrev pub Reasoned : List ℕ → Packet → Type 0
Reasoned body (packet.Login n) = Unit
Reasoned body (packet.Rejected reason) = reason ≡ get_or body 0 0
Reasoned body packet.Message = Unit
Reasoned body packet.Heartbeat = Unit
Reasoned body packet.End = Unit
Reasoned body packet.Skipped = Unit
Reasoned body (packet.Refused f) = Unit

module _ (l : Line) (body : List ℕ) where
  with-reasoned : (x : Option ℕ) → Reasoned body (login_with l (part body 0 10) x)
  with-reasoned option.None = tt
  with-reasoned (option.Some n) = both (Reasoned body) (follows l (part body 0 10) n) (λ _. tt) (λ _. tt)

  meant-reasoned : (m : Meaning) → Reasoned body (meant_of l body m)
  unfolding login_of
  meant-reasoned meaning.LoginAccepted = with-reasoned (number_after_spaces (part body 10 20))
  meant-reasoned meaning.LoginRejected = refl
  meant-reasoned meaning.Message = both (Reasoned body) (none_left l.next) (λ _. tt) (λ _. tt)
  meant-reasoned meaning.Heartbeat = tt
  meant-reasoned meaning.EndOfSession = tt
  meant-reasoned meaning.Skipped = tt

  by-reasoned : (x : Option (Option ℕ × Meaning × Place)) → Reasoned body (packet_by l body x)
  by-reasoned None = tt
  by-reasoned (Some (size, means, place)) =
      both (Reasoned body) (in_place place l.logged)
      (λ _. both (Reasoned body) (of_size size (length body + 1)) (λ _. meant-reasoned means) (λ _. tt)) (λ _. tt)

  pub reasoned : (letter : ℕ) → Reasoned body (packet_of l letter body)
  unfolding packet_of
  reasoned letter = by-reasoned (entry_of letter packet_table)

abbrev pub VerdictFits : stream.Verdict (Session Table) (Event Said) → Type 0
VerdictFits (accept e s) = EventFits e × SessionFits s
VerdictFits (finish e s) = EventFits e × SessionFits s
VerdictFits (refuse n s) = Numbered n × SessionFits s

delivered-fits : (l : Line) (d : Delivered Table Said) → length l.session ≡ 10 → 1 ≤ l.next → l.next ≤ highest_number → (l.next ≡ highest_number → ⊥) → DeliveredFits d
    → VerdictFits (delivered l d)
delivered-fits l (done x t) ten some m n f = (f.0, record { ten = ten; some = omega (arith, some); most = omega (arith, n, m); board = f.1 })
delivered-fits l (denied k t) ten some m n f = (f.0, record { ten = ten; some = some; most = m; board = f.1 })

does-fits : (s : Session Table) (body : List ℕ) (p : Packet) → Bytes body → SessionFits s → Known s.line body p → Reasoned body p
    → VerdictFits (does deliver s body p)
does-fits s body (packet.Login n) b h k w =
    let ten : length (part body 0 10) ≡ 10 = part_length body 0 10 (omega (arith, k.0)) in (
      (omega (arith, follows-number s.line (part body 0 10) n k.2, h.most), ten),
      record { ten = ten; some = h.some; most = h.most; board = h.board },
    )
does-fits s body (packet.Rejected reason) b h k w = (omega (arith, w, b 0), h)
does-fits s body packet.Message b h k w =
    delivered-fits s.line (deliver s.about body) h.ten h.some h.most k.1 (deliver-fits s.about h.board body b)
does-fits s body packet.Heartbeat b h k w = (tt, h)
does-fits s body packet.End b h k w = (tt, h)
does-fits s body packet.Skipped b h k w = (tt, h)
does-fits s body (packet.Refused f) b h k w = (fault-numbered f, h)

pub packet-fits : (s : Session Table) (letter : ℕ) (body : List ℕ) → Bytes body → SessionFits s → VerdictFits (soup_bin_tcp deliver s letter body)
unfolding soup_bin_tcp
packet-fits s letter body b h =
    does-fits s body (packet_of s.line letter body) b h (packet-known s.line body letter) (reasoned s.line body letter)

-- ---- a step

abbrev pub AnswerFits : stream.Answer (Event Said) → Type 0
AnswerFits (stream.Event e) = EventFits e
AnswerFits stream.More = Unit
AnswerFits stream.Ended = Unit
AnswerFits (stream.Refused n) = Numbered n

abbrev pub StateFits : State (Session Table) → Type 0
StateFits = StateHas SessionFits Numbered

pub record StepFits (x : stream.Stepped (Session Table) (Event Said)) : Type 0 where
  pub answer : AnswerFits x.answer
  pub state : StateFits x.state

judged-fits : (n : ℕ) (v : stream.Verdict (Session Table) (Event Said)) → VerdictFits v → StepFits (step_judged n v)
judged-fits n (accept e s) f = record { answer = f.0; state = f.1 }
judged-fits n (finish e s) f = record { answer = f.0; state = f.1 }
judged-fits n (refuse k s) f = record { answer = f.0; state = (f.1, f.0) }

framed-fits : (s : Session Table) (before piece : List ℕ) (f : Framed) → SessionFits s → Bytes (before ++ piece) → frame (before ++ piece) ≡ f
    → StepFits (step_framed (soup_bin_tcp deliver) s before piece f)
framed-fits s before piece short h b e = record { answer = tt; state = h }
framed-fits s before piece (bad_length r) h b e = record { answer = fault-numbered fault.BadLength; state = (h, fault-numbered fault.BadLength) }
framed-fits s before piece (packet l body r) h b e =
    judged-fits (length piece - length r) (soup_bin_tcp deliver s l body) (packet-fits s l body (frame-bytes (before ++ piece) e b) h)

pub step_fits : (st : State (Session Table)) (piece : List ℕ) → Bytes (held_in st) → Bytes piece → StateFits st → StepFits (step_of (soup_bin_tcp deliver) st piece)
unfolding step_of
step_fits (live s before) piece c b h = framed-fits s before piece (frame (before ++ piece)) h (bytes-append before piece c b) refl
step_fits (ended s before) piece c b h = record { answer = tt; state = h }
step_fits (refused s before e n) piece c b h = record { answer = h.1; state = h }
