-- The next number rises by one for each accepted message, and for nothing else.
-- Assumes nothing.
use mathlib.Core.Path.{◌≡◌, refl, sym, subst}
use mathlib.Core.List.{List, ◌++◌}
use Prim.Native.Nat.{ℕ, ◌+◌}
use native.Mathlib.Nat.{add-zero}
use native.Mathlib.Omega.{arith}
use Rattle.packet.specs.Stream.{Verdict, accept, finish, refuse, State, live, ended, refused, reading}
use Rattle.packet.specs.Line.{packet_of}
use Rattle.packet.specs.Session.{Delivered, done, denied, Event, Session, delivered, does, soup_bin_tcp, numbers_of, messages, next_in}
use Rattle.packet.specs.declared.Line.{Line}
use Rattle.packet.specs.declared.Packet.{Packet}
use Rattle.packet.specs.declared.Packet.TheVariants as packets
use Rattle.packet.proofs.Cut.{EachPacket, each-packet}

module _ {D E : Type 0} (deliver : D → List ℕ → Delivered D E) where
  abbrev pub Numbers : Line → Verdict (Session D) (Event E) → Type 0
  Numbers l (accept e s) = s.line.next ≡ l.next + numbers_of e
  Numbers l (finish e s) = s.line.next ≡ l.next + numbers_of e
  Numbers l (refuse n s) = s.line.next ≡ l.next

  delivered-numbers : (l : Line) (d : Delivered D E) → Numbers l (delivered l d)
  delivered-numbers l (done e d) = refl
  delivered-numbers l (denied n d) = refl

  does-numbers : (s : Session D) (body : List ℕ) (p : Packet) → Numbers s.line (does deliver s body p)
  does-numbers s body (packets.Login n) = sym (add-zero s.line.next)
  does-numbers s body (packets.Rejected r) = sym (add-zero s.line.next)
  does-numbers s body packets.Message = delivered-numbers s.line (deliver s.about body)
  does-numbers s body packets.Heartbeat = sym (add-zero s.line.next)
  does-numbers s body packets.End = sym (add-zero s.line.next)
  does-numbers s body packets.Skipped = sym (add-zero s.line.next)
  does-numbers s body (packets.Refused f) = refl

  -- a packet: an accepted message takes one number, and nothing else takes any
  pub packet-numbers : (s : Session D) (l : ℕ) (b : List ℕ) {v : Verdict (Session D) (Event E)} → soup_bin_tcp deliver s l b ≡ v → Numbers s.line v
  unfolding soup_bin_tcp
  packet-numbers s l b j = subst (Numbers s.line) j (does-numbers s b (packet_of s.line l b))

  numbered : EachPacket (soup_bin_tcp deliver) (λ s bs r. next_in r.state ≡ s.line.next + messages r.events)
  unfolding messages
  numbered =
      record {
        waits = λ s bs e. sym (add-zero s.line.next);
        bad = λ s bs r e. sym (add-zero s.line.next);
        accepts = λ s s' bs l b r e f j go. omega (arith, go, packet-numbers s l b j);
        finishes = λ s s' bs l b r e f j. omega (arith, packet-numbers s l b j);
        refuses = λ s s' bs l b r n f j. omega (arith, packet-numbers s l b j);
      }

  -- NUMBERING: after any reading the next number is the first one and the count of accepted messages
  pub reading-numbers : (st : State (Session D)) (bs : List ℕ)
      → next_in (reading (soup_bin_tcp deliver) st bs).state ≡ next_in st + messages (reading (soup_bin_tcp deliver) st bs).events
  unfolding reading messages
  reading-numbers (live s held) bs = each-packet (soup_bin_tcp deliver) numbered s (held ++ bs)
  reading-numbers (ended s held) bs = sym (add-zero s.line.next)
  reading-numbers (refused s held e n) bs = sym (add-zero s.line.next)
