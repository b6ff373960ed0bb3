-- A reader that is stopped, restored and logged in goes on as the one that never stopped.
-- Assumes nothing.
use mathlib.Core.Path.{◌≡◌, refl, sym, ap, ◌∙◌}
use mathlib.Core.List.{List, [], ◌++◌}
use mathlib.Core.Bool.{Bool, true}
use Prim.Native.Nat.{ℕ, ◌≤◌}
use native.Mathlib.Omega.{arith}
use borrow.Author.Tests.{eq-eqb}
use lib.ListN.{length, take, length-append}
use lib.Seq.{take_at, drop_at, take_all}
use Rattle.field.specs.Bytes.{part}
use Rattle.field.specs.Limits.{highest_number}
use Rattle.field.specs.Decimal.{spaces_then_chars}
use Rattle.field.proofs.Same.{test-self}
use Rattle.field.proofs.Decimals.{after-of, after-length, count_most}
use Rattle.packet.specs.Frame.{packet, frame}
use Rattle.packet.specs.Stream.{accept, live, Run, first, ◌then◌, judged, read_all, reading}
use Rattle.packet.specs.Table.{packet_table, entry_of}
use Rattle.packet.specs.Line.{session_size, number_size, login_size, login_session, login_number, waiting, follows, login_of, packet_of, InRange, LoggedIn}
use Rattle.packet.specs.Session.{Delivered, Event, login, Session, does, soup_bin_tcp, any_login, restored, login_packet}
use Rattle.packet.specs.declared.Line.{Line}
use Rattle.packet.specs.declared.Packet.TheVariants as packets
use Rattle.packet.proofs.Frame.{frame-packet}
use Rattle.packet.proofs.Cut.{reading-at, reading-cut}
use Rattle.packet.proofs.Keep.{session-keeps, range-stays, login-told}

-- the characters of a number that a login can have
number-length : (n : ℕ) → n ≤ highest_number → length (spaces_then_chars number_size n) ≡ number_size
number-length n h = after-length number_size n (omega (arith, count_most n 12 (omega arith)))

-- ---- the login packet of a line

module _ (l : Line) (range : InRange l) (ten : length l.session ≡ session_size) where
  abbrev chars : List ℕ
  chars = spaces_then_chars number_size l.next

  chars-length : length chars ≡ number_size
  chars-length = number-length l.next range.most

  body-length : length (l.session ++ chars) ≡ login_size
  body-length = length-append l.session chars ∙ omega (arith, chars-length)

  session-part : login_session (l.session ++ chars) ≡ l.session
  unfolding part
  session-part = take_at l.session chars session_size ten

  chars-part : login_number (l.session ++ chars) ≡ chars
  unfolding part
  chars-part = ap (take number_size) (drop_at l.session chars session_size ten) ∙ take_all number_size chars (omega (arith, chars-length))

  login-frame : (bs : List ℕ) → frame (login_packet l.session l.next ++ bs) ≡ packet 65 (l.session ++ chars) bs
  login-frame bs = frame-packet 65 (l.session ++ chars) bs (omega (arith, body-length))

  follows-own : follows (waiting l.session l.next) l.session l.next ≡ true
  unfolding follows
  follows-own = rw (test-self l.session, eq-eqb l.next l.next refl)

  login-found : packet_of (waiting l.session l.next) 65 (l.session ++ chars) ≡ packets.Login l.next
  unfolding packet_of entry_of packet_table login_of
  login-found =
      rw (body-length, chars-part, session-part, after-of number_size l.next range.some range.most, follows-own)

-- a line that is logged in is the restored one after its login
line-back : (l : Line) → LoggedIn l → record { session = l.session; known = true; logged = true; next = l.next } ≡ l
line-back l h =
    ap (λ (k : Bool). let r : Line = record { session = l.session; known = k; logged = true; next = l.next } in r) (sym h.known)
    ∙ ap (λ (k : Bool). let r : Line = record { session = l.session; known = l.known; logged = k; next = l.next } in r) (sym h.logged)

module _ {D E : Type 0} (deliver : D → List ℕ → Delivered D E) where
  logged-again : (s : Session D) (range : InRange s.line) (h : LoggedIn s.line)
      → soup_bin_tcp deliver (restored s) 65 (s.line.session ++ spaces_then_chars number_size s.line.next) ≡ accept (login s.line.next s.line.session) s
  unfolding soup_bin_tcp
  logged-again s range h =
      ap (does deliver (restored s) (s.line.session ++ spaces_then_chars number_size s.line.next)) (login-found s.line range h.ten)
      ∙ simp (session-part s.line range h.ten)
      (ap (λ (l : Line). accept (login s.line.next s.line.session) (let r : Session D = record { line = l; about = s.about } in r)) (line-back s.line h))

  -- STOP, RESTORE, LOG IN, GO ON: the login is told, and then exactly what the reader that never stopped reads
  pub resume : (s : Session D) → InRange s.line → LoggedIn s.line → (bs : List ℕ)
      → reading (soup_bin_tcp deliver) (live (restored s) []) (login_packet s.line.session s.line.next ++ bs)
      ≡ first (login s.line.next s.line.session) (reading (soup_bin_tcp deliver) (live s []) bs)
  unfolding reading
  resume s range h bs =
      reading-at (soup_bin_tcp deliver) (restored s) (login_packet s.line.session s.line.next ++ bs) (login-frame s.line range h.ten bs)
      ∙ ap (judged (read_all (soup_bin_tcp deliver)) bs) (logged-again s range h)

  -- STOP ANYWHERE AFTER A LOGIN. The bytes `xs` were read, and `held` are those of a packet that was not whole. The session is restored, without them,
  -- and is given a login for its session and next number and then the bytes from `held` on: it tells the login, and then what the reader tells that
  -- never stopped.
  pub stop-anywhere : (s₀ s : Session D) (xs held bs : List ℕ) {es : List (Event E)} → InRange s₀.line
      → reading (soup_bin_tcp deliver) (live s₀ []) xs ≡ record { events = es; state = live s held } → any_login es ≡ true
      → (reading (soup_bin_tcp deliver) (live (restored s) []) (login_packet s.line.session s.line.next ++ (held ++ bs))
      ≡ first (login s.line.next s.line.session) (reading (soup_bin_tcp deliver) (live s held) bs))
      × (reading (soup_bin_tcp deliver) (live s₀ []) (xs ++ bs) ≡ record { events = es; state = live s held } then (λ st. reading (soup_bin_tcp deliver) st bs))
  unfolding reading
  stop-anywhere s₀ s xs held bs range e z =
      let r : InRange s.line = rw (ap (λ (r : Run (Session D) (Event E)). r.state) e) at (session-keeps deliver (range-stays deliver) (live s₀ []) xs range) in (
        resume s r (login-told deliver s₀ [] xs e z) (held ++ bs),
        reading-cut (soup_bin_tcp deliver) (live s₀ []) xs bs ∙ ap (λ (r : Run (Session D) (Event E)). r then (λ st. reading (soup_bin_tcp deliver) st bs)) e,
      )
