-- SoupBinTCP 3.00 from the server: what a packet does to a session. What a message does is a parameter, `deliver`.
-- Assumes nothing.
use Rattle.std.specs.Prelude.{ℕ, ◌+◌, Bool, true, false, ◌||◌, List, [], ◌∷◌, ◌++◌}
use Rattle.field.specs.Decimal.{spaces_then_chars}
use Rattle.packet.specs.Frame.{packet_bytes}
use Rattle.packet.specs.Refusals.{fault_number}
use Rattle.packet.specs.Stream.{Verdict, accept, finish, refuse, State, live, ended, refused}
use Rattle.packet.specs.Line.{number_size, login_session, waiting, logged_in, counted, packet_of}
use Rattle.packet.specs.declared.Line.{Line}
use Rattle.packet.specs.declared.Packet.{Packet}
use Rattle.packet.specs.declared.Packet.TheVariants.{Login, Rejected, Message, Heartbeat, End, Skipped, Refused}

-- what a message did to what is above the line: accepted, with its event; or refused, by a number; and what it left
pub data Delivered (D E : Type 0) : Type 0 where
  done : E → D → Delivered D E
  denied : ℕ → D → Delivered D E

-- a login has its number and session, a rejected one its reason byte
pub data Event (E : Type 0) : Type 0 where
  login : ℕ → List ℕ → Event E
  rejected : ℕ → Event E
  message : E → Event E
  heartbeat : Event E
  end : Event E
  skipped : Event E

-- a line, and what the messages are about
pub record Session (D : Type 0) : Type 0 where
  pub line : Line
  pub about : D

module _ {D E : Type 0} where
  -- an accepted message takes the next number
  abbrev pub delivered : Line → Delivered D E → Verdict (Session D) (Event E)
  delivered l (done e d) = accept (message e) (record { line = counted l; about = d })
  delivered l (denied n d) = refuse n (record { line = l; about = d })

module _ {D E : Type 0} (deliver : D → List ℕ → Delivered D E) where
  abbrev pub does : Session D → List ℕ → Packet → Verdict (Session D) (Event E)
  does s body (Login n) = accept (login n (login_session body)) (record { line = logged_in s.line (login_session body); about = s.about })
  does s body (Rejected reason) = finish (rejected reason) s
  does s body Message = delivered s.line (deliver s.about body)
  does s body Heartbeat = accept heartbeat s
  does s body End = finish end s
  does s body Skipped = accept skipped s
  does s body (Refused fault) = refuse (fault_number fault) s

  -- THE JUDGE OF A SESSION
  unfoldable pub soup_bin_tcp : Session D → ℕ → List ℕ → Verdict (Session D) (Event E)
  soup_bin_tcp s letter body = does s body (packet_of s.line letter body)

-- ---- what a session's events tell

module _ {E : Type 0} where
  -- an accepted message takes a number, and nothing else does
  abbrev pub numbers_of : Event E → ℕ
  numbers_of (login n session) = 0
  numbers_of (rejected reason) = 0
  numbers_of (message e) = 1
  numbers_of heartbeat = 0
  numbers_of end = 0
  numbers_of skipped = 0

  -- how many messages were accepted
  unfoldable pub messages : List (Event E) → ℕ
  messages [] = 0
  messages (e ∷ es) = numbers_of e + messages es

  -- was a login accepted?
  abbrev pub is_login : Event E → Bool
  is_login (login n session) = true
  is_login (rejected reason) = false
  is_login (message e) = false
  is_login heartbeat = false
  is_login end = false
  is_login skipped = false

  unfoldable pub any_login : List (Event E) → Bool
  any_login [] = false
  any_login (e ∷ es) = is_login e || any_login es

-- the next number of a reader
abbrev pub next_in : {D : Type 0} → State (Session D) → ℕ
next_in (live s held) = s.line.next
next_in (ended s held) = s.line.next
next_in (refused s held e n) = s.line.next

-- ---- stopping and going on

-- saved and restored, a session is known and waits for its login
abbrev pub restored : {D : Type 0} → Session D → Session D
restored s = record { line = waiting s.line.session s.line.next; about = s.about }

-- the login packet for a session and a number; A is 65
abbrev pub login_packet : List ℕ → ℕ → List ℕ
login_packet session n = packet_bytes 65 (session ++ spaces_then_chars number_size n)
