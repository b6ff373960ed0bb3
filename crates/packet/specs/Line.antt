-- The session line, and what a whole packet is to it, in document 01's order of checking.
-- Assumes nothing.
use Rattle.std.specs.Prelude.{ℕ, ◌+◌, ◌≤◌, Bool, true, false, cond, not, ◌&&◌, ◌||◌, List, ◌≡◌, eqb, length, get_or, replicate}
use Rattle.field.specs.Bytes.{part, same}
use Rattle.field.specs.Decimal.{number_after_spaces}
use Rattle.std.specs.Prelude.{Option}
use Rattle.std.specs.Prelude.{Some, None}
use Rattle.field.specs.Limits.{highest_number}
use Rattle.packet.specs.Numbering.{first_number, none_left, number_after}
use Rattle.packet.specs.Table.{packet_table, entry_of, in_place, of_size}
use Rattle.packet.specs.declared.Line.{Line}
use Rattle.packet.specs.declared.table.Meaning.{Meaning}
use Rattle.packet.specs.declared.table.Meaning.TheVariants as meaning
use Rattle.packet.specs.declared.Fault.TheVariants.{UnknownLetter, WrongPlace, BadForm, NotNext, NumbersUsedUp}
use Rattle.packet.specs.declared.Packet.{Packet}
use Rattle.packet.specs.declared.Packet.TheVariants.{Login, Rejected, Message, Heartbeat, End, Skipped, Refused}
use Rattle.packet.specs.declared.table.Place.{Place}

-- ---- lines

-- a session has 10 bytes; a login's body is its session, and its number in 20 characters
abbrev pub session_size : ℕ
session_size = 10

abbrev pub number_size : ℕ
number_size = 20

abbrev pub login_size : ℕ
login_size = session_size + number_size

abbrev pub login_session : List ℕ → List ℕ
login_session body = part body 0 session_size

abbrev pub login_number : List ℕ → List ℕ
login_number body = part body session_size number_size

-- no known session is ten spaces
abbrev pub fresh_line : Line
fresh_line = record { session = replicate session_size 32; known = false; logged = false; next = first_number }

-- restored with a known session
abbrev pub waiting : List ℕ → ℕ → Line
waiting session next = record { session = session; known = true; logged = false; next = next }

-- after a login with that session, and after an accepted message
abbrev pub logged_in : Line → List ℕ → Line
logged_in l session = record { session = session; known = true; logged = true; next = l.next }

abbrev pub counted : Line → Line
counted l = record { session = l.session; known = l.known; logged = l.logged; next = number_after l.next }

-- the next number is 1 to 10 ^ 12
pub record InRange (l : Line) : Type 0 where
  pub some : first_number ≤ l.next
  pub most : l.next ≤ highest_number

-- a login was accepted on the line
pub record LoggedIn (l : Line) : Type 0 where
  pub known : l.known ≡ true
  pub logged : l.logged ≡ true
  pub ten : length l.session ≡ session_size

-- ---- a login

-- a known session is the same, and the number is next
unfoldable pub follows : Line → List ℕ → ℕ → Bool
follows l session n = (not l.known || same l.session session) && eqb n l.next

abbrev pub login_with : Line → List ℕ → Option ℕ → Packet
login_with l session None = Refused BadForm
login_with l session (Some n) = cond (follows l session n) (Login n) (Refused NotNext)

unfoldable pub login_of : Line → List ℕ → Packet
login_of l body = login_with l (login_session body) (number_after_spaces (login_number body))

-- ---- what a packet is to a line

-- in place and of the right L, by its meaning
abbrev pub meant_of : Line → List ℕ → Meaning → Packet
meant_of l body meaning.LoginAccepted = login_of l body
meant_of l body meaning.LoginRejected = Rejected (get_or body 0 0)
meant_of l body meaning.Message = cond (none_left l.next) (Refused NumbersUsedUp) Message
meant_of l body meaning.Heartbeat = Heartbeat
meant_of l body meaning.EndOfSession = End
meant_of l body meaning.Skipped = Skipped

-- the letter, the place, L
abbrev pub packet_by : Line → List ℕ → Option (Option ℕ × Meaning × Place) → Packet
packet_by l body None = Refused UnknownLetter
packet_by l body (Some (size, means, place)) =
    cond (in_place place l.logged)
    (cond (of_size size (length body + 1)) (meant_of l body means) (Refused BadForm))
    (Refused WrongPlace)

unfoldable pub packet_of : Line → ℕ → List ℕ → Packet
packet_of l letter body = packet_by l body (entry_of letter packet_table)

abbrev pub is_message : Packet → Bool
is_message (Login n) = false
is_message (Rejected reason) = false
is_message Message = true
is_message Heartbeat = false
is_message End = false
is_message Skipped = false
is_message (Refused fault) = false

-- what the table has seen to before a meaning is looked at
abbrev pub BodyFits : Meaning → ℕ → Type 0
BodyFits meaning.LoginAccepted n = n ≡ login_size
BodyFits meaning.LoginRejected n = n ≡ 1
BodyFits meaning.Message n = Unit
BodyFits meaning.Heartbeat n = n ≡ 0
BodyFits meaning.EndOfSession n = n ≡ 0
BodyFits meaning.Skipped n = Unit
