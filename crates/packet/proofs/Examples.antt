-- The definitions compute on bytes: sessions of several packets, whole and cut, and the limits of L.
-- Assumes nothing.
use mathlib.Core.Path.{◌≡◌, refl}
use mathlib.Core.Bool.{true}
use mathlib.Core.List.{List, [], ◌∷◌, ◌++◌}
use Prim.Native.Nat.{ℕ, ◌+◌}
use lib.ListN.{take, drop, replicate}
use Rattle.field.specs.Bytes.{part, same, value, digits}
use Rattle.field.specs.Text.{every, leading}
use Rattle.field.specs.Decimal.{decimal, begins_with_non_zero, number_of, number_after_spaces, digit_chars, digit_count_in, digit_count, chars, spaces_then_chars}
use Rattle.packet.specs.Frame.{packet_bytes, framed, frame}
use Rattle.packet.specs.Stream as stream
use Rattle.packet.specs.Stream.{Refused, live, ended, refused_by, Run, packets, read_all, reading, step_of, give, calls}
use Rattle.packet.specs.Table.{packet_table, entry_of}
use Rattle.packet.specs.Line.{fresh_line, follows, login_of, packet_of}
use Rattle.packet.specs.Session.{Delivered, done, denied, Event, login, message, heartbeat, end, skipped, Session, soup_bin_tcp, login_packet}

-- a message is one byte, which is its event and is added up
abbrev sum : ℕ → List ℕ → Delivered ℕ ℕ
sum total [] = denied 10 total
sum total (b ∷ []) = done b (total + b)
sum total (b ∷ c ∷ bs) = denied 11 total

-- before any login, and logged in to the session "ABCDEFGHIJ" at a next number and a total
abbrev name : List ℕ
name = 65 ∷ 66 ∷ 67 ∷ 68 ∷ 69 ∷ 70 ∷ 71 ∷ 72 ∷ 73 ∷ 74 ∷ []

abbrev before : Session ℕ
before = record { line = fresh_line; about = 0 }

abbrev open_at : ℕ → ℕ → Session ℕ
open_at n total = record { line = record { session = name; known = true; logged = true; next = n }; about = total }

-- a login, the message 5, a heartbeat, a packet to skip, the message 7, the end, and a packet after it that is not read
abbrev bytes : List ℕ
bytes =
    0 ∷ 31 ∷ 65 ∷ 65 ∷ 66 ∷ 67 ∷ 68 ∷ 69 ∷ 70 ∷ 71 ∷ 72 ∷ 73 ∷ 74
    ∷ 32 ∷ 32 ∷ 32 ∷ 32 ∷ 32 ∷ 32 ∷ 32 ∷ 32 ∷ 32 ∷ 32 ∷ 32 ∷ 32 ∷ 32 ∷ 32 ∷ 32 ∷ 32 ∷ 32 ∷ 32 ∷ 32 ∷ 49
    ∷ 0 ∷ 2 ∷ 83 ∷ 5 ∷ 0 ∷ 1 ∷ 72 ∷ 0 ∷ 3 ∷ 43 ∷ 1 ∷ 2 ∷ 0 ∷ 2 ∷ 83 ∷ 7 ∷ 0 ∷ 1 ∷ 90 ∷ 0 ∷ 1 ∷ 72 ∷ []

abbrev told : Run (Session ℕ) (Event ℕ)
told = record { events = login 1 name ∷ message 5 ∷ heartbeat ∷ skipped ∷ message 7 ∷ end ∷ []; state = ended (open_at 3 12) [] }

read_whole : reading (soup_bin_tcp sum) (live before []) bytes ≡ told
unfolding reading read_all packets frame framed value soup_bin_tcp packet_of entry_of packet_table login_of follows part same number_after_spaces number_of begins_with_non_zero decimal every leading
read_whole = refl

-- in four pieces: a lone first byte, none, up to the inside of the first message, and the rest
read-cut : calls (soup_bin_tcp sum) (live before []) (take 1 bytes ∷ [] ∷ part bytes 1 35 ∷ drop 36 bytes ∷ []) ≡ told
unfolding calls give step_of frame framed value soup_bin_tcp packet_of entry_of packet_table login_of follows part same number_after_spaces number_of begins_with_non_zero decimal every leading
read-cut = refl

-- the first 33 bytes are the login packet for that session and number
login-bytes : login_packet name 1 ≡ take 33 bytes
unfolding packet_bytes spaces_then_chars chars digit_chars digit_count digit_count_in digits
login-bytes = refl

-- a session stops at its first refusal, as it was before that packet: a message of no bytes takes no number
stops : reading (soup_bin_tcp sum) (live (open_at 3 12) []) (0 ∷ 2 ∷ 83 ∷ 5 ∷ 0 ∷ 1 ∷ 83 ∷ 0 ∷ 1 ∷ 72 ∷ [])
    ≡ record { events = message 5 ∷ []; state = refused_by 10 (open_at 4 17) }
unfolding reading read_all packets frame framed value soup_bin_tcp packet_of entry_of packet_table
stops = refl

-- L is 1 to 256, and refusal 1 is given on the second byte
length-0 : step_of (soup_bin_tcp sum) (live before []) (0 ∷ 0 ∷ 7 ∷ []) ≡ record { state = refused_by 1 before; taken = 2; answer = Refused 1 }
unfolding step_of frame framed value
length-0 = refl

length-257 : step_of (soup_bin_tcp sum) (live before (1 ∷ [])) (1 ∷ []) ≡ record { state = refused_by 1 before; taken = 1; answer = Refused 1 }
unfolding step_of frame framed value
length-257 = refl

length-256 : step_of (soup_bin_tcp sum) (live before []) (1 ∷ 0 ∷ 43 ∷ (replicate 255 9 ++ (0 ∷ [])))
    ≡ record { state = live before []; taken = 258; answer = stream.Event skipped }
unfolding step_of frame framed value soup_bin_tcp packet_of entry_of packet_table
length-256 = refl
