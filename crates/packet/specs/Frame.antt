-- A packet is a 2-byte length L, a letter, and L - 1 more bytes. L is 1 to 256.
-- Assumes nothing.
use Rattle.std.specs.Prelude.{ℕ, ◌+◌, ◌-◌, ◌&&◌, cond, List, [], ◌∷◌, ◌++◌, leb, ltb, length, take, drop, get_or}
use Rattle.field.specs.Bytes.{be, bytes_be}
use Rattle.packet.specs.declared.Framing.{Framing}
use Rattle.packet.specs.declared.Framing.TheVariants.{Short, BadLength, Whole}

-- the longest L
abbrev pub longest_packet : ℕ
longest_packet = 256

-- the bytes of a packet
unfoldable pub packet_bytes : ℕ → List ℕ → List ℕ
packet_bytes letter body = bytes_be 2 (length body + 1) ++ (letter ∷ body)

-- What stands at the front of some bytes: a packet that is not whole yet; a length that no packet has, and the bytes after it; or a packet's letter
-- and body, and the bytes after it.
pub data Framed : Type 0 where
  short : Framed
  bad_length : List ℕ → Framed
  packet : ℕ → List ℕ → List ℕ → Framed

-- the same where L has been read, and `bs` are the bytes after it
unfoldable pub framed : ℕ → List ℕ → Framed
framed L bs =
    cond (leb 1 L && leb L longest_packet)
    (cond (leb L (length bs)) (packet (get_or bs 0 0) (take (L - 1) (drop 1 bs)) (drop L bs)) short)
    (bad_length bs)

unfoldable pub frame : List ℕ → Framed
frame [] = short
frame (high ∷ []) = short
frame (high ∷ low ∷ bs) = framed (be (high ∷ low ∷ [])) bs

-- what the code's `front` says of it: of a packet, its L
abbrev pub front_of : Framed → Framing
front_of short = Short
front_of (bad_length rest) = BadLength
front_of (packet letter body rest) = Whole (length body + 1)

-- ---- an unfinished packet, held between calls

-- the longest packet with its length bytes
abbrev pub held_size : ℕ
held_size = longest_packet + 2

-- how many of `n` bytes there is room for behind `used` held ones
unfoldable pub room_for : ℕ → ℕ → ℕ
room_for used n = cond (ltb n (held_size - used)) n (held_size - used)
