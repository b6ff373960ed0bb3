-- The limits of a handle: one that breaks them, or memory of the wrong length, is refusal 20.
-- Assumes nothing.
use Rattle.std.specs.Prelude.{ℕ, Bool, true, false, ◌&&◌, List, [], eqb, leb, length}
use Rattle.field.specs.Limits.{number_in_range}
use Rattle.packet.specs.Frame.{Framed, short, bad_length, packet, frame, held_size}
use Rattle.table.specs.Memory.{Memories}
use Rattle.table.specs.Index.{is_index}
use Rattle.table.specs.Board.{fits}
use Rattle.handle.specs.declared.Head.{Head}
use Rattle.reader.specs.Refusals.{standing}
use Rattle.reader.specs.View.{held_of, reader_with}
use Rattle.reader.specs.declared.Reader.{Reader}

abbrev pub is_short : Framed → Bool
is_short short = true
is_short (bad_length rest) = false
is_short (packet letter body rest) = false

-- an unfinished packet of allowed length; a lone first byte may be any
unfoldable pub unfinished : List ℕ → Bool
unfinished bs = is_short (frame bs)

-- what is held: as many bytes as there is room for, and no whole packet
unfoldable pub holds_unfinished : Reader → Bool
holds_unfinished r = leb r.used held_size && unfinished (held_of r)

-- memory of the right length and no more rows than it has; the next number; what is held; a standing refusal
unfoldable pub within_limits : Reader → List ℕ → Bool
within_limits r memory =
    fits r.board memory && (number_in_range r.line.next && (holds_unfinished r && standing r.refusal))

-- and for a step, which is lent an index, one of the right length (W-207)
unfoldable pub may_step : Reader → Memories → Bool
may_step r memory = within_limits r memory.table && is_index memory.index

-- where the places of held bytes are lent: as many as a handle has, and the limits of the handle
unfoldable pub lent_within : Head → List ℕ → List ℕ → Bool
lent_within h held memory = eqb (length held) held_size && within_limits (reader_with h held) memory

-- a head with these numbers, on which the limits are; whatever else it has
abbrev pub head_with : ℕ → ℕ → ℕ → ℕ → Head
head_with rows next used refusal =
    record {
      line = record { session = []; known = false; logged = false; next = next };
      board = record { rows = rows; event = 0; live = 0 };
      ended = false;
      refusal = refusal;
      used = used;
    }
