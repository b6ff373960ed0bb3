-- What feeding a reader promises: all of a piece is given to it, and it is left as the reading of the piece leaves it.
-- Assumes nothing.
use Rattle.std.specs.Prelude.{ℕ, ◌+◌, ◌≡◌, Bool, ◌&&◌, not, List, eqb, drop}
use Rattle.packet.specs.Stream.{reading}
use Rattle.packet.specs.Session.{soup_bin_tcp}
use Rattle.table.specs.Memory.{Memories}
use Rattle.reader.specs.Deliver.{deliver}
use Rattle.reader.specs.View.{state_of}
use Rattle.reader.specs.Running.{most_packets, Running}
use Rattle.reader.specs.declared.Reader.{Reader}
use Rattle.reader.specs.declared.Ran.{Ran}
use Rattle.demands.specs.Sound.{Ours}
use Rattle.toplist.specs.declared.session.Reached.{Reached}

-- one that has neither refused nor ended
abbrev pub takes_more : Reader → Bool
takes_more r = eqb r.refusal 0 && not r.ended

-- one run with the highest ceiling, given the bytes of the piece from where the reader stands in it
pub record RunsFrom (a : Reached) (t : Memories) (piece : List ℕ) (b : Reached) (t' : Memories) : Type 0 where
  pub ran : Ran
  pub promise : Running a.reader t (drop a.at piece) most_packets ran t'
  pub reader : b.reader ≡ ran.reader
  pub at : b.at ≡ a.at + ran.taken

-- THE PROMISE OF FEEDING: of a reader, a table and an index that our own calls made, those that are left are those of the reading of the whole piece, and
-- as our own calls make them
pub record Fed (r : Reader) (t : Memories) (piece : List ℕ) (r' : Reader) (t' : Memories) : Type 0 where
  pub ours : Ours r' t'
  pub state : state_of r' t' ≡ (reading (soup_bin_tcp deliver) (state_of r t) piece).state

abbrev pub Feeds : Reader → Memories → List ℕ → Reader → Memories → Type 0
Feeds r t piece r' t' = Ours r t → Fed r t piece r' t'

-- and of bytes that only the system knows
abbrev pub Stays : Reader → Memories → Reader → Memories → Type 0
Stays r t r' t' = Ours r t → Ours r' t'
