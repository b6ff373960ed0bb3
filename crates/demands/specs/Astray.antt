-- W-207: a step that an index leads astray.
-- Assumes nothing.
use Rattle.std.specs.Prelude.{ℕ, ◌≡◌, List}
use Rattle.message.specs.Message.{read_of}
use Rattle.message.specs.declared.Message as code
use Rattle.packet.specs.Frame.{packet, frame}
use Rattle.packet.specs.Line.{packet_of}
use Rattle.packet.specs.Session.{Session}
use Rattle.packet.specs.declared.Packet.TheVariants.{Message}
use Rattle.table.specs.Board.{look}
use Rattle.table.specs.declared.index.Sought.TheVariants.{Astray}
use Rattle.reader.specs.Deliver.{Table}
use Rattle.std.specs.Prelude.{Ok}

-- the body is that of a message, and a place that the search for its row visits names no row in use
pub record Leads (t : Table) (body : List ℕ) : Type 0 where
  pub message : code.Message
  pub read : (read_of body).answer ≡ Ok message
  pub astray : look t.board message t.memory ≡ Astray

-- the bytes begin with a whole packet that is a message for the next number, and the index leads it astray
pub record LedAstray (s : Session Table) (bs : List ℕ) : Type 0 where
  pub letter : ℕ
  pub body : List ℕ
  pub rest : List ℕ
  pub framed : frame bs ≡ packet letter body rest
  pub is : packet_of s.line letter body ≡ Message
  pub leads : Leads s.about body
