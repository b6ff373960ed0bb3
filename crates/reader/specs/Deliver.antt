-- What a message does to what messages are about: it is read, and then applied to the table.
-- Assumes nothing.
use Rattle.std.specs.Prelude.{ℕ, List}
use Rattle.message.specs.declared.Message.{Message}
use Rattle.message.specs.declared.Texts.{Texts}
use Rattle.message.specs.Message as messages
use Rattle.message.specs.Message.{read_of}
use Rattle.packet.specs.Session.{Delivered, done, denied}
use Rattle.table.specs.Board as tables
use Rattle.table.specs.Memory.{Memories, memories}
use Rattle.table.specs.Board.{Indexed, apply_of}
use Rattle.table.specs.declared.Board.{Board}
use Rattle.std.specs.Prelude.{Err}
use Rattle.std.specs.Prelude.{Ok}
use Rattle.std.specs.Prelude.{Result}
use Rattle.message.specs.declared.Refusal.{Refusal}
use Rattle.table.specs.declared.Refusal as table_refusal

-- the table: the board, and the memory with the rows and their index
pub record Table : Type 0 where
  pub board : Board
  pub memory : Memories

abbrev pub table_of : Board → Memories → Table
table_of board memory = record { board = board; memory = memory }

-- what an accepted message says: its record, and the texts beside it
pub record Said : Type 0 where
  pub message : Message
  pub texts : Texts

abbrev pub said : Message → Texts → Said
said message texts = record { message = message; texts = texts }

-- applied to the table: 13 to 16, or 20 where its index leads astray, or what it says
abbrev pub settled_by : Result (Unit {0}) table_refusal.Refusal → Said → Table → Delivered Table Said
settled_by (Ok u) x t = done x t
settled_by (Err r) x t = denied (tables.refusal_number r) t

abbrev pub table_by : Indexed → Table
table_by o = table_of o.outcome.applied.board (memories o.outcome.memory o.index)

abbrev pub settled : Said → Indexed → Delivered Table Said
settled x o = settled_by o.outcome.applied.verdict x (table_by o)

-- read: 10 to 12, or applied
abbrev pub heard : Table → Texts → Result Message Refusal → Delivered Table Said
heard t texts (Err r) = denied (messages.refusal_number r) t
heard t texts (Ok m) = settled (said m texts) (apply_of t.board m texts t.memory)

-- A MESSAGE
unfoldable pub deliver : Table → List ℕ → Delivered Table Said
deliver t body =
    let r = read_of body in
    heard t r.texts r.answer
