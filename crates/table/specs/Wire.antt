-- What a message does to the table, straight from its bytes, which have passed their test.
-- Assumes nothing.
use Rattle.std.specs.Prelude.{ℕ, ◌+◌, ◌*◌, ◌≤◌, ◌≡◌, cond, List, eqb, length, get_or}
use Rattle.message.specs.Message.{read_of}
use Rattle.message.specs.Test.{tested}
use Rattle.row.specs.Fields.{row_size}
use Rattle.row.specs.Wire.{action_in, directory_in, texts_in, quote_in}
use Rattle.table.specs.Memory.{Memories, row, with_row, Found, At, Nothing}
use Rattle.table.specs.Index.{LentFitting, entered}
use Rattle.table.specs.Board.{Outcome, accepted, refused, one_more, directory_at, action_at, quote_at}
use Rattle.table.specs.declared.Board.{Board}
use Rattle.table.specs.declared.wire.Placed.{Placed}
use Rattle.table.specs.declared.wire.Placed.TheVariants.{Kept, Added, Refused}

-- an answer, with the board that it was asked for and the memory that it leaves
abbrev pub placed : Placed → Board → List ℕ → Outcome
placed Kept b mem = accepted b mem
placed Added b mem = accepted (one_more b) mem
placed (Refused r) b mem = refused r b mem

-- and the index: a row that was added enters at the place that was left for it
abbrev pub index_by : Placed → ℕ → ℕ → List ℕ → List ℕ
index_by Kept rows p ix = ix
index_by Added rows p ix = entered ix rows p rows
index_by (Refused r) rows p ix = ix

-- bytes of a message that looks for a row: neither S nor M
pub record Rowed (bs : List ℕ) : Type 0 where
  pub passed : tested (read_of bs) ≡ 0
  pub no_event : get_or bs 0 0 ≡ 83 → ⊥
  pub no_end : get_or bs 0 0 ≡ 77 → ⊥

-- and memories that have the rows in use
pub record Placeable (rows : ℕ) (bs : List ℕ) (l : Memories) : Type 0 where
  pub passed : tested (read_of bs) ≡ 0
  pub no_event : get_or bs 0 0 ≡ 83 → ⊥
  pub no_end : get_or bs 0 0 ≡ 77 → ⊥
  pub fitting : LentFitting rows l

-- what such bytes say to the table: H, m, and the six letters of quotes
unfoldable pub effect_in : List ℕ → Board → List ℕ → Found → Outcome
effect_in bs b mem w =
    cond (eqb (get_or bs 0 0) 72) (action_at b (action_in bs) mem w)
    (cond (eqb (get_or bs 0 0) 109) (directory_at b (directory_in bs) (texts_in bs) mem w) (quote_at b (quote_in bs) mem w))

-- a row lent by itself: the answer and the row that it leaves are those of the table, whichever table and row it is of
pub record AtRow (does : Board → List ℕ → Found → Outcome) (before after : List ℕ) (r : Placed) : Type 0 where
  pub told : (b : Board) (k : ℕ) (mem : List ℕ) → k * row_size + row_size ≤ length mem → row k mem ≡ before
      → placed r b (with_row k after mem) ≡ does b mem (At k)

-- the table, where no row has the id
pub record AtNone (does : Board → List ℕ → Found → Outcome) (rows : ℕ) (before after : List ℕ) (r : Placed) : Type 0 where
  pub told : (b : Board) → b.rows ≡ rows → placed r b after ≡ does b before Nothing
