-- Equal answers: readers are compared by all that they have, but for the places past the held bytes.
-- Assumes nothing.
use Rattle.std.specs.Prelude.{◌≡◌}
use Rattle.table.specs.Memory.{Memories}
use Rattle.reader.specs.View.{held_of}
use Rattle.reader.specs.declared.Reader.{Reader}
use Rattle.reader.specs.declared.Stepped.{Stepped}
use Rattle.reader.specs.declared.Ran.{Ran}
use Rattle.reader.specs.declared.Started.{Started}
use Rattle.reader.specs.declared.Restored.{Restored}

pub record SameReader (a b : Reader) : Type 0 where
  pub line : a.line ≡ b.line
  pub board : a.board ≡ b.board
  pub ended : a.ended ≡ b.ended
  pub refusal : a.refusal ≡ b.refusal
  pub used : a.used ≡ b.used
  pub held : held_of a ≡ held_of b

-- two answers of a step, and the memories that they leave
pub record SameStep (a b : Stepped) (t t' : Memories) : Type 0 where
  pub reader : SameReader a.reader b.reader
  pub taken : a.taken ≡ b.taken
  pub answer : a.answer ≡ b.answer
  pub texts : a.texts ≡ b.texts
  pub memory : t ≡ t'

-- and of a run
pub record SameRun (a b : Ran) (t t' : Memories) : Type 0 where
  pub reader : SameReader a.reader b.reader
  pub taken : a.taken ≡ b.taken
  pub finished : a.finished ≡ b.finished
  pub why : a.why ≡ b.why
  pub memory : t ≡ t'

-- and of starting
pub record SameStart (a b : Started) (t t' : Memories) : Type 0 where
  pub reader : SameReader a.reader b.reader
  pub answer : a.answer ≡ b.answer
  pub memory : t ≡ t'

-- and of restoring
pub record SameRestore (a b : Restored) (t t' : Memories) : Type 0 where
  pub reader : SameReader a.reader b.reader
  pub verdict : a.verdict ≡ b.verdict
  pub memory : t ≡ t'
