-- What a refusal leaves.
-- Assumes nothing.
use Rattle.std.specs.Prelude.{◌≡◌, false}
use Rattle.table.specs.Memory.{Memories}
use Rattle.reader.specs.Refusals.{refusal_number}
use Rattle.reader.specs.View.{no_text}
use Rattle.reader.specs.declared.Refusal.{Refusal}
use Rattle.reader.specs.declared.Reader.{Reader}
use Rattle.reader.specs.declared.Stepped.{Stepped}
use Rattle.reader.specs.declared.Why.{Why}
use Rattle.reader.specs.declared.Ran.{Ran}

-- refusals 1 to 16: the table, its index and the handle are as they were, but nothing is held and the refusal stands
pub record Leaves (r : Reader) (t : Memories) (x : Refusal) (s : Stepped) (t' : Memories) : Type 0 where
  pub memory : t' ≡ t
  pub line : s.reader.line ≡ r.line
  pub board : s.reader.board ≡ r.board
  pub ended : s.reader.ended ≡ false
  pub standing : s.reader.refusal ≡ refusal_number x
  pub used : s.reader.used ≡ 0
  pub texts : s.texts ≡ no_text

-- a run that takes nothing, finishes nothing and leaves the handle
abbrev pub still_ran : Reader → Why → Ran
still_ran r w = record { reader = r; taken = 0; finished = 0; why = w }
