-- The digit that a program writes where it does not end well.
-- Assumes nothing.
use Rattle.std.specs.Prelude.{ℕ}
use Rattle.files.specs.declared.status.Fault.{Fault}
use Rattle.files.specs.declared.status.Fault.TheVariants.{Failed, Wrong, Refused}

abbrev pub digit_of : Fault → ℕ
digit_of Failed = 1
digit_of Wrong = 2
digit_of Refused = 3
