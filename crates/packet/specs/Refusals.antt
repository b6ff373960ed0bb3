-- The refusals of a packet by name, and document 01's number of each.
-- Assumes nothing.
use Rattle.std.specs.Prelude.{ℕ}
use Rattle.packet.specs.declared.Fault.{Fault}
use Rattle.packet.specs.declared.Fault.TheVariants.{BadLength, UnknownLetter, WrongPlace, BadForm, NotNext, NumbersUsedUp}

-- `BadForm` is a wrong L or a bad login number, `NotNext` another session or a number that is not next
abbrev pub fault_number : Fault → ℕ
fault_number BadLength = 1
fault_number UnknownLetter = 2
fault_number WrongPlace = 3
fault_number BadForm = 4
fault_number NotNext = 5
fault_number NumbersUsedUp = 6
