-- The numbering of messages: each takes the next number, and none is taken when that is the highest.
-- Assumes nothing.
use Rattle.std.specs.Prelude.{ℕ, ◌+◌, Bool, eqb}
use Rattle.field.specs.Limits.{highest_number}

abbrev pub first_number : ℕ
first_number = 1

abbrev pub none_left : ℕ → Bool
none_left next = eqb next highest_number

abbrev pub number_after : ℕ → ℕ
number_after next = next + 1
