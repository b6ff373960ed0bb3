-- The refusals of a call by name, and document 01's number of each.
-- Assumes nothing.
use Rattle.std.specs.Prelude.{ℕ, Bool, ◌&&◌, ◌||◌, cond, List, [], ◌∷◌, eqb, leb, Result, Ok, Err}
use Rattle.reader.specs.declared.Refusal.{Refusal}
use Rattle.reader.specs.declared.Refusal.TheVariants.{Unfit, BadPacketLength, UnknownPacket, WrongPlace, BadForm, NotNext, NumbersUsedUp, UnknownMessage, WrongLength, BadField, NoRow, NoQuotes, FixedField, TableFull, HighCeiling}

abbrev pub refusal_number : Refusal → ℕ
refusal_number Unfit = 20
refusal_number BadPacketLength = 1
refusal_number UnknownPacket = 2
refusal_number WrongPlace = 3
refusal_number BadForm = 4
refusal_number NotNext = 5
refusal_number NumbersUsedUp = 6
refusal_number UnknownMessage = 10
refusal_number WrongLength = 11
refusal_number BadField = 12
refusal_number NoRow = 13
refusal_number NoQuotes = 14
refusal_number FixedField = 15
refusal_number TableFull = 16
refusal_number HighCeiling = 27

-- the number of an answer: 0, or that of the refusal
abbrev pub number_in : Result (Unit {0}) Refusal → ℕ
number_in (Ok u) = 0
number_in (Err r) = refusal_number r

-- a refusal may stand in a handle: 1 to 6, 10 to 16; 0 where none stands
unfoldable pub standing : ℕ → Bool
standing n = leb n 6 || (leb 10 n && leb n 16)

-- the refusals that may stand
abbrev pub standing_refusals : List Refusal
standing_refusals =
    BadPacketLength ∷ UnknownPacket ∷ WrongPlace ∷ BadForm ∷ NotNext ∷ NumbersUsedUp
    ∷ UnknownMessage ∷ WrongLength ∷ BadField ∷ NoRow ∷ NoQuotes ∷ FixedField ∷ TableFull ∷ []

-- the name of a number: the first refusal of the list that has it
unfoldable pub named_in : List Refusal → ℕ → Refusal
named_in [] n = Unfit
named_in (r ∷ rs) n = cond (eqb n (refusal_number r)) r (named_in rs n)

-- of those that may stand, and of 27
unfoldable pub named : ℕ → Refusal
named n = named_in (HighCeiling ∷ standing_refusals) n
