-- The packet table of document 01, and what a row of it asks.
-- Assumes nothing.
use Rattle.std.specs.Prelude.{ℕ, Bool, true, false, cond, not, List, [], ◌∷◌, eqb}
use Rattle.packet.specs.declared.table.Meaning.{Meaning}
use Rattle.packet.specs.declared.table.Meaning.TheVariants.{LoginAccepted, LoginRejected, Message, Heartbeat, EndOfSession, Skipped}
use Rattle.packet.specs.declared.table.Place.{Place}
use Rattle.packet.specs.declared.table.Place.TheVariants.{BeforeLogin, AfterLogin, Anywhere}
use Rattle.std.specs.Prelude.{Option}
use Rattle.std.specs.Prelude.{Some}
use Rattle.std.specs.Prelude.{None}

pub record TableRow : Type 0 where
  pub letter : ℕ
  pub size : Option ℕ
  pub meaning : Meaning
  pub place : Place

abbrev pub row : ℕ → Option ℕ → Meaning → Place → TableRow
row letter size meaning place = record { letter = letter; size = size; meaning = meaning; place = place }

-- the letters A, J, S, H, Z, + and U
unfoldable pub packet_table : List TableRow
packet_table =
    row 65 (Some 31) LoginAccepted BeforeLogin
    ∷ row 74 (Some 2) LoginRejected BeforeLogin
    ∷ row 83 None Message AfterLogin
    ∷ row 72 (Some 1) Heartbeat Anywhere
    ∷ row 90 (Some 1) EndOfSession AfterLogin
    ∷ row 43 None Skipped Anywhere
    ∷ row 85 None Skipped Anywhere
    ∷ []

-- a letter's row
unfoldable pub entry_of : ℕ → List TableRow → Option (Option ℕ × Meaning × Place)
entry_of letter [] = None
entry_of letter (r ∷ rs) = cond (eqb letter r.letter) (Some (r.size, r.meaning, r.place)) (entry_of letter rs)

-- does a packet of that meaning take a number?
abbrev pub takes_number : Meaning → Bool
takes_number LoginAccepted = false
takes_number LoginRejected = false
takes_number Message = true
takes_number Heartbeat = false
takes_number EndOfSession = false
takes_number Skipped = false

-- does a packet of that place belong on a line that is logged in, or is not?
abbrev pub in_place : Place → Bool → Bool
in_place BeforeLogin logged = not logged
in_place AfterLogin logged = logged
in_place Anywhere logged = true

-- is L the size?
abbrev pub of_size : Option ℕ → ℕ → Bool
of_size (Some n) L = eqb L n
of_size None L = true
