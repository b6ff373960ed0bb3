-- Names and numbers of refusals, and what a packet that was judged has.
-- Assumes nothing.
use mathlib.Core.Path.{◌≡◌, refl}
use mathlib.Core.List.{List}
use mathlib.Core.Bool.{false}
use Prim.Native.Nat.{ℕ, ◌≤◌, ◌<◌}
use native.Mathlib.Omega.{arith}
use lib.Dec.{eqb}
use lib.ListN.{length}
use Rattle.field.specs.Limits.{highest_number}
use Rattle.packet.specs.Line.{packet_of}
use Rattle.packet.specs.declared.Line.{Line}
use Rattle.packet.specs.declared.Packet.{Packet}
use Rattle.packet.specs.declared.Packet.TheVariants as packet
use Rattle.packet.proofs.Known.{judged-known}
use Rattle.reader.specs.Refusals.{refusal_number, named}
use Rattle.reader.specs.declared.Refusal.{Refusal}
use Rattle.reader.specs.declared.Refusal.TheVariants as refusal

-- ---- names and numbers

pub named-at : {n k : ℕ} {r : Refusal} → n ≡ k → r ≡ named k → r ≡ named n
named-at e f = rw e f

-- no refusal has the number of none
pub some_number : (r : Refusal) → eqb (refusal_number r) 0 ≡ false
some_number refusal.Unfit = refl
some_number refusal.BadPacketLength = refl
some_number refusal.UnknownPacket = refl
some_number refusal.WrongPlace = refl
some_number refusal.BadForm = refl
some_number refusal.NotNext = refl
some_number refusal.NumbersUsedUp = refl
some_number refusal.UnknownMessage = refl
some_number refusal.WrongLength = refl
some_number refusal.BadField = refl
some_number refusal.NoRow = refl
some_number refusal.NoQuotes = refl
some_number refusal.FixedField = refl
some_number refusal.TableFull = refl
some_number refusal.HighCeiling = refl

-- ---- what a packet has

module _ (line : Line) (letter : ℕ) (body : List ℕ) {p : Packet} (e : p ≡ packet_of line letter body) where
  -- a login has its session
  pub login-long : {n : ℕ} → p ≡ packet.Login n → 10 ≤ length body
  login-long f = omega (arith, (judged-known line body letter e f).0)

  -- and a message a number to take
  pub message-counts : p ≡ packet.Message → line.next ≤ highest_number → line.next < highest_number
  message-counts f h = let k = (judged-known line body letter e f).1 in omega (arith, k)
