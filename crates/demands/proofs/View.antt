-- A handle and its state: each is had from the other, but for the places past the held bytes.
-- Assumes nothing.
use mathlib.Core.Path.{◌≡◌, refl, sym}
use mathlib.Core.List.{List}
use mathlib.Core.Bool.{Bool, true, false, cond}
use Prim.Native.Nat.{ℕ}
use borrow.Author.Tests.{eqb-true}
use lib.Dec.{eqb}
use Rattle.packet.specs.Stream.{State, live, ended, refused}
use Rattle.packet.specs.Session.{Session}
use Rattle.table.specs.Memory.{Memories}
use Rattle.reader.specs.Deliver.{Table}
use Rattle.reader.specs.View.{session_of, held_of, state_of}
use Rattle.reader.specs.declared.Reader.{Reader}

-- ---- what a state has, whichever it is

abbrev pub refusal_in : State (Session Table) → ℕ
refusal_in (live s held) = 0
refusal_in (ended s held) = 0
refusal_in (refused s held e n) = n

abbrev pub ended_in : State (Session Table) → Bool
ended_in (live s held) = false
ended_in (ended s held) = true
ended_in (refused s held e n) = e

-- ---- and the handle has it

module _ (s : Session Table) (held : List ℕ) (n : ℕ) where
  abbrev at : Bool → Bool → State (Session Table)
  at none e = cond none (cond e (ended s held) (live s held)) (refused s held e n)

  ended_at : (none e : Bool) → ended_in (at none e) ≡ e
  ended_at true true = refl
  ended_at true false = refl
  ended_at false e = refl

  refusal-at : (none e : Bool) → eqb n 0 ≡ none → refusal_in (at none e) ≡ n
  refusal-at true true h = sym (eqb-true n 0 h)
  refusal-at true false h = sym (eqb-true n 0 h)
  refusal-at false e h = refl

module _ (r : Reader) (memory : Memories) where
  pub ended_of : ended_in (state_of r memory) ≡ r.ended
  ended_of = ended_at (session_of r.line r.board memory) (held_of r) r.refusal (eqb r.refusal 0) r.ended

  pub refusal-of : refusal_in (state_of r memory) ≡ r.refusal
  refusal-of = refusal-at (session_of r.line r.board memory) (held_of r) r.refusal (eqb r.refusal 0) r.ended refl
