-- Stop, save, restore, log in again: what a stop leaves to be given, and what going on is to tell.
-- Assumes nothing.
use Rattle.std.specs.Prelude.{ℕ, ◌≡◌, List, [], ◌∷◌, ◌++◌}
use Rattle.packet.specs.Stream.{live, reading}
use Rattle.packet.specs.Session.{Session, Event, login, soup_bin_tcp}
use Rattle.table.specs.Memory.{Memories}
use Rattle.reader.specs.Deliver.{Table, Said, deliver}
use Rattle.reader.specs.View.{state_of}
use Rattle.reader.specs.declared.Reader.{Reader}

-- A session `s₀` of which `held` are held is given the bytes `bs`. `accepted` are those of the packets that were accepted and told the events `es`: they
-- leave the session `s`, with nothing held. `following` follow the last of them.
pub record StoppedAt (s₀ : Session Table) (held bs : List ℕ) (es : List (Event Said)) (s : Session Table) : Type 0 where
  pub accepted : List ℕ
  pub following : List ℕ
  pub whole : accepted ++ following ≡ held ++ bs
  pub told : reading (soup_bin_tcp deliver) (live s₀ []) accepted ≡ record { events = es; state = live s [] }

-- The run that was stopped told the events `es` before the stop, and `es₁` after it; the one that never stopped told `es₂`. After its login the first
-- tells what the second tells, and they leave the same state: the line, the board, the table and its index, what is held, and any refusal.
pub record GoesOn (s : Session Table) (es es₁ es₂ : List (Event Said)) (r₁ : Reader) (t₁ : Memories) (r₂ : Reader) (t₂ : Memories) : Type 0 where
  pub later : List (Event Said)
  pub stopped : es₁ ≡ login s.line.next s.line.session ∷ later
  pub unstopped : es₂ ≡ es ++ later
  pub state : state_of r₁ t₁ ≡ state_of r₂ t₂
  pub memory : t₁ ≡ t₂
  pub refusal : r₁.refusal ≡ r₂.refusal
