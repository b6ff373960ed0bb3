-- What is known of a packet once it is judged.
-- Assumes nothing.
use mathlib.Core.Path.{◌≡◌, sym, ◌∙◌, subst}
use mathlib.Core.List.{List, [], ◌∷◌}
use mathlib.Core.Bool.{true, false, not, ◌||◌}
use Prim.Native.Nat.{ℕ, ◌+◌}
use borrow.Author.Tests.{eqb-true, eqb-false, not-true}
use lib.Dec.{eqb}
use lib.ListN.{length}
use Rattle.field.specs.Bytes.{same}
use Rattle.field.specs.Decimal.{number_after_spaces}
use Rattle.field.specs.Limits.{highest_number}
use Rattle.std.specs.Prelude.{Option}
use Rattle.std.specs.Prelude.{Some, None}
use Rattle.field.proofs.Same.{test-same}
use Rattle.packet.specs.Numbering.{none_left}
use Rattle.packet.specs.Table.{TableRow, packet_table, entry_of, in_place, of_size}
use Rattle.packet.specs.Line.{login_size, login_session, login_number, follows, login_with, login_of, meant_of, packet_by, packet_of}
use Rattle.packet.specs.declared.Line.{Line}
use Rattle.packet.specs.declared.Fault.{Fault}
use Rattle.packet.specs.declared.Fault.TheVariants.{UnknownLetter, WrongPlace, BadForm}
use Rattle.packet.specs.declared.Packet.{Packet}
use Rattle.packet.specs.declared.Packet.TheVariants.{Login, Rejected, Message, Heartbeat, End, Skipped, Refused}
use Rattle.packet.proofs.Rules.{both, and_both}
use Rattle.packet.proofs.Ways.{EachRow, exactly}
use Rattle.packet.specs.declared.table.Meaning.{Meaning}
use Rattle.packet.specs.declared.table.Place.{Place}

abbrev pub Known : Line → List ℕ → Packet → Type 0
Known l body (Login n) = (length body ≡ login_size) × (l.logged ≡ false) × (follows l (login_session body) n ≡ true)
Known l body (Rejected reason) = (length body ≡ 1) × (l.logged ≡ false)
Known l body Message = (l.logged ≡ true) × (l.next ≡ highest_number → ⊥)
Known l body Heartbeat = length body ≡ 0
Known l body End = (length body ≡ 0) × (l.logged ≡ true)
Known l body Skipped = Unit
Known l body (Refused fault) = Unit

-- a login that follows has the next number, and of a known session the same one
module _ (l : Line) (session : List ℕ) (n : ℕ) (f : follows l session n ≡ true) where
  pub follows-number : n ≡ l.next
  unfolding follows
  follows-number = eqb-true n l.next (and_both (not l.known || same l.session session) (eqb n l.next) f).1

  pub follows-session : l.known ≡ true → l.session ≡ session
  unfolding follows
  follows-session k = test-same l.session session (rw k at (and_both (not l.known || same l.session session) (eqb n l.next) f).0)

module _ (l : Line) (body : List ℕ) where
  with-known : length body ≡ login_size → l.logged ≡ false → (x : Option ℕ) → Known l body (login_with l (login_session body) x)
  with-known e f None = tt
  with-known e f (Some n) = both (Known l body) (follows l (login_session body) n) (λ g. (e, f, g)) (λ _. tt)

  login-known : length body ≡ login_size → l.logged ≡ false → Known l body (login_of l body)
  unfolding login_of
  login-known e f = with-known e f (number_after_spaces (login_number body))

  -- what holds of each meaning, in place and of the right L, and of every refusal holds of every packet
  module _ (P : Packet → Type 0) (refused : (f : Fault) → P (Refused f)) where
    abbrev OfRow : TableRow → Type 0
    OfRow r = in_place r.place l.logged ≡ true → of_size r.size (length body + 1) ≡ true → P (meant_of l body r.meaning)

    each-meaning : (letter : ℕ) (rs : List TableRow) → EachRow OfRow rs → P (packet_by l body (entry_of letter rs))
    unfolding entry_of
    each-meaning letter [] h = refused UnknownLetter
    each-meaning letter (r ∷ rs) h =
        both (λ (x : Option (Option ℕ × Meaning × Place)). P (packet_by l body x)) (eqb letter r.letter)
        (λ _. both P (in_place r.place l.logged)
        (λ p. both P (of_size r.size (length body + 1)) (h.0 p) (λ _. refused BadForm))
        (λ _. refused WrongPlace))
        (λ _. each-meaning letter rs h.1)

  pub packet-known : (letter : ℕ) → Known l body (packet_of l letter body)
  unfolding packet_of packet_table
  packet-known letter =
      each-meaning (Known l body) (λ _. tt) letter packet_table (
        (λ p q. login-known (exactly (length body) 31 q) (not-true l.logged p)),
        (
          (λ p q. (exactly (length body) 2 q, not-true l.logged p)),
          (
            (λ p q. both (Known l body) (none_left l.next) (λ _. tt) (λ e. (p, eqb-false l.next highest_number e))),
            (
              (λ p q. exactly (length body) 1 q),
              (
                (λ p q. (exactly (length body) 1 q, p)),
                (
                  (λ p q. tt),
                  ((λ p q. tt), tt),
                ),
              ),
            ),
          ),
        ),
      )

  -- of what the code's judge has answered
  pub judged-known : (letter : ℕ) {p q : Packet} → p ≡ packet_of l letter body → p ≡ q → Known l body q
  judged-known letter e f = subst (Known l body) (sym e ∙ f) (packet-known letter)
