-- A message is known by its letter, the place and the next number alone, whatever its body.
-- Assumes nothing.
use mathlib.Core.Path.{◌≡◌, refl, sym, ap, ◌∙◌, subst}
use mathlib.Core.List.{List}
use mathlib.Core.Bool.{Bool, true, false, ◌&&◌, not, cond}
use Prim.Native.Nat.{ℕ, ◌+◌}
use lib.ListN.{length}
use Rattle.field.specs.Decimal.{number_after_spaces}
use Rattle.std.specs.Prelude.{Option}
use Rattle.std.specs.Prelude.{Some, None}
use Rattle.packet.specs.Numbering.{none_left}
use Rattle.packet.specs.Table.{packet_table, entry_of, takes_number, in_place, of_size}
use Rattle.packet.specs.Line.{login_session, login_number, follows, login_with, login_of, meant_of, packet_by, packet_of, is_message}
use Rattle.packet.specs.declared.Line.{Line}
use Rattle.packet.specs.declared.table.Place.{Place}
use Rattle.packet.specs.declared.table.Meaning.{Meaning}
use Rattle.packet.specs.declared.table.Meaning.TheVariants as meaning
use Rattle.packet.specs.declared.Packet.{Packet}
use Rattle.packet.specs.declared.Packet.TheVariants as packets
use Rattle.packet.specs.declared.Fault.TheVariants as fault
use Rattle.packet.proofs.Rules.{both, never}
use Rattle.packet.proofs.Ways.{each_row}

-- a row that takes a number has any size
abbrev AnySize : Option (Option ℕ × Meaning × Place) → Type 0
AnySize None = Unit
AnySize (Some (size, m, place)) = takes_number m ≡ true → (n : ℕ) → of_size size n ≡ true

any-size : (letter : ℕ) → AnySize (entry_of letter packet_table)
unfolding packet_table
any-size letter =
    each_row AnySize letter packet_table tt
    ((λ e n. absurd (never e)), ((λ e n. absurd (never e)), ((λ e n. refl), ((λ e n. absurd (never e)), ((λ e n. absurd (never e)), ((λ e n. absurd (never e)), ((λ e n. absurd (never e)), tt)))))))

module _ (l : Line) (body : List ℕ) where
  abbrev No : Packet → Type 0
  No p = false ≡ is_message p

  login-none : (x : Option ℕ) → No (login_with l (login_session body) x)
  login-none None = refl
  login-none (Some n) = both No (follows l (login_session body) n) (λ _. refl) (λ _. refl)

  meant_is : (m : Meaning) → takes_number m && not (none_left l.next) ≡ is_message (meant_of l body m)
  unfolding login_of
  meant_is meaning.LoginAccepted = login-none (number_after_spaces (login_number body))
  meant_is meaning.LoginRejected = refl
  meant_is meaning.Message = by (none_left l.next)
    where
      by : (b : Bool) → not b ≡ is_message (cond b (packets.Refused fault.NumbersUsedUp) packets.Message)
      by true = refl
      by false = refl
  meant_is meaning.Heartbeat = refl
  meant_is meaning.EndOfSession = refl
  meant_is meaning.Skipped = refl

  by_row : (m : Meaning) (placed right : Bool) → (takes_number m ≡ true → right ≡ true)
      → takes_number m && (placed && not (none_left l.next)) ≡ is_message (cond placed (cond right (meant_of l body m) (packets.Refused fault.BadForm)) (packets.Refused fault.WrongPlace))
  by_row m false right h = and_none (takes_number m)
    where
      and_none : (b : Bool) → b && false ≡ false
      and_none true = refl
      and_none false = refl
  by_row m true true h = meant_is m
  by_row m true false h = by (takes_number m) h
    where
      by : (b : Bool) → (b ≡ true → false ≡ true) → b && not (none_left l.next) ≡ false
      by true g = absurd (never (g refl))
      by false g = refl

-- THE LAW, of a letter that is listed and of one that is not
module _ (letter : ℕ) {x : Option (Option ℕ × Meaning × Place)} (e : x ≡ entry_of letter packet_table) (logged : Bool) (next : ℕ) where
  pub message-missing : x ≡ None → (l : Line) (body : List ℕ) → l.logged ≡ logged → l.next ≡ next → false ≡ is_message (packet_of l letter body)
  unfolding packet_of
  message-missing f l body g h = ap (λ (y : Option (Option ℕ × Meaning × Place)). is_message (packet_by l body y)) (sym f ∙ e)

  pub message-row : {size : Option ℕ} {m : Meaning} {place : Place} {t p q : Bool} → x ≡ Some (size, m, place) → t ≡ takes_number m → p ≡ in_place place logged
      → q ≡ none_left next → (l : Line) (body : List ℕ) → l.logged ≡ logged → l.next ≡ next → t && (p && not q) ≡ is_message (packet_of l letter body)
  unfolding packet_of
  message-row {size} {m} {place} f i j k l body g h =
      let w : takes_number m ≡ true → of_size size (length body + 1) ≡ true = λ y. subst AnySize (sym e ∙ f) (any-size letter) y (length body + 1) in
      rw (i, j, k, ← g, ← h) (by_row l body m (in_place place l.logged) (of_size size (length body + 1)) w)
      ∙ ap (λ (y : Option (Option ℕ × Meaning × Place)). is_message (packet_by l body y)) (sym f ∙ e)
