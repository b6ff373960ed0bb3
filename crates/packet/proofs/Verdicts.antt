-- A packet is accepted exactly when no refusal is given, and each refusal is given under its own condition.
-- Assumes nothing.
use mathlib.Core.Path.{◌≡◌, refl}
use mathlib.Core.Bool.{Bool, true, false, cond}
use mathlib.Core.List.{List, ◌∷◌, []}
use mathlib.Core.Logic.{◌⊎◌, inl, inr}
use Prim.Native.Nat.{ℕ, ◌+◌, ◌<◌}
use native.Mathlib.Omega.{arith}
use borrow.Author.Tests.{eqb-true, eqb-false, leb-false}
use lib.Dec.{eqb, leb}
use lib.ListN.{length, get_or}
use Rattle.field.specs.Bytes.{be}
use Rattle.field.specs.Decimal.{number_after_spaces}
use Rattle.field.specs.Limits.{highest_number}
use Rattle.std.specs.Prelude.{Option}
use Rattle.std.specs.Prelude.{Some, None}
use Rattle.packet.specs.Frame.{Framed, short, bad_length, packet, longest_packet, framed, frame}
use Rattle.packet.specs.Table.{packet_table, entry_of, in_place, of_size}
use Rattle.packet.specs.Line.{login_session, login_number, follows, login_with, login_of, meant_of, packet_by, packet_of}
use Rattle.packet.specs.declared.Line.{Line}
use Rattle.packet.specs.declared.table.Place.{Place}
use Rattle.packet.specs.declared.table.Meaning.{Meaning}
use Rattle.packet.specs.declared.table.Meaning.TheVariants as meaning
use Rattle.packet.specs.declared.Fault.TheVariants.{UnknownLetter, WrongPlace, BadForm, NotNext, NumbersUsedUp}
use Rattle.packet.specs.declared.Packet.{Packet}
use Rattle.packet.specs.declared.Packet.TheVariants.{Login, Rejected, Message, Heartbeat, End, Skipped, Refused}
use Rattle.packet.proofs.Frame.{Way, bad, waits, whole, framed-low, framed-high, ways}

-- ---- 1: L is 0 or over 256

abbrev pub IsBad : Framed → Type 0
IsBad short = ⊥
IsBad (bad_length rest) = Unit
IsBad (packet letter body rest) = ⊥

module _ (L : ℕ) (bs : List ℕ) where
  bad-length : {f : Framed} → Way L bs f → IsBad f → (L ≡ 0) ⊎ (longest_packet < L)
  bad-length (bad e) h = by (leb 1 L) refl
    where
      by : (b : Bool) → leb 1 L ≡ b → (L ≡ 0) ⊎ (longest_packet < L)
      by false f = inl (omega (arith, leb-false 1 L f))
      by true f = inr (leb-false L longest_packet (rw f at e))
  bad-length (waits a b c) h = absurd h
  bad-length (whole a b c) h = absurd h

  length-bad : (L ≡ 0) ⊎ (longest_packet < L) → IsBad (framed L bs)
  length-bad (inl e) = rw (framed-low L bs (omega (arith, e))) tt
  length-bad (inr h) = rw (framed-high L bs (omega (arith, h)) h) tt

-- THEOREM: with both length bytes in, refusal 1 is given exactly when L is 0 or over 256
pub bad-exactly : (high low : ℕ) (bs : List ℕ) → (let L = be (high ∷ low ∷ []) in
    (IsBad (frame (high ∷ low ∷ bs)) → (L ≡ 0) ⊎ (longest_packet < L)) × ((L ≡ 0) ⊎ (longest_packet < L) → IsBad (frame (high ∷ low ∷ bs))))
unfolding frame
bad-exactly high low bs = (bad-length (be (high ∷ low ∷ [])) bs (ways (be (high ∷ low ∷ [])) bs), length-bad (be (high ∷ low ∷ [])) bs)

-- ---- 2 to 6

module _ (l : Line) (body : List ℕ) where
  -- a packet in place and of the right L, by its meaning
  pub data Meant : Meaning → Packet → Type 0 where
    -- 4: a bad login number
    bad_number : number_after_spaces (login_number body) ≡ None → Meant meaning.LoginAccepted (Refused BadForm)
    -- 5: the known session differs, or the number is not next
    not_next : (n : ℕ) → number_after_spaces (login_number body) ≡ Some n → follows l (login_session body) n ≡ false → Meant meaning.LoginAccepted (Refused NotNext)
    -- 6: S arrives and the next number is 10 ^ 12
    used_up : l.next ≡ highest_number → Meant meaning.Message (Refused NumbersUsedUp)
    login : (n : ℕ) → number_after_spaces (login_number body) ≡ Some n → follows l (login_session body) n ≡ true → Meant meaning.LoginAccepted (Login n)
    message : (l.next ≡ highest_number → ⊥) → Meant meaning.Message Message
    rejected : Meant meaning.LoginRejected (Rejected (get_or body 0 0))
    heartbeat : Meant meaning.Heartbeat Heartbeat
    end : Meant meaning.EndOfSession End
    skipped : Meant meaning.Skipped Skipped

  -- EACH ANSWER WITH THE ONE CONDITION under which it is given: no two of the conditions hold together
  pub data Verdict (letter : ℕ) : Packet → Type 0 where
    -- 2: letter not in the packet table
    unknown : entry_of letter packet_table ≡ None → Verdict letter (Refused UnknownLetter)
    -- 3: packet in the wrong place
    misplaced : {size : Option ℕ} {means : Meaning} {place : Place} → entry_of letter packet_table ≡ Some (size, means, place) → in_place place l.logged ≡ false
        → Verdict letter (Refused WrongPlace)
    -- 4: wrong L
    missized : {size : Option ℕ} {means : Meaning} {place : Place} → entry_of letter packet_table ≡ Some (size, means, place) → in_place place l.logged ≡ true
        → of_size size (length body + 1) ≡ false → Verdict letter (Refused BadForm)
    fits : {size : Option ℕ} {means : Meaning} {place : Place} {p : Packet} → entry_of letter packet_table ≡ Some (size, means, place) → in_place place l.logged ≡ true
        → of_size size (length body + 1) ≡ true → Meant means p → Verdict letter p

  -- ---- every packet is judged under its condition

  login-by : (x : Option ℕ) → number_after_spaces (login_number body) ≡ x → Meant meaning.LoginAccepted (login_with l (login_session body) x)
  login-by None e = bad_number e
  login-by (Some n) e = by (follows l (login_session body) n) refl
    where
      by : (b : Bool) → follows l (login_session body) n ≡ b → Meant meaning.LoginAccepted (cond b (Login n) (Refused NotNext))
      by true f = login n e f
      by false f = not_next n e f

  message-by : (b : Bool) → eqb l.next highest_number ≡ b → Meant meaning.Message (cond b (Refused NumbersUsedUp) Message)
  message-by true e = used_up (eqb-true l.next highest_number e)
  message-by false e = message (eqb-false l.next highest_number e)

  meant-by : (m : Meaning) → Meant m (meant_of l body m)
  unfolding login_of
  meant-by meaning.LoginAccepted = login-by (number_after_spaces (login_number body)) refl
  meant-by meaning.LoginRejected = rejected
  meant-by meaning.Message = message-by (eqb l.next highest_number) refl
  meant-by meaning.Heartbeat = heartbeat
  meant-by meaning.EndOfSession = end
  meant-by meaning.Skipped = skipped

  -- THEOREM
  pub packet-verdict : (letter : ℕ) → Verdict letter (packet_of l letter body)
  unfolding packet_of
  packet-verdict letter = by (entry_of letter packet_table) refl
    where
      by : (x : Option (Option ℕ × Meaning × Place)) → entry_of letter packet_table ≡ x → Verdict letter (packet_by l body x)
      by None e = unknown e
      by (Some (size, means, place)) e = placed (in_place place l.logged) refl
        where
          sized : (b : Bool) → of_size size (length body + 1) ≡ b → in_place place l.logged ≡ true
              → Verdict letter (cond b (meant_of l body means) (Refused BadForm))
          sized true s p = fits e p s (meant-by means)
          sized false s p = missized e p s

          placed : (b : Bool) → in_place place l.logged ≡ b
              → Verdict letter (cond b (cond (of_size size (length body + 1)) (meant_of l body means) (Refused BadForm)) (Refused WrongPlace))
          placed true p = sized (of_size size (length body + 1)) refl p
          placed false p = misplaced e p

  -- ---- acceptance

  -- what a meaning asks of a packet, beyond its place and L
  abbrev pub Asks : Meaning → Type 0
  Asks meaning.LoginAccepted = (n : ℕ) × (number_after_spaces (login_number body) ≡ Some n) × (follows l (login_session body) n ≡ true)
  Asks meaning.LoginRejected = Unit
  Asks meaning.Message = l.next ≡ highest_number → ⊥
  Asks meaning.Heartbeat = Unit
  Asks meaning.EndOfSession = Unit
  Asks meaning.Skipped = Unit

  pub record Welcome (letter : ℕ) : Type 0 where
    pub size : Option ℕ
    pub means : Meaning
    pub place : Place
    pub listed : entry_of letter packet_table ≡ Some (size, means, place)
    pub placed : in_place place l.logged ≡ true
    pub sized : of_size size (length body + 1) ≡ true
    pub asked : Asks means

  abbrev pub Accepted : Packet → Type 0
  Accepted (Login n) = Unit
  Accepted (Rejected r) = Unit
  Accepted Message = Unit
  Accepted Heartbeat = Unit
  Accepted End = Unit
  Accepted Skipped = Unit
  Accepted (Refused f) = ⊥

  meant-welcome : {m : Meaning} {p : Packet} → Meant m p → Accepted p → Asks m
  meant-welcome (bad_number e) a = absurd a
  meant-welcome (not_next n e f) a = absurd a
  meant-welcome (used_up e) a = absurd a
  meant-welcome (login n e f) a = (n, e, f)
  meant-welcome (message h) a = h
  meant-welcome rejected a = tt
  meant-welcome heartbeat a = tt
  meant-welcome end a = tt
  meant-welcome skipped a = tt

  welcome-by : {letter : ℕ} {p : Packet} → Verdict letter p → Accepted p → Welcome letter
  welcome-by (unknown e) a = absurd a
  welcome-by (misplaced e p) a = absurd a
  welcome-by (missized e p s) a = absurd a
  welcome-by (fits {size = size} {means = means} {place = place} e p s m) a =
      record { size = size; means = means; place = place; listed = e; placed = p; sized = s; asked = meant-welcome m a }

  asked-accepted : (m : Meaning) → Asks m → Accepted (meant_of l body m)
  unfolding login_of
  asked-accepted meaning.LoginAccepted a = rw (a.1, a.2) tt
  asked-accepted meaning.LoginRejected a = tt
  asked-accepted meaning.Message a = by (eqb l.next highest_number) refl
    where
      by : (b : Bool) → eqb l.next highest_number ≡ b → Accepted (cond b (Refused NumbersUsedUp) Message)
      by true e = absurd (a (eqb-true l.next highest_number e))
      by false e = tt
  asked-accepted meaning.Heartbeat a = tt
  asked-accepted meaning.EndOfSession a = tt
  asked-accepted meaning.Skipped a = tt

  -- THEOREM: a packet is accepted exactly when its letter is in the table, it is in place and of its L, and what its meaning asks for holds
  pub accepted-exactly : (letter : ℕ) → (Accepted (packet_of l letter body) → Welcome letter) × (Welcome letter → Accepted (packet_of l letter body))
  unfolding packet_of
  accepted-exactly letter = (welcome-by (packet-verdict letter), λ w. rw (w.listed, w.placed, w.sized) (asked-accepted w.means w.asked))
