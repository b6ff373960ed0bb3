-- The ways through the code that judges a packet: a law for each.
-- Assumes nothing.
use mathlib.Core.Path.{◌≡◌, sym, ap, ◌∙◌, subst}
use mathlib.Core.List.{List, [], ◌∷◌}
use mathlib.Core.Bool.{Bool, true, false, ◌||◌, not, and-false, and-true}
use Prim.Native.Nat.{ℕ, ◌+◌, ◌-◌, ◌<◌}
use native.Mathlib.Omega.{arith}
use borrow.Author.Tests.{eq-eqb, ne_eqb, eqb-true}
use lib.Dec.{eqb}
use lib.ListN.{length, get_or}
use Rattle.field.specs.Bytes.{part, same}
use Rattle.field.specs.Decimal.{number_after_spaces}
use Rattle.std.specs.Prelude.{Option}
use Rattle.std.specs.Prelude.{Some, None}
use Rattle.field.proofs.Parts.{part-all}
use Rattle.packet.specs.Numbering.{none_left}
use Rattle.packet.specs.Table.{TableRow, packet_table, entry_of, in_place, of_size}
use Rattle.packet.specs.Line.{session_size, login_size, login_session, login_number, follows, login_with, login_of, BodyFits, meant_of, packet_by, packet_of}
use Rattle.packet.specs.declared.Line.{Line}
use Rattle.packet.specs.declared.table.Place.{Place}
use Rattle.packet.specs.declared.table.Meaning.{Meaning}
use Rattle.packet.specs.declared.table.Meaning.TheVariants as meaning
use Rattle.packet.specs.declared.Fault.TheVariants.{UnknownLetter, WrongPlace, BadForm, NotNext, NumbersUsedUp}
use Rattle.packet.specs.declared.Packet.{Packet}
use Rattle.packet.specs.declared.Packet.TheVariants.{Login, Rejected, Message, Refused}
use Rattle.packet.proofs.Rules.{both, yes-call, no_call, not_call, not-not-call}

-- ---- the table

-- a letter that is in a row, and one that is in none
pub at-letter : {letter k : ℕ} → letter ≡ k → entry_of k packet_table ≡ entry_of letter packet_table
at-letter e = ap (λ (k : ℕ). entry_of k packet_table) (sym e)

pub entry-missing : (letter : ℕ) → (letter ≡ 65 → ⊥) → (letter ≡ 74 → ⊥) → (letter ≡ 83 → ⊥) → (letter ≡ 72 → ⊥) → (letter ≡ 90 → ⊥)
    → (letter ≡ 43 → ⊥) → (letter ≡ 85 → ⊥) → None ≡ entry_of letter packet_table
unfolding entry_of packet_table
entry-missing letter a j s h z p u =
    rw (ne_eqb letter 65 a, ne_eqb letter 74 j, ne_eqb letter 83 s, ne_eqb letter 72 h, ne_eqb letter 90 z, ne_eqb letter 43 p, ne_eqb letter 85 u)

-- what holds of every row, and where there is none, holds of a letter's entry
abbrev pub EachRow : (TableRow → Type 0) → List TableRow → Type 0
EachRow P [] = Unit
EachRow P (r ∷ rs) = P r × EachRow P rs

pub each_row : (P : Option (Option ℕ × Meaning × Place) → Type 0) (letter : ℕ) (rs : List TableRow) → P None → EachRow (λ r. P (Some (r.size, r.meaning, r.place))) rs
    → P (entry_of letter rs)
unfolding entry_of
each_row P letter [] m h = m
each_row P letter (r ∷ rs) m h = both P (eqb letter r.letter) (λ _. h.0) (λ _. each_row P letter rs m h.1)

-- ---- a login

module _ (l : Line) (session : List ℕ) (n : ℕ) where
  pub other-number : (n ≡ l.next → ⊥) → false ≡ follows l session n
  unfolding follows
  other-number h = rw (ne_eqb n l.next h) (sym (and-false (not l.known || same l.session session)))

  module _ (next : n ≡ l.next) where
    pub any-session : l.known ≡ false → true ≡ follows l session n
    unfolding follows
    any-session h = rw (h, eq-eqb n l.next next)

    pub same-session : {r : Bool} → l.known ≡ true → length l.session ≡ session_size → r ≡ same (part l.session 0 session_size) session → r ≡ follows l session n
    unfolding follows
    same-session {r} h t e =
        let w : part l.session 0 session_size ≡ l.session = rw (← t) (part-all l.session) in
        e ∙ rw (w, h, eq-eqb n l.next next) (sym (and-true (same l.session session)))

module _ (l : Line) (body : List ℕ) {w : Option ℕ} (e : w ≡ number_after_spaces (login_number body)) where
  login-by : {x : Option ℕ} → w ≡ x → login_with l (login_session body) x ≡ login_of l body
  unfolding login_of
  login-by f = ap (login_with l (login_session body)) (sym f ∙ e)

  pub login-bad : w ≡ None → Refused BadForm ≡ login_of l body
  login-bad f = login-by f

  pub login-yes : {n : ℕ} {r : Bool} → w ≡ Some n → r ≡ follows l (login_session body) n → r ≡ true → Login n ≡ login_of l body
  login-yes {n} {r} f g t = let y : follows l (login_session body) n ≡ true = yes-call r _ g t in rw y at (login-by f)

  pub login-no : {n : ℕ} {r : Bool} → w ≡ Some n → r ≡ follows l (login_session body) n → r ≡ false → Refused NotNext ≡ login_of l body
  login-no {n} {r} f g t = let y : follows l (login_session body) n ≡ false = no_call r _ g t in rw y at (login-by f)

-- ---- a meaning

module _ (m : Meaning) (n : ℕ) (fits : BodyFits m n) where
  pub login-long : m ≡ meaning.LoginAccepted → n ≡ login_size
  login-long e = subst (λ (x : Meaning). BodyFits x n) e fits

  pub reason-there : m ≡ meaning.LoginRejected → 0 < n
  reason-there e = let h : n ≡ 1 = subst (λ (x : Meaning). BodyFits x n) e fits in omega arith

module _ (l : Line) (body : List ℕ) {m : Meaning} where
  pub meant-by : {x : Meaning} → m ≡ x → meant_of l body x ≡ meant_of l body m
  meant-by e = ap (meant_of l body) (sym e)

  pub meant-login : {p : Packet} → m ≡ meaning.LoginAccepted → p ≡ login_of l body → p ≡ meant_of l body m
  meant-login e f = f ∙ meant-by e

  pub meant-rejected : m ≡ meaning.LoginRejected → Rejected (get_or body 0 0) ≡ meant_of l body m
  meant-rejected e = meant-by e

  pub meant-none : {r : Bool} → m ≡ meaning.Message → r ≡ none_left l.next → r ≡ true → Refused NumbersUsedUp ≡ meant_of l body m
  meant-none {r} e f t = let y : none_left l.next ≡ true = yes-call r _ f t in rw y at (meant-by e)

  pub meant-message : {r : Bool} → m ≡ meaning.Message → r ≡ none_left l.next → r ≡ false → Message ≡ meant_of l body m
  meant-message {r} e f t = let y : none_left l.next ≡ false = no_call r _ f t in rw y at (meant-by e)

-- ---- a packet

-- a row's size sees to what its meaning reads
abbrev Fits : ℕ → Option (Option ℕ × Meaning × Place) → Type 0
Fits n None = Unit
Fits n (Some (size, m, place)) = of_size size (n + 1) ≡ true → BodyFits m n

pub exactly : (n k : ℕ) → eqb (n + 1) k ≡ true → n ≡ k - 1
exactly n k e = omega (arith, eqb-true (n + 1) k e)

rows_fit : (n letter : ℕ) → Fits n (entry_of letter packet_table)
unfolding packet_table
rows_fit n letter =
    each_row (Fits n) letter packet_table tt
    (exactly n 31, (exactly n 2, ((λ _. tt), (exactly n 1, (exactly n 1, ((λ _. tt), ((λ _. tt), tt)))))))

module _ (l : Line) (letter : ℕ) (body : List ℕ) {x : Option (Option ℕ × Meaning × Place)} (e : x ≡ entry_of letter packet_table) where
  packet-by : {y : Option (Option ℕ × Meaning × Place)} → x ≡ y → packet_by l body y ≡ packet_of l letter body
  unfolding packet_of
  packet-by f = ap (packet_by l body) (sym f ∙ e)

  pub judge-missing : x ≡ None → Refused UnknownLetter ≡ packet_of l letter body
  judge-missing f = packet-by f

  module _ {size : Option ℕ} {m : Meaning} {place : Place} (f : x ≡ Some (size, m, place)) {r : Bool} (g : r ≡ in_place place l.logged) where
    pub judge-place : not r ≡ true → Refused WrongPlace ≡ packet_of l letter body
    judge-place t = let y : in_place place l.logged ≡ false = not_call r _ g t in rw y at (packet-by f)

    module _ (t : not r ≡ false) {q : Bool} (h : q ≡ of_size size (length body + 1)) where
      placed : in_place place l.logged ≡ true
      placed = not-not-call r _ g t

      pub judge-size : not q ≡ true → Refused BadForm ≡ packet_of l letter body
      judge-size u = let y : of_size size (length body + 1) ≡ false = not_call q _ h u in rw (placed, y) at (packet-by f)

      pub judge-fits : not q ≡ false → BodyFits m (length body)
      judge-fits u = subst (Fits (length body)) (sym e ∙ f) (rows_fit (length body) letter) (not-not-call q _ h u)

      pub judge-meant : {p : Packet} → not q ≡ false → p ≡ meant_of l body m → p ≡ packet_of l letter body
      judge-meant u v =
          let y : of_size size (length body + 1) ≡ true = not-not-call q _ h u in
          v ∙ rw (placed, y) at (packet-by f)
