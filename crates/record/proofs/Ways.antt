-- The ways through the code: what it finds, test by test, is what the definitions say.
-- Assumes nothing.
use mathlib.Core.Path.{◌≡◌, refl, sym, ap, ◌∙◌}
use mathlib.Core.List.{List}
use Prim.Native.Nat.{ℕ, ◌+◌}
use borrow.Author.Tests.{eq-eqb, ne_eqb}
use lib.ListN.{length}
use Rattle.field.specs.Bytes.{part, be}
use Rattle.message.specs.Layout.{price_by, price_from, values}
use Rattle.message.specs.Feed.{Letter}
use Rattle.message.specs.Letters.{Content, letter_in, unlisted, no_texts, numbers_of, map_numbers}
use Rattle.message.specs.Test.{tested}
use Rattle.message.specs.Message.{read_of}
use Rattle.std.specs.Prelude.{Option, option_map}
use Rattle.message.proofs.Amounts.{by-from}
use Rattle.message.specs.declared.Message.{Message}
use Rattle.message.specs.declared.SideNumbers.{SideNumbers}
use Rattle.message.specs.declared.Texts.{Texts}
use Rattle.message.proofs.Feeds.{found}
use Rattle.record.specs.Places.{record_size, low_places, record_letters}
use Rattle.record.specs.Record.{held, no_record, said_by, record_of, answered, read_to, read_answer, write_answer}
use Rattle.record.specs.declared.Held.{Held}
use Rattle.record.proofs.Typed.{◌also◌}
use Rattle.std.specs.Prelude.{Err}
use Rattle.std.specs.Prelude.{Ok}
use Rattle.std.specs.Prelude.{Result}
use Rattle.message.specs.declared.Refusal.{Refusal}

-- ---- what the fields say

-- the numbers of a side, of w bytes each; f is the number that each x is
pub numbers-said : {T : Type 0} (f : T → ℕ) (w low : ℕ) (bs : List ℕ) {market x size customer professional : T} {price : Option T} → f market ≡ be (part bs low w)
    → f x ≡ be (part bs (low + 4) w) → price ≡ price_by f x → f size ≡ be (part bs (low + 8) w) → f customer ≡ be (part bs (low + 12) w)
    → f professional ≡ be (part bs (low + 16) w)
    → map_numbers f (record { market = market; price = price; size = size; customer = customer; professional = professional })
    ≡ numbers_of (values (low_places w low) bs)
unfolding values
numbers-said f w low bs {x = x} a b p c d e i =
    record { market = a i; price = (ap (option_map f) p ∙ by-from f x ∙ ap price_from b) i; size = c i; customer = d i; professional = e i }

-- a number, and the numbers of a side, at a place that is known to be the same by arithmetic alone
pub number-at : (w : ℕ) (bs : List ℕ) {n at at' : ℕ} → n ≡ be (part bs at w) → at ≡ at' → n ≡ be (part bs at' w)
number-at w bs h e = h ∙ ap (λ (k : ℕ). be (part bs k w)) e

pub side-at : (w : ℕ) (bs : List ℕ) {n : SideNumbers ℕ} {low low' : ℕ} → n ≡ numbers_of (values (low_places w low) bs) → low ≡ low'
    → n ≡ numbers_of (values (low_places w low') bs)
side-at w bs h e = h ∙ ap (λ (k : ℕ). numbers_of (values (low_places w k) bs)) e

-- a message that has no texts, of a record that is read
pub said-as : {A : Type 0} (says : A → Message) {x a : A} → x ≡ a → held (says x) no_texts ≡ held (says a) no_texts
said-as says e = ap (λ x. held (says x) no_texts) e

-- in the arm of letter k
pub arm : (k c : ℕ) (bs : List ℕ) {r : Held} → c ≡ k → r ≡ said_by (letter_in record_letters k) bs → r ≡ said_by (letter_in record_letters c) bs
arm k c bs e p = p ∙ ap (λ x. said_by (letter_in record_letters x) bs) (sym e)

-- none of the ten
pub no_arm : (c : ℕ) (bs : List ℕ) {r : Held} → (c ≡ 83 → ⊥) → (c ≡ 109 → ⊥) → (c ≡ 72 → ⊥) → (c ≡ 113 → ⊥) → (c ≡ 81 → ⊥) → (c ≡ 98 → ⊥) → (c ≡ 97 → ⊥) → (c ≡ 66 → ⊥)
    → (c ≡ 65 → ⊥) → (c ≡ 77 → ⊥) → r ≡ no_record → r ≡ said_by (letter_in record_letters c) bs
unfolding record_letters said_by
no_arm c bs {r} n1 n2 n3 n4 n5 n6 n7 n8 n9 n10 p =
    found unlisted (λ (l : Letter Content). r ≡ said_by l bs) c record_letters p
    ((λ e. absurd (n1 (sym e)))
    also (λ e. absurd (n2 (sym e)))
    also (λ e. absurd (n3 (sym e)))
    also (λ e. absurd (n4 (sym e)))
    also (λ e. absurd (n5 (sym e)))
    also (λ e. absurd (n6 (sym e)))
    also (λ e. absurd (n7 (sym e)))
    also (λ e. absurd (n8 (sym e)))
    also (λ e. absurd (n9 (sym e)))
    also (λ e. absurd (n10 (sym e)))
    also tt)

-- ---- taken from bytes

pub take_long : (bs : List ℕ) {r : Held} → (length bs ≡ record_size → ⊥) → r ≡ no_record → r ≡ record_of bs
unfolding record_of
take_long bs h p = p ∙ rw (ne_eqb (length bs) record_size h)

-- ---- read to a record

pub read-long : (bs memory : List ℕ) → (length memory ≡ record_size → ⊥) → answered 20 memory ≡ read_answer bs memory
unfolding read_answer
read-long bs memory h = rw (ne_eqb (length memory) record_size h)

number_read : (a : Result Message Refusal) (t : Texts) (memory : List ℕ) → (read_to a t memory).number ≡ tested (record { answer = a; texts = t })
unfolding read_to
number_read (Ok m) t memory = refl
number_read (Err r) t memory = refl

kept_read : (a : Result Message Refusal) (t : Texts) (memory : List ℕ) → (tested (record { answer = a; texts = t }) ≡ 0 → ⊥) → (read_to a t memory).memory ≡ memory
unfolding read_to
kept_read (Ok m) t memory h = absurd (h refl)
kept_read (Err r) t memory h = refl

module _ (bs memory : List ℕ) (r : ℕ) (h : length memory ≡ record_size) (is : r ≡ tested (read_of bs)) where
  as_read : read_to (read_of bs).answer (read_of bs).texts memory ≡ read_answer bs memory
  unfolding read_answer
  as_read = rw (eq-eqb (length memory) record_size h)

  pub read-yes : {zs : List ℕ} → r ≡ 0 → zs ≡ (read_to (read_of bs).answer (read_of bs).texts memory).memory → answered 0 zs ≡ read_answer bs memory
  read-yes e p =
      let n : (read_to (read_of bs).answer (read_of bs).texts memory).number ≡ 0 = number_read (read_of bs).answer (read_of bs).texts memory ∙ sym is ∙ e in
      ap (answered 0) p ∙ ap (λ (k : ℕ). answered k (read_to (read_of bs).answer (read_of bs).texts memory).memory) (sym n) ∙ as_read

  pub read_no : (r ≡ 0 → ⊥) → answered r memory ≡ read_answer bs memory
  read_no d =
      let x = read_to (read_of bs).answer (read_of bs).texts memory in
      ap (λ (k : ℕ). answered k memory) (is ∙ sym (number_read (read_of bs).answer (read_of bs).texts memory))
      ∙ ap (answered x.number) (sym (kept_read (read_of bs).answer (read_of bs).texts memory (λ e. d (is ∙ e)))) ∙ as_read

-- ---- written from a record

pub write-long : (bs out : List ℕ) → (length bs ≡ record_size → ⊥) → answered 20 out ≡ write_answer bs out
unfolding write_answer
write-long bs out h = rw (ne_eqb (length bs) record_size h)
