-- What a record holds has room for each of its values.
-- Assumes nothing.
use mathlib.Core.Path.{◌≡◌, refl, sym, ap, ◌∙◌}
use mathlib.Core.Bool.{Bool, true, false, cond}
use mathlib.Core.List.{List}
use Prim.Native.Nat.{ℕ, ◌^◌, ◌≤◌, ◌<◌}
use native.Mathlib.Omega.{arith}
use borrow.Author.Tests.{eqb-true, eqb-false, leb-true}
use lib.Dec.{eqb, leb}
use lib.ListN.{length, get_or}
use Rattle.field.specs.Bytes.{same, Bytes}
use Rattle.field.specs.Limits.{number_in_range, highest_number}
use Rattle.field.proofs.Bools.{both_left, both_right}
use Rattle.field.proofs.Same.{test-same}
use Rattle.message.specs.Layout.{values, keeps_all, numbered}
use Rattle.message.specs.Feed.{Letter}
use Rattle.message.specs.Letters.{Content, letter_in, letter_for, unlisted, fields_of}
use Rattle.message.specs.Message.{keeps, Typed}
use Rattle.message.specs.declared.Message.{Message}
use Rattle.message.specs.declared.Message.TheVariants as message
use Rattle.message.specs.declared.Texts.{Texts}
use Rattle.message.proofs.Layouts.{read-as-numbers}
use Rattle.message.proofs.Puts.{twenty}
use Rattle.message.proofs.Feeds.{found, code-found}
use Rattle.message.proofs.Typed.{inside, values-fit}
use Rattle.record.specs.Places.{record_size, places_for, record_letters}
use Rattle.record.specs.Record.{record_bytes, held, no_record, said_by, said_of, confirmed, record_of, Roomy}
use Rattle.record.specs.declared.Held.{Held}
use Rattle.std.specs.Prelude.{None}
use Rattle.std.specs.Prelude.{Option}
use Rattle.std.specs.Prelude.{Some}

-- ---- room in a record and in the letter's own fields: the widths are the same, but for the number of M

low : (n : ℕ) → number_in_range n ≡ true → n < 256 ^ 8
low n h = omega (arith, leb-true n highest_number (both_right (leb 1 n) (leb n highest_number) h))

pub roomy : (m : Message) (t : Texts) → Typed m t → keeps m t ≡ true → Roomy m t
unfolding keeps keeps_all
roomy (message.SystemEvent m) t f k = f
roomy (message.Directory m) t f k = f
roomy (message.TradingAction m) t f k = f
roomy (message.ShortQuote m) t f k = f
roomy (message.LongQuote m) t f k = f
roomy (message.ShortSide m) t f k = f
roomy (message.LongSide m) t f k = f
roomy (message.EndOfReplay m) t f k = (low m.number (both_left (number_in_range m.number) true k), tt)

pub typed : (m : Message) (t : Texts) → Roomy m t → Typed m t
typed (message.SystemEvent m) t f = f
typed (message.Directory m) t f = f
typed (message.TradingAction m) t f = f
typed (message.ShortQuote m) t f = f
typed (message.LongQuote m) t f = f
typed (message.ShortSide m) t f = f
typed (message.LongSide m) t f = f
typed (message.EndOfReplay m) t f = (twenty m.number f.0, tt)

-- ---- a message that a record holds

-- a letter makes a message whose fields, at their places in a record, are those that it was made of
pub record Makes (l : Letter Content) (bs : List ℕ) : Type 0 where
  pub own : places_for (l.makes (values l.rows bs)).0 ≡ l.rows
  pub code : (letter_for (l.makes (values l.rows bs)).0).code ≡ l.code
  pub fields : fields_of (l.makes (values l.rows bs)).0 (l.makes (values l.rows bs)).1 ≡ values l.rows bs
  pub within : inside record_size l.rows ≡ true

-- what holds of one letter, and what of those after it
infixr 5 ◌also◌
abbrev pub ◌also◌ : {A B : Type 0} → A → B → A × B
a also b = (a, b)

pub record-makes : (c : ℕ) (bs : List ℕ) → ((letter_in record_letters c).size ≡ 0 → ⊥) → Makes (letter_in record_letters c) bs
unfolding record_letters values inside
record-makes c bs =
    found unlisted (λ (l : Letter Content). (l.size ≡ 0 → ⊥) → Makes l bs) c record_letters (λ h. absurd (h refl))
    ((λ e h. record { own = refl; code = refl; fields = refl; within = refl })
    also (λ e h. record { own = refl; code = refl; fields = refl; within = refl })
    also (λ e h. record { own = refl; code = refl; fields = refl; within = refl })
    also (λ e h. record { own = refl; code = refl; fields = refl; within = refl })
    also (λ e h. record { own = refl; code = refl; fields = refl; within = refl })
    also (λ e h. record { own = refl; code = refl; fields = refl; within = refl })
    also (λ e h. record { own = refl; code = refl; fields = refl; within = refl })
    also (λ e h. record { own = refl; code = refl; fields = refl; within = refl })
    also (λ e h. record { own = refl; code = refl; fields = refl; within = refl })
    also (λ e h. record { own = refl; code = refl; fields = refl; within = refl })
    also tt)

-- a record asks nothing of a number, and a price that is read is one
pub record-kept : (c : ℕ) (bs : List ℕ) → keeps_all (letter_in record_letters c).rows (values (letter_in record_letters c).rows bs) ≡ true
unfolding record_letters values keeps_all
record-kept c bs =
    read-as-numbers (letter_in record_letters c).rows bs
    ∙ found unlisted (λ (l : Letter Content). keeps_all (numbered l.rows) (values (numbered l.rows) bs) ≡ true) c record_letters refl (search tt depth 60)

none-clash : {A : Type 0} {m : Message} {t : Texts} → no_record ≡ held m t → A
none-clash {m = m} e =
    let p : None ≡ Some m = ap (λ (x : Held). x.taken) e in
    let z : ◌≡◌ {A = ℕ} 0 1 = cc in
    absurd (omega arith)

-- what the bytes say is what stands at the places of their letter
pub record Said (bs : List ℕ) (m : Message) (t : Texts) : Type 0 where
  pub letter : (letter_for m).code ≡ get_or bs 0 0
  pub fields : fields_of m t ≡ values (places_for m) bs
  pub within : inside record_size (places_for m) ≡ true
  pub kept : keeps_all (places_for m) (values (places_for m) bs) ≡ true

pub is_said : (bs : List ℕ) (m : Message) (t : Texts) → said_of bs ≡ held m t → Said bs m t
unfolding said_of said_by
is_said bs m t = by (eqb l.size 0) refl
  where
    l : Letter Content
    l = letter_in record_letters (get_or bs 0 0)

    by : (b : Bool) → eqb l.size 0 ≡ b → cond b no_record (held (l.makes (values l.rows bs)).0 (l.makes (values l.rows bs)).1) ≡ held m t → Said bs m t
    by true q e = none-clash e
    by false q e =
        let some : l.size ≡ 0 → ⊥ = eqb-false l.size 0 q in
        let w = record-makes (get_or bs 0 0) bs some in
        let o : Some (l.makes (values l.rows bs)).0 ≡ Some m = ap (λ (x : Held). x.taken) e in
        let p : (l.makes (values l.rows bs)).0 ≡ m = cc in
        let u : (l.makes (values l.rows bs)).1 ≡ t = ap (λ (x : Held). x.texts) e in
        let places : places_for m ≡ l.rows = ap places_for (sym p) ∙ w.own in
        record {
          letter = ap (λ (x : Message). (letter_for x).code) (sym p) ∙ w.code ∙ code-found unlisted refl record_letters (get_or bs 0 0) some;
          fields = rw (places, ← p, ← u) w.fields;
          within = rw places w.within;
          kept = rw places (record-kept (get_or bs 0 0) bs);
        }

pub said-roomy : (bs : List ℕ) → Bytes bs → record_size ≤ length bs → (m : Message) (t : Texts) → said_of bs ≡ held m t → Roomy m t
said-roomy bs s h m t e =
    let w = is_said bs m t e in
    rw w.fields (values-fit (places_for m) bs record_size s h w.within w.kept)

-- what it is to be a record
pub record Record (bs : List ℕ) (m : Message) (t : Texts) : Type 0 where
  pub long : length bs ≡ record_size
  pub said : said_of bs ≡ held m t
  pub own : record_bytes m t ≡ bs

pub is-record : (bs : List ℕ) (m : Message) (t : Texts) → record_of bs ≡ held m t → Record bs m t
unfolding record_of confirmed
is-record bs m t = sized (eqb (length bs) record_size) refl
  where
    checked : (m' : Message) (b : Bool) → length bs ≡ record_size → (said_of bs).taken ≡ Some m' → same (record_bytes m' (said_of bs).texts) bs ≡ b
        → cond b (held m' (said_of bs).texts) no_record ≡ held m t → Record bs m t
    checked m' true l q k e =
        let o : Some m' ≡ Some m = ap (λ (x : Held). x.taken) e in
        let p : m' ≡ m = cc in
        let u : (said_of bs).texts ≡ t = ap (λ (x : Held). x.texts) e in
        let same_bytes : record_bytes m' (said_of bs).texts ≡ bs = test-same (record_bytes m' (said_of bs).texts) bs k in
        record { long = l; said = λ i. record { taken = (q ∙ o) i; texts = u i }; own = ap (λ (x : Message). record_bytes x t) (sym p) ∙ ap (record_bytes m') (sym u) ∙ same_bytes }
    checked m' false l q k e = none-clash e

    told : (x : Option Message) → length bs ≡ record_size → (said_of bs).taken ≡ x → confirmed x (said_of bs).texts bs ≡ held m t → Record bs m t
    told (Some m') l q e = checked m' (same (record_bytes m' (said_of bs).texts) bs) l q refl e
    told None l q e = none-clash e

    sized : (b : Bool) → eqb (length bs) record_size ≡ b → cond b (confirmed (said_of bs).taken (said_of bs).texts bs) no_record ≡ held m t → Record bs m t
    sized true k e = told (said_of bs).taken (eqb-true (length bs) record_size k) refl e
    sized false k e = none-clash e

-- THEOREM: a message that a record holds has room for its values
pub record-roomy : (bs : List ℕ) → Bytes bs → (m : Message) (t : Texts) → record_of bs ≡ held m t → Roomy m t
record-roomy bs s m t e = let r = is-record bs m t e in said-roomy bs s (omega (arith, r.long)) m t r.said
