-- The ways through the code: what it finds, test by test, is what the definitions say.
-- Assumes nothing.
use mathlib.Core.Path.{◌≡◌, refl, sym, ap, ◌∙◌}
use mathlib.Core.Bool.{Bool, true, false, cond, ◌&&◌, ◌||◌, and-true, and_assoc}
use mathlib.Core.List.{List}
use Prim.Native.Nat.{ℕ, ◌≤◌, ◌<◌}
use borrow.Author.Tests.{le-leb, lt-leb}
use lib.Dec.{eqb}
use lib.ListN.{length, get_or}
use Rattle.field.specs.Bytes.{part, overlay}
use Rattle.field.specs.Limits.{time_in_range}
use Rattle.field.specs.Text.{is_text}
use Rattle.field.specs.Decimal.{number_before_spaces}
use Rattle.std.specs.Prelude.{Option}
use Rattle.std.specs.declared.option.Option.TheVariants as option
use Rattle.field.proofs.Bools.{both_left, both_right}
use Rattle.field.proofs.Parts.{part-whole}
use Rattle.message.specs.Layout.{Value, Row, values, keeps_all}
use Rattle.message.specs.Feed.{Letter, Sized, fields_read, letter_read}
use Rattle.message.specs.Letters.{Content, listed, conditions, letters, letter_in, letter_for, unlisted, no_texts, stamp_rows, stamp_of, instrument_rows, entry_rows, entry_size, instrument_of, instrument_fields, texts_of, directory_rows, directory_of, directory_fields, directory_letter, end_of_replay_rows, end_of_replay_of}
use Rattle.message.specs.Message.{accepted, refused, told, read_fields, read_of, bytes_of, keeps, outcome, write_of}
use Rattle.message.specs.declared.Message.{Message}
use Rattle.message.specs.declared.Message.TheVariants as message
use Rattle.message.specs.declared.Stamp.{Stamp}
use Rattle.message.specs.declared.Instrument.{Instrument}
use Rattle.message.specs.declared.Directory.{Directory}
use Rattle.message.specs.declared.EndOfReplay.{EndOfReplay}
use Rattle.message.specs.declared.Texts.{Texts}
use Rattle.message.specs.declared.Refusal.TheVariants.{UnknownLetter, WrongLength, BadField}
use Rattle.message.specs.declared.Reading.{Reading}
use Rattle.message.specs.declared.WriteRefusal.TheVariants.{BrokenRecord, ShortOutput}
use Rattle.message.proofs.Layouts.{rows_in, values-in-part}
use Rattle.message.proofs.Feeds.{as-unknown, as_long, as_fields, read_none, read_some}
use Rattle.std.specs.Prelude.{Err}
use Rattle.std.specs.Prelude.{Ok}

-- ---- reading

pub read-empty : (bs : List ℕ) {r : Reading} → length bs ≡ 0 → r ≡ refused UnknownLetter → r ≡ read_of bs
unfolding read_of
read-empty bs e p = p ∙ sym (read_none told refused unlisted letters bs e)

-- a record with no texts, of any kind: its letter makes the message that `says` makes of it
module _ {A : Type 0} (l : Letter Content) (vs : List Value) (says : A → Message) (a : A) (made : l.makes vs ≡ (says a, no_texts)) where
  pub judged-yes : {m : A} {r : Reading} {ok : Bool} → ok ≡ keeps_all l.rows vs → ok ≡ true → m ≡ a → r ≡ accepted (says m) no_texts → r ≡ read_fields l vs
  unfolding read_fields fields_read
  judged-yes p y is q = q ∙ rw (← p, y, made, is)

pub judged-no : (l : Letter Content) (vs : List Value) {ok : Bool} {r : Reading} → ok ≡ keeps_all l.rows vs → ok ≡ false → r ≡ refused BadField → r ≡ read_fields l vs
unfolding read_fields fields_read
judged-no l vs p n q = rw (← p, n) q

-- a test of the record is a test of the fields that it was made of
pub by-record : {A : Type 0} (rows : List Row) (vs : List Value) (fields : A → List Value) (a : A) {m : A} {ok : Bool} → fields a ≡ vs → m ≡ a
    → ok ≡ keeps_all rows (fields m) → ok ≡ keeps_all rows vs
by-record rows vs fields a own is p = p ∙ ap (λ x. keeps_all rows (fields x)) is ∙ ap (keeps_all rows) own

module _ (bs : List ℕ) (size : ℕ) (some : length bs ≡ 0 → ⊥) (is : size ≡ (letter_in letters (get_or bs 0 0)).size) where
  by-letter : read_of bs ≡ letter_read told refused (letter_in letters (get_or bs 0 0)) bs
  unfolding read_of
  by-letter = read_some told refused unlisted letters bs some

  pub read-unknown : {r : Reading} → size ≡ 0 → r ≡ refused UnknownLetter → r ≡ read_of bs
  read-unknown e p = p ∙ sym (by-letter ∙ as-unknown told refused (letter_in letters (get_or bs 0 0)) bs (sym is ∙ e))

  pub read-long : {r : Reading} → (size ≡ 0 → ⊥) → (length bs ≡ size → ⊥) → r ≡ refused WrongLength → r ≡ read_of bs
  read-long h e p = p ∙ sym (by-letter ∙ as_long told refused (letter_in letters (get_or bs 0 0)) bs (λ z. h (is ∙ z)) (λ z. e (z ∙ sym is)))

  pub is-sized : (size ≡ 0 → ⊥) → length bs ≡ size → Sized (letter_in letters (get_or bs 0 0)) bs
  is-sized h e = record { is_listed = λ z. h (is ∙ z); is_long = e ∙ is }

  pub read-judged : {r : Reading} → (size ≡ 0 → ⊥) → length bs ≡ size
      → r ≡ read_fields (letter_in letters (get_or bs 0 0)) (values (letter_in letters (get_or bs 0 0)).rows bs) → r ≡ read_of bs
  unfolding read_fields
  read-judged h e p = p ∙ sym (by-letter ∙ as_fields told refused (letter_in letters (get_or bs 0 0)) bs (is-sized h e))

-- ---- by the kind of a message

pub kept : (m' : Message) {m : Message} (t : Texts) {r : Bool} → m ≡ m' → r ≡ keeps m' t → r ≡ keeps m t
kept m' t e p = rw e p

pub put_as : (m' : Message) {m : Message} (t : Texts) (xs : List ℕ) {zs : List ℕ} → m ≡ m' → zs ≡ overlay xs 0 (bytes_of m' t) → zs ≡ overlay xs 0 (bytes_of m t)
put_as m' t xs e p = rw e p

pub room-for : (m' : Message) {m : Message} (n : ℕ) → m ≡ m' → (letter_for m).size ≤ n → (letter_for m').size ≤ n
room-for m' n e h = rw e at h

-- ---- writing

module _ (m : Message) (t : Texts) (out : List ℕ) (ok : Bool) (po : ok ≡ keeps m t) where
  pub write-broken : ok ≡ false → outcome (Err BrokenRecord) out ≡ write_of m t out
  unfolding write_of
  write-broken n = rw (← po, n)

  pub write-short : (size : ℕ) → ok ≡ true → size ≡ (letter_for m).size → length out < size → outcome (Err ShortOutput) out ≡ write_of m t out
  unfolding write_of
  write-short size y e l = rw (← po, y, ← e, lt-leb size (length out) l)

  pub write-whole : (size : ℕ) {zs : List ℕ} → ok ≡ true → size ≡ (letter_for m).size → size ≤ length out → zs ≡ overlay out 0 (bytes_of m t)
      → outcome (Ok size) zs ≡ write_of m t out
  unfolding write_of
  write-whole size y e l p = rw (← po, y, ← e, le-leb size (length out) l, p)

-- ---- what is taken from the bytes

pub number-taken : (bs : List ℕ) (n : ℕ) {x : Option ℕ} → x ≡ number_before_spaces (part bs 1 20) → x ≡ option.Some n
    → ◌≡◌ {A = EndOfReplay} (record { number = n }) (end_of_replay_of (values end_of_replay_rows bs))
unfolding values
number-taken bs n p q = rw (← p, q)

pub no-number-taken : (bs : List ℕ) {x : Option ℕ} → x ≡ number_before_spaces (part bs 1 20) → x ≡ option.None
    → ◌≡◌ {A = EndOfReplay} (record { number = 0 }) (end_of_replay_of (values end_of_replay_rows bs))
unfolding values
no-number-taken bs p q = rw (← p, q)

-- the bytes of an instrument, in a directory and by themselves
pub entry-values : (bs : List ℕ) → values entry_rows (part bs 11 entry_size) ≡ values instrument_rows bs
unfolding rows_in
entry-values bs = values-in-part 11 entry_size instrument_rows bs refl

pub directory-taken : (bs : List ℕ) {s : Stamp} {i : Instrument} → s ≡ stamp_of (values stamp_rows bs) → i ≡ instrument_of (values entry_rows (part bs 11 entry_size))
    → ◌≡◌ {A = Directory} (record { stamp = s; instrument = i }) (directory_of (values directory_rows bs))
unfolding values
directory-taken bs p q i = record { stamp = p i; instrument = (q ∙ ap instrument_of (entry-values bs)) i }

-- a directory, with its texts
module _ (bs : List ℕ) {m : Directory} {t : Texts} {ok : Bool} (is : m ≡ directory_of (values directory_rows bs)) (texts : t ≡ texts_of (values entry_rows (part bs 11 entry_size)))
    (p : ok ≡ keeps_all directory_rows (directory_fields m t)) where
  own-texts : t ≡ texts_of (values instrument_rows bs)
  own-texts = texts ∙ ap texts_of (entry-values bs)

  kept-directory : ok ≡ keeps_all directory_rows (values directory_rows bs)
  unfolding values
  kept-directory = p ∙ rw (is, own-texts)

  pub directory-yes : ok ≡ true → accepted (message.Directory m) t ≡ read_fields directory_letter (values directory_rows bs)
  unfolding read_fields fields_read values
  directory-yes y = rw (← kept-directory, y, is, own-texts)

  pub directory-no : {r : Reading} → ok ≡ false → r ≡ refused BadField → r ≡ read_fields directory_letter (values directory_rows bs)
  unfolding read_fields fields_read
  directory-no n q = rw (← kept-directory, n) q

-- ---- the field rules

any_of : (a b c : Bool) → a || (b || c) ≡ cond a true (cond b true (cond c true false))
any_of true b c = refl
any_of false true c = refl
any_of false false true = refl
any_of false false false = refl

pub is-condition : (c : ℕ) → eqb 32 c || (eqb 88 c || eqb 89 c) ≡ listed conditions c
unfolding listed
is-condition c = any_of (eqb 32 c) (eqb 88 c) (eqb 89 c)

pub text-whole : (xs : List ℕ) (n : ℕ) {r : Bool} → length xs ≡ n → r ≡ is_text (part xs 0 n) → r ≡ is_text xs
text-whole xs n e p = p ∙ ap is_text (part-whole xs n e)

pub directory-keeps : (m : Directory) (t : Texts) {a b : Bool} → a ≡ time_in_range m.stamp.time → b ≡ keeps_all instrument_rows (instrument_fields m.instrument t)
    → a && b ≡ keeps_all directory_rows (directory_fields m t)
unfolding keeps_all
directory-keeps m t p q = rw (p, q)

-- the rules of a quote: its time, its condition, and those of its prices
pub quote-head : {x y t d : ℕ} {a : Bool} → t ≡ x → d ≡ y → a ≡ time_in_range t && listed conditions d → a ≡ time_in_range x && listed conditions y
quote-head {x} {d = d} is-time is-condition p =
    p ∙ ap (λ v. time_in_range v && listed conditions d) is-time ∙ ap (λ v. time_in_range x && listed conditions v) is-condition

module _ (x y : ℕ) {a : Bool} (head : a ≡ time_in_range x && listed conditions y) where
  pub head-kept : (k : Bool) → k ≡ time_in_range x && (listed conditions y && true) → a ≡ k
  head-kept k e = head ∙ sym (simp and-true at e)

  pub side-kept : (k z : Bool) {b : Bool} → k ≡ time_in_range x && (listed conditions y && (z && true)) → b ≡ z → a && b ≡ k
  side-kept k z e q = rw (head, q) (and_assoc (time_in_range x) (listed conditions y) z) ∙ sym (rw (and-true z) at e)

  pub quote-kept : (k z w : Bool) {b : Bool} → k ≡ time_in_range x && (listed conditions y && (z && (w && true))) → b ≡ z && w → a && b ≡ k
  quote-kept k z w e q = rw (head, q) (and_assoc (time_in_range x) (listed conditions y) (z && w)) ∙ sym (rw (and-true w) at e)

-- and each of them by itself
pub side-rules : (a b x : Bool) → a && (b && (x && true)) ≡ true → (a ≡ true) × (b ≡ true) × (x ≡ true)
side-rules a b x e =
    let r = both_right a (b && (x && true)) e in
    (both_left a (b && (x && true)) e, both_left b (x && true) r, both_left x true (both_right b (x && true) r))

pub quote-rules : (a b x y : Bool) → a && (b && (x && (y && true))) ≡ true → (a ≡ true) × (b ≡ true) × (x ≡ true) × (y ≡ true)
quote-rules a b x y e = let r = side-rules b x y (both_right a (b && (x && (y && true))) e) in (both_left a (b && (x && (y && true))) e, r.0, r.1, r.2)

pub both-are : {a b x y : Bool} → a ≡ x → b ≡ y → a && b ≡ x && y
both-are p q = rw (p, q)
