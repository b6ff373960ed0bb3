-- Bytes tested where they lie: each way through the tests gives what reading says.
-- Assumes nothing.
use mathlib.Core.Path.{◌≡◌, refl, sym, ap, ◌∙◌}
use mathlib.Core.Bool.{Bool, true, false, ◌&&◌, cond, not, and-true, and-false}
use mathlib.Core.List.{List, [], ◌∷◌}
use Prim.Native.Nat.{ℕ, suc, ◌+◌, ◌≤◌, ◌<◌}
use native.Mathlib.Decide.{ℕ_discrete}
use native.Mathlib.Omega.{arith}
use borrow.Author.Tests.{eq-eqb, ne_eqb, le-leb, lt-leb, not-true, not-false}
use lib.ListN.{length, get_or}
use Rattle.field.specs.Bytes.{part, be}
use Rattle.field.specs.Limits.{time_in_range, number_in_range, price_in_range}
use Rattle.field.specs.Text.{within, is_text}
use Rattle.message.specs.Layout.{Value, number_at, values, keeps_all}
use Rattle.message.specs.Letters.{Content, unlisted, letters, letter_in, listed, conditions, event_codes, option_types, closings, tradables, variations, states, entry_rows, entry_size, end_of_replay_rows, end_of_replay_of, short_quote_rows, long_quote_rows, short_side_rows, long_side_rows}
use Rattle.message.specs.declared.EndOfReplay.{EndOfReplay}
use Rattle.message.specs.Message.{read_as, read_of}
use Rattle.message.specs.Feed.{Letter, Sized, listed_length, letter_among, fields_read, letter_read, bytes_read}
use Rattle.message.specs.Test.{tested_as, tested, checked_as, checked, number_in, quote_letters, quote_length, prices_keep, entry_keeps}
use Rattle.message.specs.declared.Reading.{Reading}
use Rattle.message.specs.declared.Message.{Message}
use Rattle.message.specs.declared.Refusal.{Refusal}
use Rattle.message.specs.declared.Refusal.TheVariants.{UnknownLetter, WrongLength, BadField}
use Rattle.std.specs.Prelude.{Result, Ok, Err, Option, Some, None}
use Rattle.message.proofs.Layouts.{read-as-numbers, rows_in, values-in-part}
use Rattle.message.proofs.Feeds.{found, unlisted_length, has-length, has-none}
use Rattle.message.proofs.Table.{room}
use Rattle.message.proofs.Ways.{entry-values}

infixr 5 ◌also◌
abbrev ◌also◌ : {A B : Type 0} → A → B → A × B
a also b = (a, b)

-- ---- any letter

module _ (l : Letter Content) (bs : List ℕ) where
  unknown : l.size ≡ 0 → Err UnknownLetter ≡ checked (read_as l bs)
  unfolding read_as letter_read
  unknown e = rw (eq-eqb l.size 0 e)

  long : (l.size ≡ 0 → ⊥) → (length bs ≡ l.size → ⊥) → Err WrongLength ≡ checked (read_as l bs)
  unfolding read_as letter_read
  long h e = rw (ne_eqb l.size 0 h, ne_eqb (length bs) l.size e)

  judged : (ok : Bool) → Sized l bs → keeps_all l.rows (values l.rows bs) ≡ ok → cond ok (Ok (tt {0})) (Err BadField) ≡ checked (read_as l bs)
  unfolding read_as letter_read fields_read
  judged true s k = rw (ne_eqb l.size 0 s.is_listed, eq-eqb (length bs) l.size s.is_long, k)
  judged false s k = rw (ne_eqb l.size 0 s.is_listed, eq-eqb (length bs) l.size s.is_long, k)

-- ---- the six letters of quotes

pub quote-none : (c : ℕ) → (c ≡ 113 → ⊥) → (c ≡ 81 → ⊥) → (c ≡ 98 → ⊥) → (c ≡ 97 → ⊥) → (c ≡ 66 → ⊥) → (c ≡ 65 → ⊥) → 0 ≡ quote_length c
unfolding quote_length quote_letters
quote-none c n1 n2 n3 n4 n5 n6 =
    found unlisted (λ (l : Letter Content). 0 ≡ l.size) c quote_letters refl
    ((λ e. absurd (n1 (sym e)))
    also (λ e. absurd (n2 (sym e)))
    also (λ e. absurd (n3 (sym e)))
    also (λ e. absurd (n4 (sym e)))
    also (λ e. absurd (n5 (sym e)))
    also (λ e. absurd (n6 (sym e)))
    also tt)

pub quote-arm : (k n c : ℕ) → c ≡ k → Some n ≡ listed_length (letter_in quote_letters k) → Some n ≡ listed_length (letter_in quote_letters c)
quote-arm k n c e p = rw e p

-- a letter is a quote's, with its length, or it is none
module _ (c : ℕ) {x : Option ℕ} (p : x ≡ listed_length (letter_in quote_letters c)) where
  pub is-quote : {n : ℕ} → x ≡ Some n → (n ≡ quote_length c) × (n ≡ 0 → ⊥)
  unfolding quote_length
  is-quote q = has-length (letter_in quote_letters c) p q

  pub no-quote : x ≡ None → quote_length c ≡ 0
  unfolding quote_length
  no-quote q = has-none (letter_in quote_letters c) p q

-- what each of them is: a letter of the feed, with room for its prices, and three rules
pub record Quotes (bs : List ℕ) (c : ℕ) (l : Letter Content) : Type 0 where
  pub own : letter_in letters c ≡ l
  pub head : 16 ≤ l.size
  pub one : c < 97 → 24 ≤ l.size
  pub two : c ≡ 81 → 44 ≤ l.size
  pub rules : keeps_all l.rows (values l.rows bs) ≡ time_in_range (be (part bs 3 8)) && (listed conditions (be (part bs 15 1)) && prices_keep c bs)

pub quotes : (bs : List ℕ) (c : ℕ) → (quote_length c ≡ 0 → ⊥) → Quotes bs c (letter_in quote_letters c)
unfolding quote_length quote_letters letters letter_among values keeps_all prices_keep
quotes bs c =
    found unlisted (λ (l : Letter Content). (l.size ≡ 0 → ⊥) → Quotes bs c l) c quote_letters (λ h. absurd (h refl))
    ((λ e h. rw (← e) (record { own = refl; head = omega arith; one = λ z. omega arith; two = λ z. omega arith; rules = read-as-numbers short_quote_rows bs ∙ simp and-true }))
    also (λ e h. rw (← e) (record { own = refl; head = omega arith; one = λ z. omega arith; two = λ z. omega arith; rules = read-as-numbers long_quote_rows bs ∙ simp and-true }))
    also (λ e h. rw (← e) (record { own = refl; head = omega arith; one = λ z. omega arith; two = λ z. omega arith; rules = read-as-numbers short_side_rows bs ∙ simp and-true }))
    also (λ e h. rw (← e) (record { own = refl; head = omega arith; one = λ z. omega arith; two = λ z. omega arith; rules = read-as-numbers short_side_rows bs ∙ simp and-true }))
    also (λ e h. rw (← e) (record { own = refl; head = omega arith; one = λ z. omega arith; two = λ z. omega arith; rules = read-as-numbers long_side_rows bs ∙ simp and-true }))
    also (λ e h. rw (← e) (record { own = refl; head = omega arith; one = λ z. omega arith; two = λ z. omega arith; rules = read-as-numbers long_side_rows bs ∙ simp and-true }))
    also tt)

-- a quote's prices
module _ (c : ℕ) (bs : List ℕ) where
  pub prices-short : 97 ≤ c → true ≡ prices_keep c bs
  unfolding prices_keep
  prices-short h = rw (le-leb 97 c h)

  module _ (cap : c < 97) {a : Bool} (p : a ≡ price_in_range (be (part bs 20 4))) where
    pub prices-first : not a ≡ true → false ≡ prices_keep c bs
    unfolding prices_keep
    prices-first n = rw (lt-leb 97 c cap, ← p, not-true a n)

    pub prices-one : not a ≡ false → (c ≡ 81 → ⊥) → true ≡ prices_keep c bs
    unfolding prices_keep
    prices-one y d = rw (lt-leb 97 c cap, ← p, not-false a y, ne_eqb c 81 d)

    pub prices-two : {b : Bool} → not a ≡ false → c ≡ 81 → b ≡ price_in_range (be (part bs 40 4)) → b ≡ prices_keep c bs
    unfolding prices_keep
    prices-two y e q = rw (lt-leb 97 c cap, ← p, not-false a y, eq-eqb c 81 e) q

pub room-one : (c : ℕ) (bs : List ℕ) → (quote_length c ≡ 0 → ⊥) → length bs ≡ quote_length c → c < 97 → 24 ≤ length bs
unfolding quote_length
room-one c bs h e l = rw e ((quotes bs c h).one l)

pub room-two : (c : ℕ) (bs : List ℕ) → (quote_length c ≡ 0 → ⊥) → length bs ≡ quote_length c → c ≡ 81 → 44 ≤ length bs
unfolding quote_length
room-two c bs h e l = rw e ((quotes bs c h).two l)

-- the ways through the test of a quote
module _ (c size : ℕ) (bs : List ℕ) (is : size ≡ quote_length c) (some : size ≡ 0 → ⊥) where
  some-length : quote_length c ≡ 0 → ⊥
  some-length e = some (is ∙ e)

  own-size : size ≡ (letter_in letters c).size
  unfolding quote_length
  own-size = is ∙ ap (λ (l : Letter Content). l.size) (sym (quotes bs c some-length).own)

  pub room-head : length bs ≡ size → 16 ≤ length bs
  unfolding quote_length
  room-head e = rw (e, is) (quotes bs c some-length).head

  pub room-time : length bs ≡ size → 11 ≤ length bs
  room-time e = omega (arith, room-head e)

  pub quote-long : (length bs ≡ size → ⊥) → Err WrongLength ≡ checked (read_as (letter_in letters c) bs)
  quote-long h = long (letter_in letters c) bs (λ e. some (own-size ∙ e)) (λ e. h (e ∙ sym own-size))

  ruled : length bs ≡ size → (ok : Bool) → time_in_range (be (part bs 3 8)) && (listed conditions (be (part bs 15 1)) && prices_keep c bs) ≡ ok
      → cond ok (Ok (tt {0})) (Err BadField) ≡ checked (read_as (letter_in letters c) bs)
  ruled e ok k =
      judged (letter_in letters c) bs ok (record { is_listed = λ z. some (own-size ∙ z); is_long = e ∙ own-size })
      (ap (λ (l : Letter Content). keeps_all l.rows (values l.rows bs)) (quotes bs c some-length).own ∙ (quotes bs c some-length).rules ∙ k)

  module _ (e : length bs ≡ size) {a : Bool} (p : a ≡ time_in_range (be (part bs 3 8))) where
    pub quote-time : not a ≡ true → Err BadField ≡ checked (read_as (letter_in letters c) bs)
    quote-time n = ruled e false (rw (← p, not-true a n))

    module _ {v : ℕ} {b : Bool} (i : v ≡ be (part bs 15 1)) (q : b ≡ listed conditions v) (y : not a ≡ false) where
      pub quote-condition : not b ≡ true → Err BadField ≡ checked (read_as (letter_in letters c) bs)
      quote-condition n = ruled e false (rw (← p, not-false a y, ← i, ← q, not-true b n))

      pub quote-prices : {d : Bool} → not b ≡ false → d ≡ prices_keep c bs → not d ≡ true → Err BadField ≡ checked (read_as (letter_in letters c) bs)
      quote-prices {d} z r n = ruled e false (rw (← p, not-false a y, ← i, ← q, not-false b z, ← r, not-true d n))

      pub quote-kept : {d : Bool} → not b ≡ false → d ≡ prices_keep c bs → not d ≡ false → Ok (tt {0}) ≡ checked (read_as (letter_in letters c) bs)
      quote-kept {d} z r n = ruled e true (rw (← p, not-false a y, ← i, ← q, not-false b z, ← r, not-false d n))

-- ---- the other letters

module _ (c size : ℕ) (bs : List ℕ) (is : size ≡ (letter_in letters c).size) where
  pub rare-unknown : size ≡ 0 → Err UnknownLetter ≡ checked (read_as (letter_in letters c) bs)
  rare-unknown e = unknown (letter_in letters c) bs (sym is ∙ e)

  module _ (some : size ≡ 0 → ⊥) where
    pub rare-long : (length bs ≡ size → ⊥) → Err WrongLength ≡ checked (read_as (letter_in letters c) bs)
    rare-long h = long (letter_in letters c) bs (λ e. some (is ∙ e)) (λ e. h (e ∙ sym is))

    pub rare-sized : length bs ≡ size → Sized (letter_in letters c) bs
    rare-sized e = record { is_listed = λ z. some (is ∙ z); is_long = e ∙ is }

    pub rare-kept : {ok : Bool} → length bs ≡ size → ok ≡ keeps_all (letter_in letters c).rows (values (letter_in letters c).rows bs) → ok ≡ true
        → Ok (tt {0}) ≡ checked (read_as (letter_in letters c) bs)
    rare-kept e k y = judged (letter_in letters c) bs true (rare-sized e) (sym k ∙ y)

    pub rare-broken : {ok : Bool} → length bs ≡ size → ok ≡ keeps_all (letter_in letters c).rows (values (letter_in letters c).rows bs) → ok ≡ false
        → Err BadField ≡ checked (read_as (letter_in letters c) bs)
    rare-broken e k y = judged (letter_in letters c) bs false (rare-sized e) (sym k ∙ y)

-- a listed code that is no quote's and none of the other three is M
pub rare-last : (c : ℕ) → (c ≡ 83 → ⊥) → (c ≡ 109 → ⊥) → (c ≡ 72 → ⊥) → quote_length c ≡ 0 → ((letter_in letters c).size ≡ 0 → ⊥) → c ≡ 77
unfolding letters quote_length quote_letters letter_among
rare-last c n1 n2 n3 q =
    found unlisted (λ (l : Letter Content). (l.size ≡ 0 → ⊥) → c ≡ 77) c letters (λ h. absurd (h refl))
    ((λ e h. absurd (n1 (sym e)))
    also (λ e h. absurd (n2 (sym e)))
    also (λ e h. absurd (n3 (sym e)))
    also (λ e h. no (rw (← e) at q))
    also (λ e h. no (rw (← e) at q))
    also (λ e h. no (rw (← e) at q))
    also (λ e h. no (rw (← e) at q))
    also (λ e h. no (rw (← e) at q))
    also (λ e h. no (rw (← e) at q))
    also (λ e h. sym e)
    also tt)
  where
    no : {n : ℕ} {A : Type 0} → suc n ≡ 0 → A
    no z = absurd (omega arith)

-- their lengths
pub rare-size : (k : ℕ) {c : ℕ} → c ≡ k → listed_length (letter_in letters k) ≡ listed_length (letter_in letters c)
rare-size k e = ap (λ (x : ℕ). listed_length (letter_in letters x)) (sym e)

pub rare-none : (c : ℕ) → (c ≡ 83 → ⊥) → (c ≡ 109 → ⊥) → (c ≡ 72 → ⊥) → (c ≡ 77 → ⊥) → quote_length c ≡ 0 → None ≡ listed_length (letter_in letters c)
rare-none c n1 n2 n3 n4 q = unlisted_length (letter_in letters c) refl (by (ℕ_discrete (letter_in letters c).size 0))
  where
    by : Dec ((letter_in letters c).size ≡ 0) → (letter_in letters c).size ≡ 0
    by (yes e) = e
    by (no n) = absurd (n4 (rare-last c n1 n2 n3 q n))

-- the fields of each, where they lie
module _ (bs : List ℕ) (symbol date strike kind underlying marks : ℕ) where
  pub entry-no-symbol : {a : Bool} → a ≡ is_text (part bs symbol 8) → not a ≡ true → false ≡ entry_keeps bs symbol date strike kind underlying marks
  unfolding entry_keeps
  entry-no-symbol {a} p q = rw (← p, not-true a q)

  pub entry-no-underlying : {h : Bool} → h ≡ is_text (part bs underlying 13) → not h ≡ true → false ≡ entry_keeps bs symbol date strike kind underlying marks
  unfolding entry_keeps
  entry-no-underlying {h} p q = rw (← p, not-true h q) (sym (simp and-false))

  pub entry-tested : {a b d e f g h k l n : Bool} {y m z t o w v : ℕ} → a ≡ is_text (part bs symbol 8) → not a ≡ false → h ≡ is_text (part bs underlying 13) → not h ≡ false
      → y ≡ be (part bs date 1) → b ≡ within 0 99 y → m ≡ be (part bs (date + 1) 1) → d ≡ within 1 12 m → z ≡ be (part bs (date + 2) 1) → e ≡ within 1 31 z
      → f ≡ price_in_range (be (part bs strike 4)) → t ≡ be (part bs kind 1) → g ≡ listed option_types t
      → o ≡ be (part bs marks 1) → k ≡ listed closings o → w ≡ be (part bs (marks + 1) 1) → l ≡ listed tradables w → v ≡ be (part bs (marks + 2) 1)
      → n ≡ listed variations v → b && (d && (e && (f && (g && (k && (l && n)))))) ≡ entry_keeps bs symbol date strike kind underlying marks
  unfolding entry_keeps
  entry-tested {a} {h = h} p1 q1 p7 q7 i1 p2 i2 p3 i3 p4 p5 i4 p6 i5 p8 i6 p9 i7 p10 =
      rw (← p1, ← p7, not-false a q1, not-false h q7, p2, i1, p3, i2, p4, i3, p5, p6, i4, p8, i5, p9, i6, p10, i7)

-- the places of an entry's own bytes
pub entry-rules : (bs : List ℕ) {r : Bool} → r ≡ entry_keeps bs 4 12 15 19 20 33 → r ≡ keeps_all entry_rows (values entry_rows bs)
unfolding entry_keeps keeps_all values
entry-rules bs p = p ∙ simp and-true

pub event-tested : (c : ℕ) (bs : List ℕ) {a b : Bool} {v : ℕ} → c ≡ 83 → a ≡ time_in_range (be (part bs 3 8)) → v ≡ be (part bs 11 1) → b ≡ listed event_codes v
    → a && b ≡ keeps_all (letter_in letters c).rows (values (letter_in letters c).rows bs)
unfolding letters letter_among keeps_all values
event-tested c bs e p i q = rw (e, p, q, i) (simp and-true)

pub directory-tested : (c : ℕ) (bs : List ℕ) {a b : Bool} → c ≡ 109 → a ≡ time_in_range (be (part bs 3 8))
    → b ≡ keeps_all entry_rows (values entry_rows (part bs 11 entry_size)) → a && b ≡ keeps_all (letter_in letters c).rows (values (letter_in letters c).rows bs)
unfolding letters letter_among keeps_all values
directory-tested c bs e p q = rw (e, p) (ap (λ (b : Bool). time_in_range (be (part bs 3 8)) && b) (q ∙ ap (keeps_all entry_rows) (entry-values bs)))

pub action-tested : (c : ℕ) (bs : List ℕ) {a b : Bool} {v : ℕ} → c ≡ 72 → a ≡ time_in_range (be (part bs 3 8)) → v ≡ be (part bs 15 1) → b ≡ listed states v
    → a && b ≡ keeps_all (letter_in letters c).rows (values (letter_in letters c).rows bs)
unfolding letters letter_among keeps_all values
action-tested c bs e p i q = rw (e, p, q, i) (simp and-true)

module _ (c : ℕ) (n1 : c ≡ 83 → ⊥) (n2 : c ≡ 109 → ⊥) (n3 : c ≡ 72 → ⊥) (q : quote_length c ≡ 0) where
  pub number-room : (bs : List ℕ) → Sized (letter_in letters c) bs → 21 ≤ length bs
  unfolding letters letter_among
  number-room bs s = room 77 c bs (rare-last c n1 n2 n3 q s.is_listed) s

  pub number-tested : (bs : List ℕ) {v : ℕ} {b : Bool} → Sized (letter_in letters c) bs → v ≡ (end_of_replay_of (values end_of_replay_rows bs)).number → b ≡ number_in_range v
      → b ≡ keeps_all (letter_in letters c).rows (values (letter_in letters c).rows bs)
  unfolding letters letter_among keeps_all values
  number-tested bs s i p = rw (rare-last c n1 n2 n3 q s.is_listed, p, i) (simp and-true)

pub number-part : (bs : List ℕ) {m : EndOfReplay} → m ≡ end_of_replay_of (values end_of_replay_rows (part bs 0 21)) → m.number ≡ (end_of_replay_of (values end_of_replay_rows bs)).number
unfolding rows_in
number-part bs p = ap (λ (m : EndOfReplay). m.number) p ∙ ap (λ (vs : List Value). number_at vs 0) (values-in-part 0 21 end_of_replay_rows bs refl)

-- ---- any bytes

pub test-empty : (bs : List ℕ) → length bs ≡ 0 → 10 ≡ tested (read_of bs)
unfolding read_of read_as bytes_read
test-empty [] e = refl
test-empty (c ∷ bs) e = absurd (omega arith)

-- the number of an answer is the number of the test
pub test-number : (x : Reading) {r : Result (Unit {0}) Refusal} {n : ℕ} → n ≡ number_in r → r ≡ checked x → n ≡ tested x
test-number x q p = q ∙ ap number_in p ∙ by x.answer
  where
    by : (a : Result Message Refusal) → number_in (checked_as a) ≡ tested_as a
    by (Ok m) = refl
    by (Err r) = refl

pub test-some : (bs : List ℕ) {r : Result (Unit {0}) Refusal} → (length bs ≡ 0 → ⊥) → r ≡ checked (read_as (letter_in letters (get_or bs 0 0)) bs)
    → r ≡ checked (read_of bs)
unfolding read_of read_as bytes_read
test-some [] h p = absurd (h refl)
test-some (c ∷ bs) h p = p
