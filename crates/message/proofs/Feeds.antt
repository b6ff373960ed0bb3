-- The laws of any feed: what a code finds in a list of letters, when each answer is given, and the two round trips of a letter.
-- Assumes nothing.
use mathlib.Core.Path.{◌≡◌, refl, sym, ap, ◌∙◌}
use mathlib.Core.Bool.{Bool, true, false, ◌&&◌, cond}
use mathlib.Core.List.{List, [], ◌∷◌}
use Prim.Native.Nat.{ℕ, suc, ◌+◌, ◌≤◌, ◌<◌}
use native.Mathlib.Numerals.{add-one}
use native.Mathlib.Omega.{arith}
use borrow.Author.Tests.{eqb-true, eqb-false, eq-eqb, ne_eqb}
use lib.Dec.{eqb}
use lib.ListN.{length, drop, get_or, length-drop}
use lib.Seq.{drop-cons}
use Rattle.field.specs.Bytes.{Bytes}
use Rattle.field.proofs.Bools.{both_left, both_right}
use Rattle.message.specs.Layout.{Value, values, keeps_all, bytes_for, tiled, Fit}
use Rattle.message.specs.Feed.{Letter, letter_among, length_table, length_in, listed_length, Sized, fields_read, letter_read, bytes_read}
use Rattle.message.specs.declared.Refusal.{Refusal}
use Rattle.message.specs.declared.Refusal.TheVariants.{UnknownLetter, WrongLength, BadField}
use Rattle.std.specs.Prelude.{Option, None, Some}
use Rattle.message.proofs.Layouts.{read_back, written-length, written_back}

-- ---- what a code finds

-- a rule of every letter whose code is c
abbrev pub AllAt : {Rec : Type 0} → (Letter Rec → Type 0) → ℕ → List (Letter Rec) → Type 0
AllAt P c [] = Unit
AllAt P c (l ∷ ls) = (l.code ≡ c → P l) × AllAt P c ls

pub found : {Rec : Type 0} (none : Letter Rec) (P : Letter Rec → Type 0) (c : ℕ) (ls : List (Letter Rec)) → P none → AllAt P c ls
    → P (letter_among none ls c)
unfolding letter_among
found none P c [] u a = u
found none P c (l ∷ ls) u a = by (eqb l.code c) refl (found none P c ls u a.1)
  where
    by : (b : Bool) → eqb l.code c ≡ b → P (letter_among none ls c) → P (cond b l (letter_among none ls c))
    by true e p = a.0 (eqb-true l.code c e)
    by false e p = p

-- every letter of a list has its own code
codes-own : {Rec : Type 0} (c : ℕ) (ls : List (Letter Rec)) → AllAt (λ l. (l.size ≡ 0 → ⊥) → l.code ≡ c) c ls
codes-own c [] = tt
codes-own c (l ∷ ls) = (λ e h. e, codes-own c ls)

-- THE LIST'S RULE, one computed test: the rows of every letter stand one after the other from byte 1 to its length
unfoldable pub all_tiled : {Rec : Type 0} → List (Letter Rec) → Bool
all_tiled [] = true
all_tiled (l ∷ ls) = tiled 1 l.rows l.size && all_tiled ls

letters-tiled : {Rec : Type 0} (c : ℕ) (ls : List (Letter Rec)) → all_tiled ls ≡ true
    → AllAt (λ l. (l.size ≡ 0 → ⊥) → tiled 1 l.rows l.size ≡ true) c ls
unfolding all_tiled
letters-tiled c [] t = tt
letters-tiled c (l ∷ ls) t =
    let here : Bool = tiled 1 l.rows l.size in
    (λ e h. both_left here (all_tiled ls) t, letters-tiled c ls (both_right here (all_tiled ls) t))

module _ {Rec : Type 0} (none : Letter Rec) (empty : none.size ≡ 0) (ls : List (Letter Rec)) (c : ℕ) where
  -- the code that finds a letter is its own
  pub code-found : ((letter_among none ls c).size ≡ 0 → ⊥) → (letter_among none ls c).code ≡ c
  code-found = found none (λ l. (l.size ≡ 0 → ⊥) → l.code ≡ c) c ls (λ h. absurd (h empty)) (codes-own c ls)

  pub tiled-found : all_tiled ls ≡ true → ((letter_among none ls c).size ≡ 0 → ⊥)
      → tiled 1 (letter_among none ls c).rows (letter_among none ls c).size ≡ true
  tiled-found t =
      found none (λ l. (l.size ≡ 0 → ⊥) → tiled 1 l.rows l.size ≡ true) c ls (λ h. absurd (h empty)) (letters-tiled c ls t)

  -- bytes of a letter that keep its rules are what their values are written as
  pub bytes_back : (bs : List ℕ) → all_tiled ls ≡ true → Bytes (c ∷ bs) → Sized (letter_among none ls c) (c ∷ bs)
      → keeps_all (letter_among none ls c).rows (values (letter_among none ls c).rows (c ∷ bs)) ≡ true
      → (letter_among none ls c).code ∷ bytes_for (letter_among none ls c).rows (values (letter_among none ls c).rows (c ∷ bs)) ≡ c ∷ bs
  bytes_back bs t b s k =
      let l = letter_among none ls c in
      rw (code-found s.is_listed) (written_back l.rows l.size (tiled-found t s.is_listed) c bs s.is_long b k)

-- ---- the table of lengths

pub table-length : {Rec : Type 0} (none : Letter Rec) → none.size ≡ 0 → (ls : List (Letter Rec)) (c : ℕ)
    → length_in (length_table ls) c ≡ (letter_among none ls c).size
unfolding length_in length_table letter_among
table-length none empty [] c = sym empty
table-length none empty (l ∷ ls) c = by (eqb l.code c) (table-length none empty ls c)
  where
    by : (b : Bool) → length_in (length_table ls) c ≡ (letter_among none ls c).size
        → cond b l.size (length_in (length_table ls) c) ≡ (cond b l (letter_among none ls c)).size
    by true e = refl
    by false e = e

-- the length that a letter is listed with, or none
module _ {Rec : Type 0} (l : Letter Rec) where
  pub unlisted_length : {n : ℕ} → n ≡ l.size → n ≡ 0 → None ≡ listed_length l
  unlisted_length e z = rw (eq-eqb l.size 0 (sym e ∙ z))

  pub own-length : {n : ℕ} → n ≡ l.size → (n ≡ 0 → ⊥) → Some n ≡ listed_length l
  own-length {n} e h = rw (← e, ne_eqb n 0 h)

  pub has-length : {x : Option ℕ} {n : ℕ} → x ≡ listed_length l → x ≡ Some n → (n ≡ l.size) × (n ≡ 0 → ⊥)
  has-length {n = n} p q = by (eqb l.size 0) refl (sym q ∙ p)
    where
      by : (b : Bool) → eqb l.size 0 ≡ b → Some n ≡ cond b None (Some l.size) → (n ≡ l.size) × (n ≡ 0 → ⊥)
      by true e s = let z : ◌≡◌ {A = ℕ} 0 1 = cc in absurd (omega arith)
      by false e s = let i : n ≡ l.size = cc in (i, λ z. eqb-false l.size 0 e (sym i ∙ z))

  pub has-none : {x : Option ℕ} → x ≡ listed_length l → x ≡ None → l.size ≡ 0
  has-none p q = by (eqb l.size 0) refl (sym q ∙ p)
    where
      by : (b : Bool) → eqb l.size 0 ≡ b → None ≡ cond b None (Some l.size) → l.size ≡ 0
      by true e s = eqb-true l.size 0 e
      by false e s = let z : ◌≡◌ {A = ℕ} 0 1 = cc in absurd (omega arith)

none_left : (xs : List ℕ) (c : ℕ) → length xs ≤ 1 → length_in xs c ≡ 0
unfolding length_in
none_left [] c h = refl
none_left (x ∷ []) c h = refl
none_left (x ∷ y ∷ xs) c h = absurd (omega arith)

-- a turn of the loop over a table of lengths: its entry is the one, or the rest is looked through
module _ (xs : List ℕ) (c i : ℕ) where
  entry : i + 1 < length xs → drop i xs ≡ get_or xs i 0 ∷ get_or xs (i + 1) 0 ∷ drop (i + 2) xs
  entry h =
      let e : suc (i + 1) ≡ i + 2 = omega arith in
      drop-cons xs i 0 (omega arith)
      ∙ ap (λ (l : List ℕ). get_or xs i 0 ∷ l) (rw (← add-one i) (drop-cons xs (i + 1) 0 h ∙ rw e))

  pub length-here : i + 1 < length xs → get_or xs i 0 ≡ c → length_in (drop i xs) c ≡ get_or xs (i + 1) 0
  unfolding length_in
  length-here h e = rw (entry h, eq-eqb (get_or xs i 0) c e)

  pub length-on : i + 1 < length xs → (get_or xs i 0 ≡ c → ⊥) → length_in (drop i xs) c ≡ length_in (drop (i + 2) xs) c
  unfolding length_in
  length-on h d = rw (entry h, ne_eqb (get_or xs i 0) c d)

  pub length_none : length xs ≤ i + 1 → length_in (drop i xs) c ≡ 0
  length_none h = none_left (drop i xs) c (rw length-drop (omega arith))

-- ---- reading

module _ {Rec Ans : Type 0} (accepted : Rec → Ans) (refused : Refusal → Ans) where
  -- one letter's three tests
  module _ (l : Letter Rec) (bs : List ℕ) where
    pub as-unknown : l.size ≡ 0 → letter_read accepted refused l bs ≡ refused UnknownLetter
    unfolding letter_read
    as-unknown e = rw (eq-eqb l.size 0 e)

    pub as_long : (l.size ≡ 0 → ⊥) → (length bs ≡ l.size → ⊥) → letter_read accepted refused l bs ≡ refused WrongLength
    unfolding letter_read
    as_long h e = rw (ne_eqb l.size 0 h, ne_eqb (length bs) l.size e)

    pub as_fields : Sized l bs → letter_read accepted refused l bs ≡ fields_read accepted refused l (values l.rows bs)
    unfolding letter_read
    as_fields s = rw (ne_eqb l.size 0 s.is_listed, eq-eqb (length bs) l.size s.is_long)

  module _ (none : Letter Rec) (ls : List (Letter Rec)) where
    pub read_none : (bs : List ℕ) → length bs ≡ 0 → bytes_read accepted refused none ls bs ≡ refused UnknownLetter
    unfolding bytes_read
    read_none [] e = refl
    read_none (c ∷ bs) e = absurd (omega arith)

    pub read_some : (bs : List ℕ) → (length bs ≡ 0 → ⊥)
        → bytes_read accepted refused none ls bs ≡ letter_read accepted refused (letter_among none ls (get_or bs 0 0)) bs
    unfolding bytes_read
    read_some [] h = absurd (h refl)
    read_some (c ∷ bs) h = refl

-- each answer of a reading with the one condition under which it is given: no two of the conditions hold together
pub data Verdict {Rec Ans : Type 0} (accepted : Rec → Ans) (refused : Refusal → Ans) (letter_of : ℕ → Letter Rec)
    : List ℕ → Ans → Type 0 where
  empty : Verdict accepted refused letter_of [] (refused UnknownLetter)
  unknown : (c : ℕ) (bs : List ℕ) → (letter_of c).size ≡ 0 → Verdict accepted refused letter_of (c ∷ bs) (refused UnknownLetter)
  long : (c : ℕ) (bs : List ℕ) → ((letter_of c).size ≡ 0 → ⊥) → (length (c ∷ bs) ≡ (letter_of c).size → ⊥)
      → Verdict accepted refused letter_of (c ∷ bs) (refused WrongLength)
  field : (c : ℕ) (bs : List ℕ) → Sized (letter_of c) (c ∷ bs) → keeps_all (letter_of c).rows (values (letter_of c).rows (c ∷ bs)) ≡ false
      → Verdict accepted refused letter_of (c ∷ bs) (refused BadField)
  whole : (c : ℕ) (bs : List ℕ) → Sized (letter_of c) (c ∷ bs) → keeps_all (letter_of c).rows (values (letter_of c).rows (c ∷ bs)) ≡ true
      → Verdict accepted refused letter_of (c ∷ bs) (accepted ((letter_of c).makes (values (letter_of c).rows (c ∷ bs))))

module _ {Rec Ans : Type 0} (accepted : Rec → Ans) (refused : Refusal → Ans) (none : Letter Rec) (ls : List (Letter Rec)) where
  -- THEOREM: every reading is given under its condition
  pub verdict : (bs : List ℕ) → Verdict accepted refused (letter_among none ls) bs (bytes_read accepted refused none ls bs)
  unfolding bytes_read letter_read fields_read
  verdict [] = empty
  verdict (c ∷ bs) = known (eqb l.size 0) refl
    where
      l : Letter Rec
      l = letter_among none ls c

      Ends : Ans → Type 0
      Ends = Verdict accepted refused (letter_among none ls) (c ∷ bs)

      kept : (b : Bool) → keeps_all l.rows (values l.rows (c ∷ bs)) ≡ b → Sized l (c ∷ bs)
          → Ends (cond b (accepted (l.makes (values l.rows (c ∷ bs)))) (refused BadField))
      kept true e s = whole c bs s e
      kept false e s = field c bs s e

      sized : (b : Bool) → eqb (length (c ∷ bs)) l.size ≡ b → (l.size ≡ 0 → ⊥)
          → Ends (cond b (fields_read accepted refused l (values l.rows (c ∷ bs))) (refused WrongLength))
      sized true e h =
          kept (keeps_all l.rows (values l.rows (c ∷ bs))) refl
          (record { is_listed = h; is_long = eqb-true (length (c ∷ bs)) l.size e })
      sized false e h = long c bs h (eqb-false (length (c ∷ bs)) l.size e)

      known : (b : Bool) → eqb l.size 0 ≡ b
          → Ends
          (cond b (refused UnknownLetter)
          (cond (eqb (length (c ∷ bs)) l.size) (fields_read accepted refused l (values l.rows (c ∷ bs))) (refused WrongLength)))
      known true e = unknown c bs (eqb-true l.size 0 e)
      known false e = sized (eqb (length (c ∷ bs)) l.size) refl (eqb-false l.size 0 e)

  -- THEOREM: values of a listed letter that fit and keep their rules are read back, as the record that they make, from the bytes that they
  -- are written as
  pub written_read : (l : Letter Rec) (vs : List Value) → letter_among none ls l.code ≡ l → (l.size ≡ 0 → ⊥)
      → tiled 1 l.rows l.size ≡ true
      → Fit l.rows vs → keeps_all l.rows vs ≡ true
      → bytes_read accepted refused none ls (l.code ∷ bytes_for l.rows vs) ≡ accepted (l.makes vs)
  unfolding bytes_read letter_read fields_read
  written_read l vs own some t f k =
      rw (
        own,
        ne_eqb l.size 0 some,
        eq-eqb (length (l.code ∷ bytes_for l.rows vs)) l.size (written-length l.rows l.size t l.code vs f),
        read_back l.rows l.size t l.code vs f k,
        k,
      )
