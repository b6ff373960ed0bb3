-- A feed as data: a list of letters, each with its exact length, its layout and the record that its fields make; and what a feed's bytes
-- say. Another feed is another list.
-- Assumes nothing.
use Rattle.std.specs.Prelude.{ℕ, ◌≡◌, cond, List, [], ◌∷◌, eqb, length, Option, None, Some}
use Rattle.message.specs.Layout.{Value, Row, values, keeps_all}
use Rattle.message.specs.declared.Refusal.{Refusal}
use Rattle.message.specs.declared.Refusal.TheVariants.{UnknownLetter, WrongLength, BadField}

-- byte 0 of a message is its letter's code; the rows are the fields after it
pub record Letter (Rec : Type 0) : Type 0 where
  pub code : ℕ
  pub size : ℕ
  pub rows : List Row
  pub makes : List Value → Rec

-- the letter of a code; `none` for a code that is not listed
unfoldable pub letter_among : {Rec : Type 0} → Letter Rec → List (Letter Rec) → ℕ → Letter Rec
letter_among none [] c = none
letter_among none (l ∷ ls) c = cond (eqb l.code c) l (letter_among none ls c)

-- a constant table of codes and lengths, and what it says of a code
unfoldable pub length_table : {Rec : Type 0} → List (Letter Rec) → List ℕ
length_table [] = []
length_table (l ∷ ls) = l.code ∷ l.size ∷ length_table ls

unfoldable pub length_in : List ℕ → ℕ → ℕ
length_in [] c = 0
length_in (x ∷ []) c = 0
length_in (x ∷ n ∷ xs) c = cond (eqb x c) n (length_in xs c)

-- the length of a listed letter; none for one that is not listed
abbrev pub listed_length : {Rec : Type 0} → Letter Rec → Option ℕ
listed_length l = cond (eqb l.size 0) None (Some l.size)

-- bytes of the length that a listed letter has
pub record Sized {Rec : Type 0} (l : Letter Rec) (bs : List ℕ) : Type 0 where
  pub is_listed : l.size ≡ 0 → ⊥
  pub is_long : length bs ≡ l.size

-- ---- READING, to answers of any type: one for each record, and one for each refusal
module _ {Rec Ans : Type 0} (accepted : Rec → Ans) (refused : Refusal → Ans) where
  -- 12 for a field outside its list or range, else the record that the fields make
  unfoldable pub fields_read : Letter Rec → List Value → Ans
  fields_read l vs = cond (keeps_all l.rows vs) (accepted (l.makes vs)) (refused BadField)

  -- before that 10 for an unknown letter, and 11 for a wrong length
  unfoldable pub letter_read : Letter Rec → List ℕ → Ans
  letter_read l bs =
      cond (eqb l.size 0) (refused UnknownLetter)
      (cond (eqb (length bs) l.size) (fields_read l (values l.rows bs)) (refused WrongLength))

  -- 10 for an empty message too
  unfoldable pub bytes_read : Letter Rec → List (Letter Rec) → List ℕ → Ans
  bytes_read none ls [] = refused UnknownLetter
  bytes_read none ls (c ∷ bs) = letter_read (letter_among none ls c) (c ∷ bs)
