-- A message that is read has room for each of its values, keeps its rules, and has as many bytes as its letter.
-- Assumes nothing.
use mathlib.Core.Path.{◌≡◌, refl, ap, subst}
use mathlib.Core.Bool.{Bool, true, false, cond, ◌&&◌}
use mathlib.Core.List.{List, [], ◌∷◌}
use Prim.Native.Nat.{ℕ, ◌+◌, ◌≤◌, ◌<◌}
use native.Mathlib.Omega.{arith}
use borrow.Author.Tests.{eqb-true, leb-true}
use lib.Dec.{eqb, leb}
use lib.ListN.{length, length-append, length-replicate}
use Rattle.field.specs.Bytes.{part, be, Bytes}
use Rattle.field.specs.Limits.{number_in_range}
use Rattle.field.specs.Text.{within, every}
use Rattle.field.specs.Decimal.{number_before_spaces, chars_then_spaces, chars, digit_count}
use Rattle.std.specs.Prelude.{Option}
use Rattle.std.specs.declared.option.Option.TheVariants as option
use Rattle.field.proofs.Bools.{both_left, both_right}
use Rattle.field.proofs.Numbers.{part-below}
use Rattle.field.proofs.Parts.{part_length}
use Rattle.field.proofs.Decimals.{of-before, chars-length}
use Rattle.message.specs.Layout.{Rule, binary, decimal, text, bytes, price, Row, or_zero, value_in, holds, values, keeps_all, FitsIn, Fit}
use Rattle.message.specs.Feed.{Letter}
use Rattle.message.specs.Letters.{Content, listed, letters, letter_in, letter_for, unlisted}
use Rattle.message.specs.Message.{accepted, refused, told, read_of, keeps, Typed}
use Rattle.message.specs.declared.Message.{Message}
use Rattle.message.specs.declared.Texts.{Texts}
use Rattle.message.specs.declared.Reading.{Reading}
use Rattle.message.proofs.Amounts.{amount-from}
use Rattle.message.proofs.Layouts.{never}
use Rattle.message.proofs.Feeds.{found, Verdict, empty, unknown, long, field, whole}
use Rattle.message.proofs.Table.{found-makes}
use Rattle.message.proofs.Verdicts.{read-verdict, clash}
use Rattle.std.specs.Prelude.{Ok}

-- ---- the values of bytes

-- the rows lie in the first n bytes
unfoldable pub inside : ℕ → List Row → Bool
inside n [] = true
inside n (r ∷ rs) = leb (r.at + r.width) n && inside n rs

-- characters that write a number have room for its digits
decimal-fits : (f : List ℕ) (w : ℕ) → length f ≡ w → (x : Option ℕ) → number_before_spaces f ≡ x → number_in_range (or_zero x) ≡ true → digit_count (or_zero x) ≤ w
unfolding chars_then_spaces chars
decimal-fits f w l (option.Some n) e h = omega (arith, simp (length-append, chars-length, length-replicate) at (ap length (of-before f n e)))
decimal-fits f w l option.None e h = never h

pub value-fits : (r : Row) (bs : List ℕ) → Bytes bs → r.at + r.width ≤ length bs → holds r.rule (value_in r.rule (part bs r.at r.width)) ≡ true
    → FitsIn r.rule r.width (value_in r.rule (part bs r.at r.width))
value-fits r bs s l h = by r.rule h
  where
    f : List ℕ
    f = part bs r.at r.width

    by : (q : Rule) → holds q (value_in q f) ≡ true → FitsIn q r.width (value_in q f)
    by (binary p) k = part-below bs r.at r.width s l
    by decimal k = decimal-fits f r.width (part_length bs r.at r.width l) (number_before_spaces f) refl k
    by text k = part_length bs r.at r.width l
    by bytes k = part_length bs r.at r.width l
    by (price p) k = rw (amount-from (be f)) (part-below bs r.at r.width s l)

-- values that keep their rules fit the rows that they were read from
pub values-fit : (rs : List Row) (bs : List ℕ) (n : ℕ) → Bytes bs → n ≤ length bs → inside n rs ≡ true → keeps_all rs (values rs bs) ≡ true → Fit rs (values rs bs)
unfolding values keeps_all inside
values-fit [] bs n s l i h = tt
values-fit (r ∷ rs) bs n s l i h =
    let v = value_in r.rule (part bs r.at r.width) in
    let here : r.at + r.width ≤ n = leb-true (r.at + r.width) n (both_left (leb (r.at + r.width) n) (inside n rs) i) in (
      value-fits r bs s (omega arith) (both_left (holds r.rule v) (keeps_all rs (values rs bs)) h),
      values-fit rs bs n s l (both_right (leb (r.at + r.width) n) (inside n rs) i) (both_right (holds r.rule v) (keeps_all rs (values rs bs)) h),
    )

-- ---- codes

-- a listed code is a byte
pub listed_below : (xs : List ℕ) (c : ℕ) → every (within 0 255) xs ≡ true → listed xs c ≡ true → c < 256
unfolding listed every
listed_below [] c b e = never e
listed_below (x ∷ xs) c b e = by (eqb x c) refl e (listed_below xs c (both_right (within 0 255 x) (every (within 0 255) xs) b))
  where
    by : (t : Bool) → eqb x c ≡ t → cond t true (listed xs c) ≡ true → (listed xs c ≡ true → c < 256) → c < 256
    by true t f rec = omega (arith, eqb-true x c t, leb-true x 255 (both_right (leb 0 x) (leb x 255) (both_left (within 0 255 x) (every (within 0 255) xs) b)))
    by false t f rec = rec f

-- ---- a message

-- the rows of a letter lie in its bytes
letter-inside : (c : ℕ) → inside (letter_in letters c).size (letter_in letters c).rows ≡ true
unfolding letters inside
letter-inside c = found unlisted (λ (l : Letter Content). inside l.size l.rows ≡ true) c letters refl (search tt depth 60)

-- what is wanted of the reading of some bytes, if it is a message
abbrev pub Read : List ℕ → Reading → Type 0
Read bs x = (m : Message) → x.answer ≡ Ok m → Typed m x.texts × (keeps m x.texts ≡ true) × (length bs ≡ (letter_for m).size)

verdict-read : (bs : List ℕ) (x : Reading) → Bytes bs → Verdict told refused (letter_in letters) bs x → Read bs x
unfolding keeps
verdict-read bs x s empty m e = clash e
verdict-read bs x s (unknown c rest i) m e = clash e
verdict-read bs x s (long c rest i j) m e = clash e
verdict-read bs x s (field c rest i j) m e = clash e
verdict-read bs x s (whole c rest i k) m e =
    let l = letter_in letters c in
    let vs = values l.rows (c ∷ rest) in
    let w = found-makes c (c ∷ rest) i.is_listed in
    let p : (l.makes vs).0 ≡ m = cc in
    let h : l.size ≤ length (c ∷ rest) = omega (arith, i.is_long) in
    rw (← p, w.own, w.fields) (values-fit l.rows (c ∷ rest) l.size s h (letter-inside c) k, k, i.is_long)

-- THEOREM
pub read-typed : (bs : List ℕ) → Bytes bs → Read bs (read_of bs)
read-typed bs s = verdict-read bs (read_of bs) s (read-verdict bs)

-- the same of a reading that is accepted
pub accepted-typed : (bs : List ℕ) → Bytes bs → (m : Message) (t : Texts) → read_of bs ≡ accepted m t → Typed m t × (length bs ≡ (letter_for m).size)
accepted-typed bs s m t e =
    let y = read-typed bs s m (ap (λ (x : Reading). x.answer) e) in
    (subst (Typed m) (ap (λ (x : Reading). x.texts) e) y.0, y.2)
