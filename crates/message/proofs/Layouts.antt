-- The laws of a layout, each made once over its rows.
-- Assumes nothing.
use mathlib.Core.Path.{◌≡◌, refl, sym, ap, ◌∙◌}
use mathlib.Core.Bool.{Bool, true, false, ◌&&◌}
use mathlib.Core.List.{List, [], ◌∷◌, ◌++◌, append_assoc}
use Prim.Native.Nat.{ℕ, ◌+◌, ◌-◌, ◌≤◌, ◌<◌}
use native.Mathlib.Omega.{arith}
use borrow.Author.Tests.{eqb-true, leb-true}
use lib.Dec.{eqb, leb, lit<}
use lib.ListN.{length, take, drop, length-append, drop_of_length-le, take-append-drop}
use lib.Seq.{take_at, drop_at, drop-drop}
use Rattle.field.specs.Bytes.{part, be, bytes_be, Bytes}
use Rattle.field.specs.Limits.{number_in_range, highest_number}
use Rattle.field.specs.Decimal.{number_before_spaces, chars_then_spaces}
use Rattle.std.specs.Prelude.{Option}
use Rattle.std.specs.Prelude.{Some, None}
use Rattle.field.proofs.Parts.{part_length, part_none, part-split, part-part}
use Rattle.field.proofs.Numbers.{digits-length, digits_value, value-digits, part_bytes}
use Rattle.field.proofs.Bools.{both_left, both_right}
use Rattle.field.proofs.Decimals.{before_of, of-before, before-length}
use Rattle.message.specs.Layout.{price_from, amount, is_price, Value, num, raw, priced, Rule, binary, decimal, text, bytes, price, Row, or_zero, value_in, bytes_in, holds, values, keeps_all, bytes_for, tiled, from, FitsIn, Fit, number_rule, numbered}
use Rattle.message.proofs.Amounts.{amount-from, from-is-price, from-amount}

-- ---- one field

in-range : (n : ℕ) → number_in_range n ≡ true → (0 < n) × (n ≤ highest_number)
in-range n h = (leb-true 1 n (both_left (leb 1 n) (leb n highest_number) h), leb-true n highest_number (both_right (leb 1 n) (leb n highest_number) h))

pub never : {A : Type 0} → false ≡ true → A
never e = let z : ◌≡◌ {A = ℕ} 0 1 = cc in absurd (omega arith)

-- a value that fits its field and keeps its rule is read back from its bytes
pub value-back : (r : Rule) (w : ℕ) (v : Value) → FitsIn r w v → holds r v ≡ true → value_in r (bytes_in r w v) ≡ v
value-back (binary p) w (num n) f h = ap num (value-digits 256 (lit< tt) w n f)
value-back (binary p) w (raw b) f h = absurd f
value-back (binary p) w (priced x) f h = absurd f
value-back decimal w (num n) f h = ap (λ (x : Option ℕ). num (or_zero x)) (before_of w n (in-range n h).0 (in-range n h).1)
value-back decimal w (raw b) f h = absurd f
value-back decimal w (priced x) f h = absurd f
value-back text w (num n) f h = absurd f
value-back text w (raw b) f h = refl
value-back text w (priced x) f h = absurd f
value-back bytes w (num n) f h = absurd f
value-back bytes w (raw b) f h = refl
value-back bytes w (priced x) f h = absurd f
value-back (price p) w (num n) f h = absurd f
value-back (price p) w (raw b) f h = absurd f
value-back (price p) w (priced x) f h =
    ap priced (ap price_from (value-digits 256 (lit< tt) w (amount x) f) ∙ from-amount x (both_left (is_price x) (p (amount x)) h))

pub bytes-length : (r : Rule) (w : ℕ) (v : Value) → FitsIn r w v → length (bytes_in r w v) ≡ w
bytes-length (binary p) w (num n) f = digits-length 256 w n
bytes-length (binary p) w (raw b) f = absurd f
bytes-length (binary p) w (priced x) f = absurd f
bytes-length decimal w (num n) f = before-length w n f
bytes-length decimal w (raw b) f = absurd f
bytes-length decimal w (priced x) f = absurd f
bytes-length text w (num n) f = absurd f
bytes-length text w (raw b) f = f
bytes-length text w (priced x) f = absurd f
bytes-length bytes w (num n) f = absurd f
bytes-length bytes w (raw b) f = f
bytes-length bytes w (priced x) f = absurd f
bytes-length (price p) w (num n) f = absurd f
bytes-length (price p) w (raw b) f = absurd f
bytes-length (price p) w (priced x) f = digits-length 256 w (amount x)

-- the bytes of a number, and of the price that it says
number-back : (w : ℕ) (b : List ℕ) → length b ≡ w → Bytes b → bytes_be w (be b) ≡ b
number-back w b e s = rw e at (digits_value 256 (lit< tt) b s)

price-back : (w : ℕ) (b : List ℕ) → length b ≡ w → Bytes b → bytes_be w (amount (price_from (be b))) ≡ b
price-back w b e s = ap (bytes_be w) (amount-from (be b)) ∙ number-back w b e s

-- bytes whose value keeps the rule are that value's bytes
pub bytes_back : (r : Rule) (w : ℕ) (b : List ℕ) → length b ≡ w → Bytes b → holds r (value_in r b) ≡ true → bytes_in r w (value_in r b) ≡ b
bytes_back (binary p) w b e s h = number-back w b e s
bytes_back decimal w b e s h = by (number_before_spaces b) refl h
  where
    by : (x : Option ℕ) → number_before_spaces b ≡ x → number_in_range (or_zero x) ≡ true → chars_then_spaces w (or_zero x) ≡ b
    by (Some n) i k = rw e at (of-before b n i)
    by None i k = never k
bytes_back text w b e s h = refl
bytes_back bytes w b e s h = refl
bytes_back (price p) w b e s h = price-back w b e s

-- the rule of a price that is read is the rule of its number
rule-as-number : (r : Rule) (f : List ℕ) → holds r (value_in r f) ≡ holds (number_rule r) (value_in (number_rule r) f)
rule-as-number (binary p) f = refl
rule-as-number decimal f = refl
rule-as-number text f = refl
rule-as-number bytes f = refl
rule-as-number (price p) f = rw (from-is-price (be f), amount-from (be f))

-- ---- the fields of a layout

module _ (at end : ℕ) (r : Row) (rs : List Row) (t : tiled at (r ∷ rs) end ≡ true) where
  tiled-here : r.at ≡ at
  unfolding tiled
  tiled-here = eqb-true r.at at (both_left (eqb r.at at) (tiled (at + r.width) rs end) t)

  tiled-on : tiled (at + r.width) rs end ≡ true
  unfolding tiled
  tiled-on = both_right (eqb r.at at) (tiled (at + r.width) rs end) t

tiled-end : (at end : ℕ) → tiled at [] end ≡ true → at ≡ end
unfolding tiled
tiled-end at end t = eqb-true at end t

-- values that fit and keep their rules are read back from their bytes, whatever stands before them
pub values-back : (rs : List Row) (vs : List Value) (pre : List ℕ) (at end : ℕ) → tiled at rs end ≡ true → Fit rs vs → keeps_all rs vs ≡ true → length pre ≡ at
    → values rs (pre ++ bytes_for rs vs) ≡ vs
unfolding values bytes_for keeps_all part
values-back [] [] pre at end t f h e = refl
values-back [] (v ∷ vs) pre at end t f h e = absurd f
values-back (r ∷ rs) [] pre at end t f h e = absurd f
values-back (r ∷ rs) (v ∷ vs) pre at end t f h e =
    let b = bytes_in r.rule r.width v in
    let l : length b ≡ r.width = bytes-length r.rule r.width v f.0 in
    let p : r.at ≡ at = tiled-here at end r rs t in
    let k : holds r.rule v ≡ true = both_left (holds r.rule v) (keeps_all rs vs) h in
    let first : take r.width (drop r.at (pre ++ (b ++ bytes_for rs vs))) ≡ b
    = ap (take r.width) (drop_at pre (b ++ bytes_for rs vs) r.at (e ∙ sym p)) ∙ take_at b (bytes_for rs vs) r.width l in
    let rest : values rs ((pre ++ b) ++ bytes_for rs vs) ≡ vs
    = values-back rs vs (pre ++ b) (at + r.width) end (tiled-on at end r rs t) f.1
    (both_right (holds r.rule v) (keeps_all rs vs) h) (length-append pre b ∙ omega arith) in
    let again : value_in r.rule b ≡ v = value-back r.rule r.width v f.0 k in
    cc (append_assoc pre b (bytes_for rs vs))

pub fields-length : (rs : List Row) (vs : List Value) (at end : ℕ) → tiled at rs end ≡ true → Fit rs vs → at + length (bytes_for rs vs) ≡ end
unfolding bytes_for
fields-length [] [] at end t f = omega (arith, tiled-end at end t)
fields-length [] (v ∷ vs) at end t f = absurd f
fields-length (r ∷ rs) [] at end t f = absurd f
fields-length (r ∷ rs) (v ∷ vs) at end t f =
    let b = bytes_in r.rule r.width v in
    omega (
      arith,
      length-append b (bytes_for rs vs),
      bytes-length r.rule r.width v f.0,
      fields-length rs vs (at + r.width) end (tiled-on at end r rs t) f.1,
    )

part-drops : (xs : List ℕ) (at n : ℕ) → part xs at n ++ drop (at + n) xs ≡ drop at xs
unfolding part
part-drops xs at n = rw (← drop-drop n at xs) (take-append-drop n (drop at xs))

-- bytes whose values keep their rules are those values' bytes, from `at` on
fields_back : (rs : List Row) (bs : List ℕ) (at end : ℕ) → tiled at rs end ≡ true → length bs ≡ end → Bytes bs → keeps_all rs (values rs bs) ≡ true
    → (at ≤ end) × (bytes_for rs (values rs bs) ≡ drop at bs)
unfolding values bytes_for keeps_all
fields_back [] bs at end t e s h =
    let l : length bs ≤ at = omega (arith, tiled-end at end t) in
    (omega (arith, tiled-end at end t), sym (drop_of_length-le bs l))
fields_back (r ∷ rs) bs at end t e s h =
    let p : r.at ≡ at = tiled-here at end r rs t in
    let f = part bs r.at r.width in
    let i = fields_back rs bs (at + r.width) end (tiled-on at end r rs t) e s (both_right (holds r.rule (value_in r.rule f)) (keeps_all rs (values rs bs)) h) in
    let l : length f ≡ r.width = part_length bs r.at r.width (omega (arith, i.0)) in
    let b : bytes_in r.rule r.width (value_in r.rule f) ≡ f
    = bytes_back r.rule r.width f l (part_bytes bs r.at r.width s) (both_left (holds r.rule (value_in r.rule f)) (keeps_all rs (values rs bs)) h) in
    (omega (arith, i.0), rw (b, i.1, p) (part-drops bs at r.width))

-- THE TWO ROUND TRIPS OF A LAYOUT whose rows stand one after the other behind the letter
module _ (rs : List Row) (size : ℕ) (t : tiled 1 rs size ≡ true) where
  pub read_back : (c : ℕ) (vs : List Value) → Fit rs vs → keeps_all rs vs ≡ true → values rs (c ∷ bytes_for rs vs) ≡ vs
  read_back c vs f h = values-back rs vs (c ∷ []) 1 size t f h refl

  pub written-length : (c : ℕ) (vs : List Value) → Fit rs vs → length (c ∷ bytes_for rs vs) ≡ size
  written-length c vs f = omega (arith, fields-length rs vs 1 size t f)

  pub written_back : (c : ℕ) (bs : List ℕ) → length (c ∷ bs) ≡ size → Bytes (c ∷ bs) → keeps_all rs (values rs (c ∷ bs)) ≡ true
      → c ∷ bytes_for rs (values rs (c ∷ bs)) ≡ c ∷ bs
  written_back c bs e s h = ap (λ (l : List ℕ). c ∷ l) (fields_back rs (c ∷ bs) 1 size t e s h).1

-- THEOREM: READING ASKS OF A PRICE WHAT IT ASKS OF THE NUMBER, so that it refuses what it would refuse if prices were numbers
pub read-as-numbers : (rs : List Row) (bs : List ℕ) → keeps_all rs (values rs bs) ≡ keeps_all (numbered rs) (values (numbered rs) bs)
unfolding values keeps_all
read-as-numbers [] bs = refl
read-as-numbers (r ∷ rs) bs = rw (rule-as-number r.rule (part bs r.at r.width), read-as-numbers rs bs)

-- ---- the rows in a part of the bytes

-- the rows lie in the n bytes from k on
unfoldable pub rows_in : ℕ → ℕ → List Row → Bool
rows_in k n [] = true
rows_in k n (r ∷ rs) = leb k r.at && leb (r.at + r.width) (k + n) && rows_in k n rs

pub values-in-part : (k n : ℕ) (rs : List Row) (bs : List ℕ) → rows_in k n rs ≡ true → values (from k rs) (part bs k n) ≡ values rs bs
unfolding values rows_in
values-in-part k n [] bs t = refl
values-in-part k n (r ∷ rs) bs t =
    let two : leb k r.at && leb (r.at + r.width) (k + n) ≡ true = both_left (leb k r.at && leb (r.at + r.width) (k + n)) (rows_in k n rs) t in
    let a : k ≤ r.at = leb-true k r.at (both_left (leb k r.at) (leb (r.at + r.width) (k + n)) two) in
    let b : r.at + r.width ≤ k + n = leb-true (r.at + r.width) (k + n) (both_right (leb k r.at) (leb (r.at + r.width) (k + n)) two) in
    let e : k + (r.at - k) ≡ r.at = omega arith in
    rw (
      part-part bs k n (r.at - k) r.width (omega arith),
      e,
      values-in-part k n rs bs (both_right (leb k r.at && leb (r.at + r.width) (k + n)) (rows_in k n rs) t),
    )

-- ---- fields that lie side by side

-- a field that says its bytes whatever they are
abbrev pub plain : Rule → Bool
plain (binary p) = true
plain decimal = false
plain text = true
plain bytes = true
plain (price p) = true

-- the rows stand one after the other from `at` on
abbrev pub Spaced : ℕ → List Row → Type 0
Spaced at [] = Unit
Spaced at (r ∷ rs) = (r.at ≡ at) × (plain r.rule ≡ true) × Spaced (at + r.width) rs

abbrev pub span : List Row → ℕ
span [] = 0
span (r ∷ rs) = r.width + span rs

plain_back : (r : Rule) (w : ℕ) (b : List ℕ) → plain r ≡ true → length b ≡ w → Bytes b → bytes_in r w (value_in r b) ≡ b
plain_back (binary p) w b h e s = number-back w b e s
plain_back decimal w b h e s = never h
plain_back text w b h e s = refl
plain_back bytes w b h e s = refl
plain_back (price p) w b h e s = price-back w b e s

-- THE LAW OF FIELDS SIDE BY SIDE: written one after the other they are the bytes that they were read from
pub fields-run : (rs : List Row) (bs : List ℕ) (at : ℕ) → Spaced at rs → Bytes bs → at + span rs ≤ length bs
    → bytes_for rs (values rs bs) ≡ part bs at (span rs)
unfolding bytes_for values
fields-run [] bs at t s h = sym (part_none bs at)
fields-run (r ∷ rs) bs at t s h =
    let f = part bs at r.width in
    rw (
      t.0,
      plain_back r.rule r.width f t.1 (part_length bs at r.width (omega arith)) (part_bytes bs at r.width s),
      fields-run rs bs (at + r.width) t.2 s (omega arith),
    )
    (sym (part-split bs at r.width (span rs)))
