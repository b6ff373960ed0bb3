-- The laws of numbers written in digits, each over the base and the width; bytes are the digits of base 256.
-- Assumes nothing.
use mathlib.Core.Path.{◌≡◌, refl, sym, ap, ◌∙◌}
use mathlib.Core.Bool.{true, false}
use mathlib.Core.List.{List, [], ◌∷◌, ◌++◌}
use Prim.Native.Nat.{ℕ, zero, suc, ◌+◌, ◌*◌, ◌/◌, ◌%◌, ◌^◌, ◌≤◌, ◌<◌}
use native.Mathlib.Nat.{zero-add, suc-add, add_assoc, add-mul, mul_assoc, mod-eq_of_lt, mod-lt, one-le-pow, div-div-eq-div-mul, mod-one, pow-zero, pow-succ', zero-mul, mul-add-div_right, mul-add-mod_self_right, div-add-mod', add_comm, div-one}
use native.Mathlib.Decide.{dec_lt}
use native.Mathlib.Omega.{arith}
use mir.Val.{Fits}
use mir.Syntax.{w8}
use lib.Arith.{digits_lt, digits_div, mod-mul}
use lib.Dec.{lit<, leb, ltb}
use borrow.Author.Tests.{le-leb, lt-leb, lt-ltb, le-ltb}
use lib.Pow.{pow-add}
use lib.ListN.{length, get_or, set, take, drop, length-append}
use lib.Seq.{get_or-drop}
use Rattle.std.specs.Int.{w32, from_le_bytes, byte_at, bytes_high_first}
use Rattle.field.specs.Bytes.{part, overlay, value, digits, Digits, be, bytes_be, turned, Bytes}
use Rattle.field.specs.Limits.{latest_time, price_end, time_in_range, price_in_range}
use Rattle.field.proofs.Parts.{part_length, part-split, part-one, part_none, part-overlay, overlay-own, overlay-one, overlay-next}

-- ---- any base

pub value-append : (base : ℕ) (xs ys : List ℕ) → value base (xs ++ ys) ≡ value base xs * base ^ length ys + value base ys
unfolding value
value-append base [] ys = rw (zero-mul, zero-add)
value-append base (x ∷ xs) ys =
    rw (length-append xs ys, pow-add base (length xs) (length ys), value-append base xs ys) (simp (add-mul, mul_assoc, add_assoc))

value_none : (base : ℕ) → value base [] ≡ 0
unfolding value
value_none base = refl

pub digits-length : (base n v : ℕ) → length (digits base n v) ≡ n
unfolding digits
digits-length base zero v = refl
digits-length base (suc n) v = ap suc (digits-length base n v)

pub digits-split : (base m n v : ℕ) → digits base (m + n) v ≡ digits base m (v / base ^ n) ++ digits base n v
unfolding digits
digits-split base zero n v = rw zero-add
digits-split base (suc m) n v = rw (suc-add, digits-split base m n v, div-div-eq-div-mul, ← pow-add, add_comm n m)

module _ (base : ℕ) (some : 0 < base) where
  pub pos : (n : ℕ) → 0 < base ^ n
  pos n = one-le-pow n base some

  pub value-below : (xs : List ℕ) → Digits base xs → value base xs < base ^ length xs
  unfolding value
  value-below [] b = pos 0
  value-below (x ∷ xs) b = rw pow-succ' (digits_lt (b 0) (value-below xs (λ i. b (suc i))))

  value-digits-mod : (n v : ℕ) → value base (digits base n v) ≡ v % base ^ n
  unfolding value digits
  value-digits-mod zero v = rw pow-zero (sym (mod-one v))
  value-digits-mod (suc n) v =
      rw (digits-length base n v, value-digits-mod n v, pow-succ') (sym (mod-mul v some (pos n)))

  -- the number of a number's digits is the number
  pub value-digits : (n v : ℕ) → v < base ^ n → value base (digits base n v) ≡ v
  value-digits n v h = value-digits-mod n v ∙ mod-eq_of_lt h

  -- only the n low digits count
  digits_low : (n k v : ℕ) → digits base n (k * base ^ n + v) ≡ digits base n v
  unfolding digits
  digits_low zero k v = refl
  digits_low (suc n) k v =
      rw (pow-succ', ← mul_assoc, mul-add-div_right (pos n), mul-add-mod_self_right, digits_low n (k * base) v)

  pub digits_mod : (n v : ℕ) → digits base n (v % base ^ n) ≡ digits base n v
  digits_mod n v = sym (digits_low n (v / base ^ n) (v % base ^ n)) ∙ ap (digits base n) (div-add-mod' v (base ^ n))

  -- the digits of the number of digits are the digits
  pub digits_value : (xs : List ℕ) → Digits base xs → digits base (length xs) (value base xs) ≡ xs
  unfolding value digits
  digits_value [] b = refl
  digits_value (x ∷ xs) b =
      rw (
        digits_div x (value-below xs (λ i. b (suc i))),
        mod-eq_of_lt (b 0),
        digits_low (length xs) x (value base xs),
        digits_value xs (λ i. b (suc i)),
      )

-- ---- a number read from bytes

-- THE LAW OF READING: a field's number is that of its first m bytes, moved up by n bytes, with that of the n bytes after them
pub be-split : (xs : List ℕ) (at m n : ℕ) → at + m + n ≤ length xs
    → be (part xs at (m + n)) ≡ be (part xs at m) * 256 ^ n + be (part xs (at + m) n)
be-split xs at m n h =
    ap be (part-split xs at m n) ∙ value-append 256 (part xs at m) (part xs (at + m) n)
    ∙ ap (λ (k : ℕ). be (part xs at m) * 256 ^ k + be (part xs (at + m) n)) (part_length xs (at + m) n h)

-- as the code reads it, at any two widths
pub read-joins : (m n : ℕ) (xs : List ℕ) (at : ℕ) {high low : ℕ} → at + (m + n) ≤ length xs → high ≡ be (part xs at m) → low ≡ be (part xs (at + m) n)
    → high * 256 ^ n + low ≡ be (part xs at (m + n))
read-joins m n xs at h a b = cc (be-split xs at m n (omega arith))

pub be-one : (xs : List ℕ) (at : ℕ) → at < length xs → be (part xs at 1) ≡ get_or xs at 0
unfolding value
be-one xs at h = rw (part-one xs at h) (omega arith)

-- the law of reading for any run of widths: `ws` after the first, counted from k
abbrev pub total : List ℕ → ℕ
total [] = 0
total (w ∷ ws) = w + total ws

abbrev pub gather : List ℕ → ℕ → ℕ → List ℕ → ℕ
gather xs at k [] = 0
gather xs at k (w ∷ ws) = be (part xs (at + k) w) * 256 ^ total ws + gather xs at (k + w) ws

gathered : (xs : List ℕ) (at k : ℕ) (ws : List ℕ) → at + k + total ws ≤ length xs → be (part xs (at + k) (total ws)) ≡ gather xs at k ws
gathered xs at k [] h = ap be (part_none xs (at + k)) ∙ value_none 256
gathered xs at k (w ∷ ws) h =
    be-split xs (at + k) w (total ws) (omega arith)
    ∙ ap (λ (x : ℕ). be (part xs (at + k) w) * 256 ^ total ws + x)
    (ap (λ (i : ℕ). be (part xs i (total ws))) (add_assoc at k w) ∙ gathered xs at (k + w) ws (omega arith))

pub be-gather : (xs : List ℕ) (at w : ℕ) (ws : List ℕ) → at + w + total ws ≤ length xs
    → be (part xs at (w + total ws)) ≡ be (part xs at w) * 256 ^ total ws + gather xs at w ws
be-gather xs at w ws h =
    be-split xs at w (total ws) h ∙ ap (λ (x : ℕ). be (part xs at w) * 256 ^ total ws + x) (gathered xs at w ws h)

-- ---- four bytes in the other order

-- the digit b, between the digits q above it and r below it
digit : (q b r m : ℕ) → b < 256 → r < m → ((q * 256 + b) * m + r) / m % 256 ≡ b
digit q b r m h k = ap (λ (x : ℕ). x % 256) (digits_div (q * 256 + b) k) ∙ mul-add-mod_self_right q 256 b ∙ mod-eq_of_lt h

pub turned-sum : (a b c d : ℕ) → a < 256 → b < 256 → c < 256 → d < 256
    → turned (a + b * 256 + c * 65536 + d * 16777216) ≡ a * 16777216 + b * 65536 + c * 256 + d
unfolding turned
turned-sum a b c d ha hb hc hd =
    by (a + b * 256 + c * 65536 + d * 16777216) (omega arith) (omega arith) (omega arith) (omega arith)
  where
    by : (v : ℕ) → v ≡ (d * 65536 + c * 256 + b) * 256 + a → v ≡ ((d * 256 + c) * 256 + b) * 256 + a
        → v ≡ (d * 256 + c) * 65536 + (b * 256 + a) → v ≡ (0 * 256 + d) * 16777216 + (c * 65536 + b * 256 + a)
        → v % 256 * 16777216 + v / 256 % 256 * 65536 + v / 65536 % 256 * 256 + v / 16777216 % 256 ≡ a * 16777216 + b * 65536 + c * 256 + d
    by v i j k l =
        let e : v % 256 ≡ a = ap (λ (x : ℕ). x % 256) i ∙ mul-add-mod_self_right (d * 65536 + c * 256 + b) 256 a ∙ mod-eq_of_lt ha in
        let f : v / 256 % 256 ≡ b = ap (λ (x : ℕ). x / 256 % 256) j ∙ digit (d * 256 + c) b a 256 hb ha in
        let g : v / 65536 % 256 ≡ c = ap (λ (x : ℕ). x / 65536 % 256) k ∙ digit d c (b * 256 + a) 65536 hc (omega arith) in
        let h : v / 16777216 % 256 ≡ d = ap (λ (x : ℕ). x / 16777216 % 256) l ∙ digit 0 d (c * 65536 + b * 256 + a) 16777216 hd (omega arith) in
        rw (e, f, g, h)

-- turned around twice, a number of four bytes is what it was
pub turned-turned : (v : ℕ) → v < 256 ^ 4 → turned (turned v) ≡ v
unfolding turned value digits
turned-turned v h =
    let a : ℕ = v % 256 in
    let b : ℕ = v / 256 % 256 in
    let c : ℕ = v / 65536 % 256 in
    let d : ℕ = v / 16777216 % 256 in
    let e : turned v ≡ d + c * 256 + b * 65536 + a * 16777216 = omega arith in
    let f : d * 16777216 + c * 65536 + b * 256 + a ≡ v = omega (arith, value-digits 256 (lit< tt) 4 v h) in
    ap turned e ∙ turned-sum d c b a (mod-lt _ (lit< tt)) (mod-lt _ (lit< tt)) (mod-lt _ (lit< tt)) (mod-lt _ (lit< tt)) ∙ f

-- so no two of them are the same when turned
pub turned_same : (u v : ℕ) → u < 256 ^ 4 → v < 256 ^ 4 → turned u ≡ turned v → u ≡ v
turned_same u v h k e = sym (turned-turned u h) ∙ ap turned e ∙ turned-turned v k

-- as std reads four bytes, the lowest first
pub turned-low : (xs : List ℕ) → length xs ≡ 4 → Bytes xs → turned (from_le_bytes w32 xs) ≡ be xs
unfolding value
turned-low [] e k = absurd (omega arith)
turned-low (a ∷ []) e k = absurd (omega arith)
turned-low (a ∷ b ∷ []) e k = absurd (omega arith)
turned-low (a ∷ b ∷ c ∷ []) e k = absurd (omega arith)
turned-low (a ∷ b ∷ c ∷ d ∷ []) e k = turned-sum a b c d (k 0) (k 1) (k 2) (k 3) ∙ omega arith
turned-low (a ∷ b ∷ c ∷ d ∷ x ∷ xs) e k = absurd (omega arith)

turned-is : (v : ℕ) → turned v ≡ v / 16777216 % 256 + v / 65536 % 256 * 256 + v / 256 % 256 * 65536 + v % 256 * 16777216
unfolding turned
turned-is v = omega arith

number_is : (v : ℕ) → v < 2 ^ 32 → v / 16777216 % 256 * 16777216 + v / 65536 % 256 * 65536 + v / 256 % 256 * 256 + v % 256 ≡ v
unfolding value digits
number_is v l = omega (arith, value-digits 256 (lit< tt) 4 v l)

-- turned twice, a number is itself
pub turned-twice : (v : ℕ) → v < 2 ^ 32 → turned (turned v) ≡ v
turned-twice v l =
    ap turned (turned-is v)
    ∙ turned-sum (v / 16777216 % 256) (v / 65536 % 256) (v / 256 % 256) (v % 256) (omega arith) (omega arith) (omega arith) (omega arith)
    ∙ number_is v l

-- ---- a number written as bytes

-- THE LAW OF WRITING: m bytes of what is above the n low bytes, and the n low bytes after them, are the m + n bytes
pub write-split : (xs : List ℕ) (at m n v : ℕ) → at + m + n ≤ length xs
    → overlay (overlay xs at (bytes_be m (v / 256 ^ n))) (at + m) (bytes_be n (v % 256 ^ n)) ≡ overlay xs at (bytes_be (m + n) v)
write-split xs at m n v h =
    rw (digits_mod 256 (lit< tt) n v, digits-split 256 m n v)
    (rw (digits-length 256 m (v / 256 ^ n)) at
    (overlay-next xs at (bytes_be m (v / 256 ^ n)) (bytes_be n v)
    (rw (digits-length 256 m (v / 256 ^ n), digits-length 256 n v) h)))

-- as the code writes it, at any two widths
pub write-joins : (m n : ℕ) (xs : List ℕ) (at v : ℕ) {ys zs : List ℕ} → at + (m + n) ≤ length xs → ys ≡ overlay xs at (bytes_be m (v / 256 ^ n))
    → zs ≡ overlay ys (at + m) (bytes_be n (v % 256 ^ n)) → zs ≡ overlay xs at (bytes_be (m + n) v)
write-joins m n xs at v h a b = cc (write-split xs at m n v (omega arith))

-- std's bytes of a number, the highest first
byte-is : (k v : ℕ) → byte_at k v ≡ v / 256 ^ k % 256
byte-is zero v = rw (pow-zero, div-one)
byte-is (suc k) v = refl

pub bytes_high : (k v : ℕ) → bytes_high_first k v ≡ bytes_be k v
unfolding digits
bytes_high zero v = refl
bytes_high (suc k) v = rw (byte-is k v, bytes_high k v)

pub write-one : (xs : List ℕ) (at v : ℕ) → at < length xs → v < 256 → set xs at v ≡ overlay xs at (bytes_be 1 v)
unfolding digits
write-one xs at v h b = rw (div-one v, mod-eq_of_lt b) (overlay-one xs at v h)

-- ---- written and read

bytes_take : (n : ℕ) (xs : List ℕ) → Bytes xs → Bytes (take n xs)
bytes_take zero xs b i = lit< tt
bytes_take (suc n) [] b i = lit< tt
bytes_take (suc n) (x ∷ xs) b zero = b 0
bytes_take (suc n) (x ∷ xs) b (suc i) = bytes_take n xs (λ j. b (suc j)) i

pub part_bytes : (xs : List ℕ) (at n : ℕ) → Bytes xs → Bytes (part xs at n)
unfolding part
part_bytes xs at n b = bytes_take n (drop at xs) (λ i. rw get_or-drop (b (at + i)))

pub part-below : (xs : List ℕ) (at n : ℕ) → Bytes xs → at + n ≤ length xs → be (part xs at n) < 256 ^ n
part-below xs at n b h = rw (part_length xs at n h) at (value-below 256 (lit< tt) (part xs at n) (part_bytes xs at n b))

-- what was written is read back
pub written : (xs : List ℕ) (at n v : ℕ) → at + n ≤ length xs → v < 256 ^ n → be (part (overlay xs at (bytes_be n v)) at n) ≡ v
written xs at n v h b =
    let e : at + length (bytes_be n v) ≤ length xs = rw (digits-length 256 n v) h in
    ap be (rw (digits-length 256 n v) at (part-overlay xs at (bytes_be n v) e)) ∙ value-digits 256 (lit< tt) n v b

-- what was read is written back: nothing changes
pub rewritten : (xs : List ℕ) (at n : ℕ) → Bytes xs → at + n ≤ length xs → overlay xs at (bytes_be n (be (part xs at n))) ≡ xs
rewritten xs at n b h =
    ap (overlay xs at) (rw (part_length xs at n h) at (digits_value 256 (lit< tt) (part xs at n) (part_bytes xs at n b)))
    ∙ overlay-own xs at n h

-- ---- a field carried from one place to another

-- what the code knows of lent bytes: each of them fits in eight bits
abbrev pub Lent : List ℕ → Type 0
Lent s = (i : ℕ) → Fits w8 (get_or s i 0)

pub lent-bytes : (s : List ℕ) → Lent s → Bytes s
lent-bytes s k i = let g = k i in omega arith

-- a field's number, written as wide as the field, is the field
pub rewrites : (n : ℕ) (s : List ℕ) (from : ℕ) → Bytes s → from + n ≤ length s → bytes_be n (be (part s from n)) ≡ part s from n
rewrites n s from b h = rw (part_length s from n h) at (digits_value 256 (lit< tt) (part s from n) (part_bytes s from n b))

-- read in one place and written in another
pub carried : (n : ℕ) (xs : List ℕ) (at : ℕ) (s : List ℕ) (from : ℕ) {v : ℕ} {ys : List ℕ} → Lent s → from + n ≤ length s → v ≡ be (part s from n)
    → ys ≡ overlay xs at (bytes_be n v) → ys ≡ overlay xs at (part s from n)
carried n xs at s from k h e w = w ∙ ap (λ (u : ℕ). overlay xs at (bytes_be n u)) e ∙ ap (overlay xs at) (rewrites n s from (lent-bytes s k) h)

-- ---- a time by its halves

module _ (s : List ℕ) (at : ℕ) {high : ℕ} (k : Lent s) (h : at + 8 ≤ length s) (e : high ≡ be (part s at 4)) where
  time-halves : be (part s at 8) ≡ high * 256 ^ 4 + be (part s (at + 4) 4)
  time-halves = be-split s at 4 4 (omega arith) ∙ ap (λ (v : ℕ). v * 256 ^ 4 + be (part s (at + 4) 4)) (sym e)

  low_below : be (part s (at + 4) 4) < 256 ^ 4
  low_below = rw (part_length s (at + 4) 4 (omega arith)) at (value-below 256 (lit< tt) (part s (at + 4) 4) (part_bytes s (at + 4) 4 (lent-bytes s k)))

  pub time-early : high < 20116 → true ≡ time_in_range (be (part s at 8))
  time-early l = sym (le-leb (be (part s at 8)) latest_time (omega (arith, time-halves, low_below)))

  pub time-late : 20116 < high → false ≡ time_in_range (be (part s at 8))
  time-late l = sym (lt-leb (be (part s at 8)) latest_time (omega (arith, time-halves)))

  pub time-last : {low : ℕ} → 20116 ≤ high → high ≤ 20116 → low ≡ be (part s (at + 4) 4) → leb low 2437873663 ≡ time_in_range (be (part s at 8))
  time-last {low} a b f = by (dec_lt 2437873663 low)
    where
      first : high ≡ 20116
      first = omega arith

      split : be (part s at 8) ≡ 20116 * 256 ^ 4 + low
      split = time-halves ∙ rw (first, f)

      by : Dec (2437873663 < low) → leb low 2437873663 ≡ time_in_range (be (part s at 8))
      by (yes l) = lt-leb low 2437873663 l ∙ sym (lt-leb (be (part s at 8)) latest_time (omega (arith, split)))
      by (no l) = le-leb low 2437873663 (omega (arith, l)) ∙ sym (le-leb (be (part s at 8)) latest_time (omega (arith, split, l)))

-- ---- a price by its first byte

pub price-first : (s : List ℕ) (at : ℕ) {v : ℕ} → Lent s → at + 4 ≤ length s → v ≡ be (part s at 1) → ltb v 128 ≡ price_in_range (be (part s at 4))
price-first s at {v} k h e = by (dec_lt v 128)
  where
    split : be (part s at 4) ≡ v * 256 ^ 3 + be (part s (at + 1) 3)
    split = be-split s at 1 3 (omega arith) ∙ ap (λ (u : ℕ). u * 256 ^ 3 + be (part s (at + 1) 3)) (sym e)

    below : be (part s (at + 1) 3) < 256 ^ 3
    below = rw (part_length s (at + 1) 3 (omega arith)) at (value-below 256 (lit< tt) (part s (at + 1) 3) (part_bytes s (at + 1) 3 (lent-bytes s k)))

    by : Dec (v < 128) → ltb v 128 ≡ price_in_range (be (part s at 4))
    by (yes l) = lt-ltb v 128 l ∙ sym (lt-ltb (be (part s at 4)) price_end (omega (arith, split, below)))
    by (no l) = le-ltb v 128 (omega (arith, l)) ∙ sym (le-ltb (be (part s at 4)) price_end (omega (arith, split, l)))
