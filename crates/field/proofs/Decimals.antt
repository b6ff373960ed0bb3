-- The laws of numbers in characters: digits, their value and their count, and both round trips.
-- Assumes nothing.
use mathlib.Core.Path.{◌≡◌, refl, sym, ap, ◌∙◌}
use mathlib.Core.Bool.{Bool, true, false, ◌&&◌, cond}
use mathlib.Core.List.{List, [], ◌∷◌, ◌++◌, map}
use Prim.Native.Nat.{ℕ, zero, suc, ◌+◌, ◌-◌, ◌*◌, ◌/◌, ◌%◌, ◌^◌, ◌≤◌, ◌<◌}
use native.Mathlib.Nat.{not-suc-le-zero, pow-suc, pow-succ', div-lt_iff_lt-mul, le-div_iff_mul-le, div-div-eq-div-mul, pow-le-pow_right, mod-lt, lt_of_lt_of_le, mul-one, mul-le-mul_left, mod-eq_of_lt, mul-le-mul_right, add-zero, sub-zero, div-one}
use native.Mathlib.Decide.{dec_lt}
use native.Mathlib.Omega.{arith}
use borrow.Author.Tests.{le-leb, leb-true, lt-ltb, le-ltb, eqb-true, eqb-false, ne_eqb, not-true}
use lib.Dec.{leb, ltb, eqb, lit<}
use lib.ListN.{length, take, drop, get_or, set, replicate, length-append, length-map, length-replicate, take-append-drop, length-drop}
use lib.Seq.{take-append_seam, drop-append_seam, length-take-le}
use Rattle.std.specs.Prelude.{Option, Some, None}
use Rattle.std.specs.Bool.{then_some}
use Rattle.field.specs.Bytes.{part, overlay, value, digits, Digits}
use Rattle.field.specs.Limits.{highest_number}
use Rattle.field.specs.Text.{every, leading, is_space, is_digit}
use Rattle.field.specs.Decimal.{Leads, decimal, begins_with_non_zero, number_of, number_after_spaces, number_before_spaces, digit_chars, one_or_more, digit_count_in, digit_count, chars, chars_then_spaces, spaces_then_chars}
use Rattle.field.proofs.Parts.{part_length, part_at, part_none, part-cons, part-more, part-split, part-take, part-drop, rest-cons, rest-none, overlay-none, overlay-before, overlay-next}
use Rattle.field.proofs.Numbers.{pos, value-append, value-below, value-digits, digits_value, digits-length}
use Rattle.field.proofs.Bools.{both_left, both_right}
use Rattle.field.proofs.Runs.{every-at, every_append, every-leading, every-replicate, leading_le, leading-every, leading-append, leading-stop, leading_end, leading-replicate, spaces-are, within-yes, within_low, within-high}

-- ---- digits in characters

map-append : (f : ℕ → ℕ) (xs ys : List ℕ) → map f (xs ++ ys) ≡ map f xs ++ map f ys
map-append f [] ys = refl
map-append f (x ∷ xs) ys = ap (λ (l : List ℕ). f x ∷ l) (map-append f xs ys)

pub decimal-append : (xs ys : List ℕ) → decimal (xs ++ ys) ≡ decimal xs * 10 ^ length ys + decimal ys
unfolding decimal
decimal-append xs ys =
    rw (map-append (λ c. c - 48) xs ys, value-append 10 (map (λ c. c - 48) xs) (map (λ c. c - 48) ys), length-map ys (λ c. c - 48))

decimal_digit : (c : ℕ) → decimal (c ∷ []) ≡ c - 48
unfolding decimal value
decimal_digit c = omega arith

-- what more digits write is no less
le-mul : (a b : ℕ) → 0 < b → a ≤ a * b
le-mul a b h = rw mul-one at (mul-le-mul_left a h)

pub decimal-grows : (xs ys : List ℕ) → decimal xs ≤ decimal (xs ++ ys)
decimal-grows xs ys =
    rw (decimal-append xs ys)
    (omega (arith, le-mul (decimal xs) (10 ^ length ys) (pos 10 (lit< tt) (length ys))))

-- ---- when characters write a number

-- the three things that are asked of them
abbrev accepted : List ℕ → Bool
accepted cs = begins_with_non_zero cs && every is_digit cs && leb (decimal cs) highest_number

not-both : (b : Bool) → b ≡ false → b ≡ true → ⊥
not-both b f t = let z : ◌≡◌ {A = Bool} true false = cc in let y : ◌≡◌ {A = ℕ} 0 1 = cc in omega arith

refuses : (cs : List ℕ) → (accepted cs ≡ true → ⊥) → None ≡ number_of cs
unfolding number_of
refuses cs h = by (accepted cs) refl
  where
    by : (b : Bool) → accepted cs ≡ b → None ≡ cond b (Some (decimal cs)) None
    by true e = absurd (h e)
    by false e = refl

pub record Written (cs : List ℕ) (v : ℕ) : Type 0 where
  pub first : begins_with_non_zero cs ≡ true
  pub all : every is_digit cs ≡ true
  pub most : v ≤ highest_number
  pub is : v ≡ decimal cs

pub number-written : (cs : List ℕ) (v : ℕ) → number_of cs ≡ Some v → Written cs v
unfolding number_of
number-written cs v = by (accepted cs) refl
  where
    by : (b : Bool) → accepted cs ≡ b → cond b (Some (decimal cs)) None ≡ Some v → Written cs v
    by true e i =
        let w : v ≡ decimal cs = cc in
        let two : begins_with_non_zero cs && every is_digit cs ≡ true = both_left (begins_with_non_zero cs && every is_digit cs) (leb (decimal cs) highest_number) e in
        record {
          first = both_left (begins_with_non_zero cs) (every is_digit cs) two;
          all = both_right (begins_with_non_zero cs) (every is_digit cs) two;
          most = rw w (leb-true (decimal cs) highest_number (both_right (begins_with_non_zero cs && every is_digit cs) (leb (decimal cs) highest_number) e));
          is = w;
        }
    by false e i = let z : ◌≡◌ {A = ℕ} 0 1 = cc in absurd (omega arith)

pub written-number : {cs : List ℕ} {v : ℕ} → Written cs v → number_of cs ≡ Some v
unfolding number_of
written-number {cs} {v} w =
    let l : decimal cs ≤ highest_number = rw (← w.is) w.most in
    rw (w.first, w.all, le-leb (decimal cs) highest_number l, ← w.is)

-- ---- how many digits a number has

-- more steps than are needed change nothing
steps : (f g v : ℕ) → v ≤ f → v ≤ g → digit_count_in f v ≡ digit_count_in g v
unfolding digit_count_in
steps zero zero v h k = refl
steps zero (suc g) v h k = rw (lt-ltb v 10 (omega arith))
steps (suc f) zero v h k = rw (lt-ltb v 10 (omega arith))
steps (suc f) (suc g) v h k = ap (λ (n : ℕ). one_or_more (ltb v 10) (λ u. n)) (steps f g (v / 10) (omega arith) (omega arith))

pub count-one : (v : ℕ) → v < 10 → digit_count v ≡ 1
unfolding digit_count digit_count_in
count-one zero h = refl
count-one (suc v) h = rw (lt-ltb (suc v) 10 h)

pub count-more : (v : ℕ) → 10 ≤ v → digit_count v ≡ suc (digit_count (v / 10))
unfolding digit_count digit_count_in
count-more zero h = absurd (not-suc-le-zero h)
count-more (suc v) h = rw (le-ltb (suc v) 10 h) (ap suc (steps v (suc v / 10) (suc v / 10) (omega arith) (omega arith)))

pub count-some : (v : ℕ) → 1 ≤ digit_count v
count-some v = by (dec_lt v 10)
  where
    by : Dec (v < 10) → 1 ≤ digit_count v
    by (yes l) = omega (arith, count-one v l)
    by (no l) = omega (arith, count-more v (omega (arith, l)))

-- v has n + 1 digits
pub record Counted (v n : ℕ) : Type 0 where
  pub count : digit_count v ≡ suc n
  pub least : 10 ^ n ≤ v
  pub below : v < 10 ^ suc n

counted-in : (f v : ℕ) → v ≤ f → 0 < v → (n : ℕ) × Counted v n
counted-in zero v h k = absurd (omega arith)
counted-in (suc f) v h k = by (dec_lt v 10) (λ l. counted-in f (v / 10) (omega arith) (omega arith))
  where
    by : Dec (v < 10) → (10 ≤ v → (n : ℕ) × Counted (v / 10) n) → (n : ℕ) × Counted v n
    by (yes l) more = (0, record { count = count-one v l; least = k; below = l })
    by (no l) more =
        let g : 10 ≤ v = omega (arith, l) in
        let n = (more g).0 in
        let t = (more g).1 in (
          suc n,
          record {
            count = count-more v g ∙ ap suc t.count;
            least = rw pow-succ' (omega (arith, (le-div_iff_mul-le (lit< tt)).0 t.least));
            below = rw pow-succ' (omega (arith, (div-lt_iff_lt-mul (lit< tt)).0 t.below));
          },
        )

pub counted : (v : ℕ) → 0 < v → (n : ℕ) × Counted v n
counted v h = counted-in v v (omega arith) h

-- two powers of ten that both fit
apart : (v m n : ℕ) → 10 ^ m ≤ v → v < 10 ^ suc n → m ≤ n
apart v m n a b = by (dec_lt n m)
  where
    by : Dec (n < m) → m ≤ n
    by (yes l) = absurd (omega (arith, pow-le-pow_right {n = 10} (lit< tt) l))
    by (no l) = omega (arith, l)

pub count-is : (v n : ℕ) → 10 ^ n ≤ v → v < 10 ^ suc n → digit_count v ≡ suc n
count-is v n a b =
    let k : 0 < v = lt_of_lt_of_le (pos 10 (lit< tt) n) a in
    let t = (counted v k).1 in
    let l : (counted v k).0 ≤ n = apart v (counted v k).0 n t.least b in
    let g : n ≤ (counted v k).0 = apart v n (counted v k).0 a t.below in
    t.count ∙ omega arith

pub count_most : (v n : ℕ) → v < 10 ^ suc n → digit_count v ≤ suc n
count_most v n b = by (dec_lt 0 v)
  where
    by : Dec (0 < v) → digit_count v ≤ suc n
    by (yes k) = let t = (counted v k).1 in omega (arith, t.count, apart v (counted v k).0 n t.least b)
    by (no k) = omega (arith, count-one v (omega (arith, k)))

-- ---- the characters of a number

pub chars-length : (n v : ℕ) → length (digit_chars n v) ≡ n
unfolding digit_chars
chars-length n v = length-map (digits 10 n v) (λ d. 48 + d) ∙ digits-length 10 n v

-- digits become characters and digits again, and so do characters
map_back : (ds : List ℕ) → map (λ c. c - 48) (map (λ d. 48 + d) ds) ≡ ds
map_back [] = refl
map_back (d ∷ ds) = let e : 48 + d - 48 ≡ d = omega arith in rw (e, map_back ds)

digit-range : (c : ℕ) → is_digit c ≡ true → (48 ≤ c) × (c ≤ 57)
digit-range c e = (leb-true 48 c (both_left (leb 48 c) (leb c 57) e), leb-true c 57 (both_right (leb 48 c) (leb c 57) e))

map-forth : (cs : List ℕ) → every is_digit cs ≡ true → map (λ d. 48 + d) (map (λ c. c - 48) cs) ≡ cs
unfolding every
map-forth [] e = refl
map-forth (c ∷ cs) e =
    let f : 48 + (c - 48) ≡ c = omega (arith, digit-range c (both_left (is_digit c) (every is_digit cs) e)) in
    rw (f, map-forth cs (both_right (is_digit c) (every is_digit cs) e))

digits-below : (cs : List ℕ) → every is_digit cs ≡ true → Digits 10 (map (λ c. c - 48) cs)
unfolding every
digits-below [] e i = lit< tt
digits-below (c ∷ cs) e zero = omega (arith, digit-range c (both_left (is_digit c) (every is_digit cs) e))
digits-below (c ∷ cs) e (suc i) = digits-below cs (both_right (is_digit c) (every is_digit cs) e) i

chars-digits : (n v : ℕ) → every is_digit (digit_chars n v) ≡ true
unfolding digit_chars digits every
chars-digits zero v = refl
chars-digits (suc n) v =
    let b : v / 10 ^ n % 10 < 10 = mod-lt (v / 10 ^ n) (lit< tt) in
    rw (within-yes 48 57 (48 + v / 10 ^ n % 10) (omega arith) (omega arith)) (chars-digits n v)

chars-value : (n v : ℕ) → v < 10 ^ n → decimal (digit_chars n v) ≡ v
unfolding decimal digit_chars
chars-value n v h = rw (map_back (digits 10 n v)) (value-digits 10 (lit< tt) n v h)

chars-first : (n v : ℕ) → 10 ^ n ≤ v → v < 10 ^ suc n → begins_with_non_zero (digit_chars (suc n) v) ≡ true
unfolding digit_chars digits begins_with_non_zero
chars-first n v a b =
    let p : 0 < 10 ^ n = pos 10 (lit< tt) n in
    let l : 1 ≤ v / 10 ^ n = (le-div_iff_mul-le p).1 (omega arith) in
    let m : v / 10 ^ n < 10 = (div-lt_iff_lt-mul p).1 (rw pow-succ' at b) in
    let e : v / 10 ^ n % 10 ≡ v / 10 ^ n = mod-eq_of_lt m in
    rw (ne_eqb (48 + v / 10 ^ n % 10) 48 (λ f. omega arith))

-- THE ROUND TRIPS OF A NUMBER: its characters write it, and characters that write a number are that number's
pub number-chars : (v : ℕ) → 0 < v → v ≤ highest_number → number_of (chars v) ≡ Some v
unfolding chars
number-chars v k h =
    let n = (counted v k).0 in
    let t = (counted v k).1 in
    rw t.count
    (written-number (record {
      first = chars-first n v t.least t.below;
      all = chars-digits (suc n) v;
      most = h;
      is = sym (chars-value (suc n) v t.below);
    }))

-- digits of which the first is not zero are no more and no fewer than their number has
first-counts : (cs : List ℕ) → begins_with_non_zero cs ≡ true → every is_digit cs ≡ true → digit_count (decimal cs) ≡ length cs
unfolding begins_with_non_zero every decimal value
first-counts [] f a = let z : false ≡ true = f in absurd (let y : ◌≡◌ {A = ℕ} 0 1 = cc in omega arith)
first-counts (c ∷ cs) f a =
    let r : (48 ≤ c) × (c ≤ 57) = digit-range c (both_left (is_digit c) (every is_digit cs) a) in
    let d : 48 < c = omega (arith, eqb-false c 48 (not-true (eqb c 48) f)) in
    count-is (decimal (c ∷ cs)) (length cs)
    (rw (length-map cs (λ x. x - 48)) (omega (arith, mul-le-mul_right {m = 1} {n = c - 48} (10 ^ length cs) (omega arith))))
    (rw length-map at (value-below 10 (lit< tt) (map (λ x. x - 48) (c ∷ cs)) (digits-below (c ∷ cs) a)))

pub count-number : (cs : List ℕ) (v : ℕ) → number_of cs ≡ Some v → digit_count v ≡ length cs
count-number cs v e = let w = number-written cs v e in ap digit_count w.is ∙ first-counts cs w.first w.all

pub chars-number : (cs : List ℕ) (v : ℕ) → number_of cs ≡ Some v → chars v ≡ cs
unfolding chars digit_chars decimal
chars-number cs v e =
    let w = number-written cs v e in
    let ds = map (λ c. c - 48) cs in
    let d : digits 10 (length cs) (decimal cs) ≡ ds = rw (length-map cs (λ c. c - 48)) at (digits_value 10 (lit< tt) ds (digits-below cs w.all)) in
    rw (count-number cs v e, w.is, d) (map-forth cs w.all)

-- ---- a number between spaces

-- no space stands where a number's characters begin
no-space : (cs : List ℕ) (v : ℕ) → number_of cs ≡ Some v → leading is_space cs ≡ 0
unfolding leading every
no-space [] v e = refl
no-space (c ∷ cs) v e =
    let a = (number-written (c ∷ cs) v e).all in
    rw (within-high 32 32 c (omega (arith, digit-range c (both_left (is_digit c) (every is_digit cs) a))))

pub before-length : (n v : ℕ) → digit_count v ≤ n → length (chars_then_spaces n v) ≡ n
unfolding chars_then_spaces chars
before-length n v h = rw (length-append, chars-length, length-replicate) (omega arith)

pub after-length : (n v : ℕ) → digit_count v ≤ n → length (spaces_then_chars n v) ≡ n
unfolding spaces_then_chars chars
after-length n v h = rw (length-append, chars-length, length-replicate) (omega arith)

-- THE ROUND TRIPS OF DIGITS THEN SPACES
pub before_of : (n v : ℕ) → 0 < v → v ≤ highest_number → number_before_spaces (chars_then_spaces n v) ≡ Some v
unfolding number_before_spaces chars_then_spaces
before_of n v k h =
    let m : ℕ = n - digit_count v in
    let w = number-written (chars v) v (number-chars v k h) in
    let e : leading is_digit (chars v ++ replicate m 32) ≡ length (chars v)
    = leading-append is_digit (chars v) (replicate m 32) w.all ∙ rw (leading-replicate is_digit m 32 refl) (add-zero (length (chars v))) in
    rw (
      e,
      drop-append_seam (chars v) (replicate m 32),
      take-append_seam (chars v) (replicate m 32),
      every-replicate is_space m 32 refl,
    )
    (number-chars v k h)

pub of-before : (cs : List ℕ) (v : ℕ) → number_before_spaces cs ≡ Some v → chars_then_spaces (length cs) v ≡ cs
unfolding number_before_spaces chars_then_spaces
of-before cs v = by (every is_space (drop n cs)) refl
  where
    n : ℕ
    n = leading is_digit cs

    by : (b : Bool) → every is_space (drop n cs) ≡ b → cond b (number_of (take n cs)) None ≡ Some v
        → chars v ++ replicate (length cs - digit_count v) 32 ≡ cs
    by true s e =
        let d : digit_count v ≡ n = count-number (take n cs) v e ∙ length-take-le n cs (leading_le is_digit cs) in
        rw (d, chars-number (take n cs) v e)
        (ap (λ (l : List ℕ). take n cs ++ l) (sym (rw length-drop at (spaces-are (drop n cs) s))) ∙ take-append-drop n cs)
    by false s e = let z : ◌≡◌ {A = ℕ} 0 1 = cc in absurd (omega arith)

-- THE ROUND TRIPS OF SPACES THEN DIGITS
pub after-of : (n v : ℕ) → 0 < v → v ≤ highest_number → number_after_spaces (spaces_then_chars n v) ≡ Some v
unfolding number_after_spaces spaces_then_chars
after-of n v k h =
    let m : ℕ = n - digit_count v in
    let sp : List ℕ = replicate m 32 in
    let e : leading is_space (sp ++ chars v) ≡ length sp
    = leading-append is_space sp (chars v) (every-replicate is_space m 32 refl) ∙ rw (no-space (chars v) v (number-chars v k h)) (add-zero (length sp)) in
    rw (e, drop-append_seam sp (chars v)) (number-chars v k h)

pub of-after : (cs : List ℕ) (v : ℕ) → number_after_spaces cs ≡ Some v → spaces_then_chars (length cs) v ≡ cs
unfolding number_after_spaces spaces_then_chars
of-after cs v e =
    let n : ℕ = leading is_space cs in
    let l : n ≤ length cs = leading_le is_space cs in
    let d : digit_count v ≡ length cs - n = count-number (drop n cs) v e ∙ length-drop n cs in
    let m : length cs - digit_count v ≡ length (take n cs) = omega (arith, length-take-le n cs l) in
    rw (m, ← spaces-are (take n cs) (every-leading is_space cs), chars-number (drop n cs) v e) (take-append-drop n cs)

-- ---- what the code finds at a part

pub value_none : (xs : List ℕ) (at : ℕ) → 0 ≡ decimal (part xs at 0)
unfolding decimal value
value_none xs at = rw part_none

pub digits-none : (xs : List ℕ) (at : ℕ) → every is_digit (part xs at 0) ≡ true
unfolding every
digits-none xs at = rw part_none

module _ (xs : List ℕ) (at n : ℕ) (fits : at + n ≤ length xs) where
  pub number-empty : n ≡ 0 → None ≡ number_of (part xs at n)
  unfolding number_of begins_with_non_zero
  number-empty e = rw (e, part_none)

  pub number-zero : (n ≡ 0 → ⊥) → get_or xs at 0 ≡ 48 → None ≡ number_of (part xs at n)
  unfolding number_of begins_with_non_zero
  number-zero some e = rw (part-cons xs at n (omega (arith, some)) (omega (arith, some)), e)

  -- a turn of the loop: the character at k is no digit, or the number goes on
  module _ (k : ℕ) (more : k < n) where
    no_digit : is_digit (get_or xs (at + k) 0) ≡ false → None ≡ number_of (part xs at n)
    no_digit e =
        refuses (part xs at n)
        (λ t. not-both (is_digit (get_or xs (at + k) 0)) e
        (rw (part_at xs at n k more) at
        (every-at is_digit (part xs at n)
        (both_right (begins_with_non_zero (part xs at n)) (every is_digit (part xs at n)) (both_left _ _ t))
        k (rw (part_length xs at n fits) more))))

    pub number-low : get_or xs (at + k) 0 < 48 → None ≡ number_of (part xs at n)
    number-low l = no_digit (within_low 48 57 (get_or xs (at + k) 0) l)

    pub digits_more : every is_digit (part xs at k) ≡ true → 48 ≤ get_or xs (at + k) 0 → get_or xs (at + k) 0 ≤ 57
        → every is_digit (part xs at (k + 1)) ≡ true
    unfolding every
    digits_more e l g =
        rw (part-more xs at k (omega arith), every_append is_digit (part xs at k) (get_or xs (at + k) 0 ∷ []), e, within-yes 48 57 (get_or xs (at + k) 0) l g)

    pub value-more : (v : ℕ) → v ≡ decimal (part xs at k) → v * 10 + (get_or xs (at + k) 0 - 48) ≡ decimal (part xs at (k + 1))
    value-more v e =
        rw (part-more xs at k (omega arith), decimal-append (part xs at k) (get_or xs (at + k) 0 ∷ []), decimal_digit (get_or xs (at + k) 0), e)

    pub number_past : (v : ℕ) → v ≡ decimal (part xs at (k + 1)) → highest_number < v → None ≡ number_of (part xs at n)
    number_past v e h =
        let j : k + 1 + (n - (k + 1)) ≡ n = omega arith in
        let g : decimal (part xs at (k + 1)) ≤ decimal (part xs at n)
        = rw (← part-split xs at (k + 1) (n - (k + 1)), j) at (decimal-grows (part xs at (k + 1)) (part xs (at + (k + 1)) (n - (k + 1)))) in
        refuses (part xs at n) (λ t. omega (arith, leb-true (decimal (part xs at n)) highest_number (both_right (begins_with_non_zero (part xs at n) && every is_digit (part xs at n)) _ t)))

  pub number-done : (v k : ℕ) → (n ≡ 0 → ⊥) → (get_or xs at 0 ≡ 48 → ⊥) → k ≤ n → n ≤ k → v ≤ highest_number → v ≡ decimal (part xs at k)
      → every is_digit (part xs at k) ≡ true → Some v ≡ number_of (part xs at n)
  unfolding begins_with_non_zero
  number-done v k some first l g h d a =
      let e : k ≡ n = omega arith in
      sym (written-number (record {
        first = rw (part-cons xs at n (omega (arith, some)) (omega (arith, some)), ne_eqb (get_or xs at 0) 48 first);
        all = rw e at a;
        most = h;
        is = rw e at d;
      }))

module _ (xs : List ℕ) (at n k : ℕ) where
  pub after-part : {r : Option ℕ} → k ≡ leading is_space (part xs at n) → k ≤ n → r ≡ number_of (part xs (at + k) (n - k)) → r ≡ number_after_spaces (part xs at n)
  unfolding number_after_spaces
  after-part {r} e h t = t ∙ ap number_of (sym (part-drop xs at n k h)) ∙ ap (λ (j : ℕ). number_of (drop j (part xs at n))) e

  module _ (e : k ≡ leading is_digit (part xs at n)) (h : k ≤ n) {b : Bool} (s : b ≡ every is_space (part xs (at + k) (n - k))) where
    spaces-follow : every is_space (drop (leading is_digit (part xs at n)) (part xs at n)) ≡ b
    spaces-follow = rw (← e, part-drop xs at n k h) (sym s)

    pub before-part : {r : Option ℕ} → b ≡ true → r ≡ number_of (part xs at k) → r ≡ number_before_spaces (part xs at n)
    unfolding number_before_spaces
    before-part {r} f t = rw (spaces-follow, f, ← e, part-take xs at n k h) t

    pub no-before-part : b ≡ false → None ≡ number_before_spaces (part xs at n)
    unfolding number_before_spaces
    no-before-part f = rw (spaces-follow, f)

-- ---- digits, and then spaces, in one run

module _ (xs : List ℕ) (at n k : ℕ) (fits : at + n ≤ length xs) where
  digits-lead : k ≤ n → every is_digit (part xs at k) ≡ true → leading is_digit (part xs at n) ≡ k + leading is_digit (part xs (at + k) (n - k))
  digits-lead h d =
      let j : k + (n - k) ≡ n = omega arith in
      let e : part xs at n ≡ part xs at k ++ part xs (at + k) (n - k) = rw j at (part-split xs at k (n - k)) in
      ap (leading is_digit) e ∙ leading-append is_digit (part xs at k) (part xs (at + k) (n - k)) d
      ∙ ap (λ (m : ℕ). m + leading is_digit (part xs (at + k) (n - k))) (part_length xs at k (omega arith))

  -- no digit follows
  module _ (h : k ≤ n) (v : ℕ) (most : v ≤ highest_number) (is : v ≡ decimal (part xs at k)) (d : every is_digit (part xs at k) ≡ true) where
    leads : leading is_digit (part xs (at + k) (n - k)) ≡ 0 → Leads (part xs at n) k v
    leads z = record { count = omega (arith, digits-lead h d, z); most = most; is = is ∙ ap decimal (sym (part-take xs at n k h)) }

    pub leads-low : k < n → get_or xs (at + k) 0 < 48 → Leads (part xs at n) k v
    leads-low l c = leads (leading-stop is_digit xs at n k l fits (within_low 48 57 (get_or xs (at + k) 0) c))

    pub leads-all : n ≤ k → Leads (part xs at n) k v
    leads-all l = leads (leading_end is_digit xs at n k l)

  -- a character above the digits is no space
  pub before-high : k < n → every is_digit (part xs at k) ≡ true → 57 < get_or xs (at + k) 0 → None ≡ number_before_spaces (part xs at n)
  unfolding every
  before-high l d c =
      let z : leading is_digit (part xs (at + k) (n - k)) ≡ 0 = leading-stop is_digit xs at n k l fits (within-high 48 57 (get_or xs (at + k) 0) c) in
      no-before-part xs at n k (omega (arith, digits-lead (omega arith) d, z)) (omega arith)
      {b = false} (rw (rest-cons xs at n k l fits, within-high 32 32 (get_or xs (at + k) 0) (omega arith))) refl

  -- whatever follows digits that write no number
  before-bad : k ≡ leading is_digit (part xs at n) → k ≤ n → None ≡ number_of (part xs at k) → None ≡ number_before_spaces (part xs at n)
  before-bad e h p = by (every is_space (part xs (at + k) (n - k))) refl
    where
      by : (b : Bool) → b ≡ every is_space (part xs (at + k) (n - k)) → None ≡ number_before_spaces (part xs at n)
      by true s = before-part xs at n k e h s refl p
      by false s = no-before-part xs at n k e h s refl

  module _ {v : ℕ} (t : Leads (part xs at n) k v) (h : k ≤ n) where
    pub closed_none : k ≡ 0 → None ≡ number_before_spaces (part xs at n)
    closed_none e = before-bad t.count h (number-empty xs at k (omega arith) e)

    module _ (some : k ≡ 0 → ⊥) where
      pub closed-zero : get_or xs at 0 ≡ 48 → None ≡ number_before_spaces (part xs at n)
      closed-zero e = before-bad t.count h (number-zero xs at k (omega arith) some e)

      module _ (first : get_or xs at 0 ≡ 48 → ⊥) {b : Bool} (s : b ≡ every is_space (part xs (at + k) (n - k))) where
        pub closed-yes : b ≡ true → Some v ≡ number_before_spaces (part xs at n)
        closed-yes y =
            let d : every is_digit (part xs at k) ≡ true
            = rw (← t.count, part-take xs at n k h) at (every-leading is_digit (part xs at n)) in
            before-part xs at n k t.count h s y
            (number-done xs at k (omega arith) v k some first (omega arith) (omega arith) t.most (t.is ∙ ap decimal (part-take xs at n k h)) d)

        pub closed-no : b ≡ false → None ≡ number_before_spaces (part xs at n)
        closed-no y = no-before-part xs at n k t.count h s y

        pub closed_rest : then_some b v ≡ number_before_spaces (part xs at n)
        closed_rest = by b refl
          where
            by : (so : Bool) → b ≡ so → then_some so v ≡ number_before_spaces (part xs at n)
            by true y = closed-yes y
            by false y = closed-no y

-- digits that write too much, whatever follows
pub before-past : (xs : List ℕ) (at n k : ℕ) → at + n ≤ length xs → k < n → (v : ℕ) → v ≡ decimal (part xs at (k + 1)) → every is_digit (part xs at (k + 1)) ≡ true → highest_number < v
    → None ≡ number_before_spaces (part xs at n)
before-past xs at n k fits l v e d h =
    let m : ℕ = leading is_digit (part xs at n) in
    let more : m ≡ k + 1 + leading is_digit (part xs (at + (k + 1)) (n - (k + 1))) = digits-lead xs at n (k + 1) fits (omega arith) d in
    let most : m ≤ n = rw (part_length xs at n fits) at (leading_le is_digit (part xs at n)) in
    before-bad xs at n m fits refl most (number_past xs at m (omega arith) k (omega arith) v e h)

-- ---- digits alone

module _ (xs : List ℕ) (at n : ℕ) (fits : at + n ≤ length xs) (some : n ≡ 0 → ⊥) where
  pub number-spaced : get_or xs (at + (n - 1)) 0 ≡ 32 → None ≡ number_of (part xs at n)
  number-spaced e = number-low xs at n fits (n - 1) (omega (arith, some)) (omega arith)

  module _ (last : get_or xs (at + (n - 1)) 0 ≡ 32 → ⊥) where
    m : ℕ
    m = leading is_digit (part xs at n)

    most : m ≤ n
    unfolding m
    most = rw (part_length xs at n fits) at (leading_le is_digit (part xs at n))

    no-spaces : m < n → every is_space (part xs (at + m) (n - m)) ≡ true → ⊥
    no-spaces l t =
        let j : at + m + (n - m - 1) ≡ at + (n - 1) = omega (arith, most) in
        let long : length (part xs (at + m) (n - m)) ≡ n - m = part_length xs (at + m) (n - m) (omega (arith, most)) in
        let e : is_space (get_or xs (at + (n - 1)) 0) ≡ true
        = rw (part_at xs (at + m) (n - m) (n - m - 1) (omega arith), j) at (every-at is_space (part xs (at + m) (n - m)) t (n - m - 1) (omega arith)) in
        let v : ℕ = get_or xs (at + (n - 1)) 0 in
        last (omega (arith, leb-true 32 v (both_left (leb 32 v) (leb v 32) e), leb-true v 32 (both_right (leb 32 v) (leb v 32) e)))

    not-all : m < n → None ≡ number_of (part xs at n)
    unfolding m
    not-all l =
        refuses (part xs at n)
        (λ t.
        let all : every is_digit (part xs at n) ≡ true = both_right (begins_with_non_zero (part xs at n)) (every is_digit (part xs at n)) (both_left _ _ t) in
        let e : m ≡ length (part xs at n) = eqb-true m (length (part xs at n)) (leading-every is_digit (part xs at n) ∙ all) in
        omega (arith, part_length xs at n fits))

    pub number-unspaced : {r : Option ℕ} → r ≡ number_before_spaces (part xs at n) → r ≡ number_of (part xs at n)
    unfolding m every
    number-unspaced {r} p = by (dec_lt m n) (every is_space (part xs (at + m) (n - m))) refl
      where
        by : Dec (m < n) → (b : Bool) → b ≡ every is_space (part xs (at + m) (n - m)) → r ≡ number_of (part xs at n)
        by (yes l) true e = absurd (no-spaces l (sym e))
        by (yes l) false e = p ∙ sym (no-before-part xs at n m refl most e refl) ∙ not-all l
        by (no l) b e =
            let q : m ≡ n = omega (arith, most) in
            let none : true ≡ every is_space (part xs (at + m) (n - m)) = rw (rest-none xs at n m (omega arith)) in
            p ∙ sym (before-part xs at n m refl most none refl refl) ∙ rw q

-- ---- writing digits from the last to the first

-- the digits above the n low ones
rest-digits : (v m : ℕ) → v / 10 ^ m / 10 ≡ v / 10 ^ suc m
rest-digits v m = div-div-eq-div-mul v (10 ^ m) 10 ∙ ap (λ (d : ℕ). v / d) (sym (pow-suc 10 m))

chars-suc : (n v : ℕ) → digit_chars (suc n) v ≡ (48 + v / 10 ^ n % 10) ∷ digit_chars n v
unfolding digit_chars digits
chars-suc n v = refl

-- none written yet, and all
pub rest-none-yet : (n v : ℕ) → v ≡ v / 10 ^ (n - n)
rest-none-yet n v = let e : n - n ≡ 0 = omega arith in rw e (sym (div-one v))

pub write-none-yet : (xs : List ℕ) (at n v : ℕ) → xs ≡ overlay xs (at + n) (digit_chars (n - n) v)
unfolding digit_chars digits
write-none-yet xs at n v = let e : n - n ≡ 0 = omega arith in rw e (sym (overlay-none xs (at + n)))

pub write-all : (xs : List ℕ) (at n v i : ℕ) → i ≤ 0 → overlay xs (at + i) (digit_chars (n - i) v) ≡ overlay xs at (digit_chars n v)
write-all xs at n v i h = let e : i ≡ 0 = omega arith in rw (e, add-zero, sub-zero)

module _ (xs : List ℕ) (at n v i : ℕ) (some : 0 < i) (within-n : i ≤ n) where
  one_more : n - (i - 1) ≡ suc (n - i)
  one_more = omega arith

  pub rest-turn : v / 10 ^ (n - i) / 10 ≡ v / 10 ^ (n - (i - 1))
  rest-turn = rw one_more (rest-digits v (n - i))

  pub write-turn : at + n ≤ length xs
      → set (overlay xs (at + i) (digit_chars (n - i) v)) (at + (i - 1)) (48 + v / 10 ^ (n - i) % 10)
      ≡ overlay xs (at + (i - 1)) (digit_chars (n - (i - 1)) v)
  write-turn fits =
      let e : at + i ≡ at + (i - 1) + 1 = omega arith in
      rw (one_more, chars-suc, e)
      (overlay-before xs (at + (i - 1)) (digit_chars (n - i) v) (48 + v / 10 ^ (n - i) % 10) (rw (chars-length (n - i) v) (omega arith)))

pub written-before : (xs : List ℕ) (at n v k : ℕ) {ys zs : List ℕ} → at + n ≤ length xs → digit_count v ≤ n → k ≡ digit_count v
    → ys ≡ overlay xs at (digit_chars k v) → zs ≡ overlay ys (at + k) (replicate (n - k) 32)
    → zs ≡ overlay xs at (chars_then_spaces n v)
unfolding chars_then_spaces chars
written-before xs at n v k {ys} {zs} f c e y z =
    let l : length (digit_chars k v) ≡ k = chars-length k v in
    z ∙ ap (λ (o : List ℕ). overlay o (at + k) (replicate (n - k) 32)) y
    ∙ rw l at (overlay-next xs at (digit_chars k v) (replicate (n - k) 32) (rw (l, length-replicate) (omega arith)))
    ∙ ap (λ (j : ℕ). overlay xs at (digit_chars j v ++ replicate (n - j) 32)) e
