-- Numbers in characters: what characters write, and the characters that write a number.
-- Assumes nothing.
use Rattle.std.specs.Prelude.{ℕ, zero, suc, ◌+◌, ◌-◌, ◌/◌, ◌≤◌, ◌≡◌, Bool, true, false, ◌&&◌, cond, not, List, [], ◌∷◌, ◌++◌, map, eqb, leb, ltb, take, drop, replicate}
use Rattle.std.specs.Prelude.{Option}
use Rattle.std.specs.Prelude.{Some, None}
use Rattle.field.specs.Bytes.{value, digits}
use Rattle.field.specs.Limits.{highest_number}
use Rattle.field.specs.Text.{every, leading, is_space, is_digit}

-- ---- what characters write

-- the value of digits in characters; `0` is 48
unfoldable pub decimal : List ℕ → ℕ
decimal cs = value 10 (map (λ c. c - 48) cs)

unfoldable pub begins_with_non_zero : List ℕ → Bool
begins_with_non_zero [] = false
begins_with_non_zero (c ∷ cs) = not (eqb c 48)

-- a number in characters: digits, the first not zero, that write at most 10 ^ 12, and so at least 1
unfoldable pub number_of : List ℕ → Option ℕ
number_of cs = cond (begins_with_non_zero cs && every is_digit cs && leb (decimal cs) highest_number) (Some (decimal cs)) None

-- spaces, then digits
unfoldable pub number_after_spaces : List ℕ → Option ℕ
number_after_spaces cs = number_of (drop (leading is_space cs) cs)

-- digits, then spaces
unfoldable pub number_before_spaces : List ℕ → Option ℕ
number_before_spaces cs =
    let n = leading is_digit cs in
    cond (every is_space (drop n cs)) (number_of (take n cs)) None

-- the digits in front are k, and write v
pub record Leads (cs : List ℕ) (k v : ℕ) : Type 0 where
  pub count : k ≡ leading is_digit cs
  pub most : v ≤ highest_number
  pub is : v ≡ decimal (take k cs)

-- ---- the characters that write a number

-- the n low decimal digits of v, the highest first
unfoldable pub digit_chars : ℕ → ℕ → List ℕ
digit_chars n v = map (λ d. 48 + d) (digits 10 n v)

-- one, or one more than the rest, which is computed only then
abbrev pub one_or_more : Bool → (Unit {0} → ℕ) → ℕ
one_or_more true rest = 1
one_or_more false rest = suc (rest tt)

-- how many decimal digits v has, found in so many steps; as many as v itself are enough
unfoldable pub digit_count_in : ℕ → ℕ → ℕ
digit_count_in zero v = 1
digit_count_in (suc steps) v = one_or_more (ltb v 10) (λ u. digit_count_in steps (v / 10))

unfoldable pub digit_count : ℕ → ℕ
digit_count v = digit_count_in v v

-- v with no zero in front
unfoldable pub chars : ℕ → List ℕ
chars v = digit_chars (digit_count v) v

-- v in n characters, with the spaces after it and before it
unfoldable pub chars_then_spaces : ℕ → ℕ → List ℕ
chars_then_spaces n v = chars v ++ replicate (n - digit_count v) 32

unfoldable pub spaces_then_chars : ℕ → ℕ → List ℕ
spaces_then_chars n v = replicate (n - digit_count v) 32 ++ chars v
