-- The definitions compute on characters and bytes.
-- Assumes nothing.
use mathlib.Core.Path.{◌≡◌, refl}
use mathlib.Core.Bool.{true, false}
use mathlib.Core.List.{[], ◌∷◌}
use Rattle.std.specs.Prelude.{Some, None}
use Rattle.field.specs.Bytes.{part, overlay, be, bytes_be, value, digits, turned}
use Rattle.field.specs.Text.{every, leading, is_text, begins_with_non_space, only_spaces_after_space}
use Rattle.field.specs.Decimal.{decimal, begins_with_non_zero, number_of, number_after_spaces, number_before_spaces, digit_chars, digit_count_in, digit_count, chars, chars_then_spaces}

-- bytes 1 and 2 of 09 01 02 09 are 258, and 258 laid over them is the same
read-two : be (part (9 ∷ 1 ∷ 2 ∷ 9 ∷ []) 1 2) ≡ 258
unfolding part value
read-two = refl

write_two : overlay (9 ∷ 0 ∷ 0 ∷ 9 ∷ []) 1 (bytes_be 2 258) ≡ 9 ∷ 1 ∷ 2 ∷ 9 ∷ []
unfolding overlay digits
write_two = refl

-- 01 02 03 04 turned is 04 03 02 01
turned-four : turned 16909060 ≡ 67305985
unfolding turned
turned-four = refl

-- "A B" has a letter after a space, "AB " has not
space-inside : is_text (65 ∷ 32 ∷ 66 ∷ []) ≡ false
unfolding is_text begins_with_non_space only_spaces_after_space every
space-inside = refl

space-behind : is_text (65 ∷ 66 ∷ 32 ∷ []) ≡ true
unfolding is_text begins_with_non_space only_spaces_after_space every
space-behind = refl

-- " 42" and "42 " are 42; "042" is no number
login-number : number_after_spaces (32 ∷ 52 ∷ 50 ∷ []) ≡ Some 42
unfolding number_after_spaces number_of begins_with_non_zero decimal value every leading
login-number = refl

live-number : number_before_spaces (52 ∷ 50 ∷ 32 ∷ []) ≡ Some 42
unfolding number_before_spaces number_of begins_with_non_zero decimal value every leading
live-number = refl

leading-zero : number_before_spaces (48 ∷ 52 ∷ 50 ∷ []) ≡ None
unfolding number_before_spaces number_of begins_with_non_zero decimal value every leading
leading-zero = refl

-- 10 ^ 12 has thirteen digits, and "42 " is what is written for 42
thirteen : digit_count 1_000_000_000_000 ≡ 13
unfolding digit_count digit_count_in
thirteen = refl

written : chars_then_spaces 3 42 ≡ 52 ∷ 50 ∷ 32 ∷ []
unfolding chars_then_spaces chars digit_chars digit_count digit_count_in digits
written = refl
