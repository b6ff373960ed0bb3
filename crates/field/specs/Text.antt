-- Characters: the ranges they lie in, and what a text of them is.
-- Assumes nothing.
use Rattle.std.specs.Prelude.{ℕ, suc, Bool, true, false, ◌&&◌, cond, not, List, [], ◌∷◌, leb}

abbrev pub within : ℕ → ℕ → ℕ → Bool
within low high c = leb low c && leb c high

abbrev pub is_space : ℕ → Bool
is_space = within 32 32

abbrev pub is_zero : ℕ → Bool
is_zero = within 0 0

abbrev pub is_printable : ℕ → Bool
is_printable = within 32 126

abbrev pub is_digit : ℕ → Bool
is_digit = within 48 57

-- each character passes the test
unfoldable pub every : (ℕ → Bool) → List ℕ → Bool
every p [] = true
every p (c ∷ cs) = p c && every p cs

-- how many characters at the front pass it
unfoldable pub leading : (ℕ → Bool) → List ℕ → ℕ
leading p [] = 0
leading p (c ∷ cs) = cond (p c) (suc (leading p cs)) 0

unfoldable pub begins_with_non_space : List ℕ → Bool
begins_with_non_space [] = false
begins_with_non_space (c ∷ cs) = not (is_space c)

unfoldable pub only_spaces_after_space : List ℕ → Bool
only_spaces_after_space [] = true
only_spaces_after_space (c ∷ cs) = cond (is_space c) (every is_space cs) (only_spaces_after_space cs)

-- a text begins with a non-space, is printable ASCII, and has only spaces after a space
unfoldable pub is_text : List ℕ → Bool
is_text cs = begins_with_non_space cs && every is_printable cs && only_spaces_after_space cs
