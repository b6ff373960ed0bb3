-- A field of a byte buffer: a part of a list, a list laid over a list, and a number as big-endian bytes.
-- Assumes nothing.
use Rattle.std.specs.Prelude.{ℕ, zero, suc, ◌+◌, ◌*◌, ◌/◌, ◌%◌, ◌^◌, ◌<◌, Bool, true, false, ◌&&◌, List, [], ◌∷◌, ◌++◌, eqb, length, take, drop, get_or}

-- the n elements from `at` on
unfoldable pub part : List ℕ → ℕ → ℕ → List ℕ
part xs at n = take n (drop at xs)

-- `xs`, with `ys` in the place of as many elements from `at` on
unfoldable pub overlay : List ℕ → ℕ → List ℕ → List ℕ
overlay xs at ys = take at xs ++ (ys ++ drop (at + length ys) xs)

-- the number that the digits write in a base, the highest digit first
unfoldable pub value : ℕ → List ℕ → ℕ
value base [] = 0
value base (d ∷ ds) = d * base ^ length ds + value base ds

-- the n low digits of v in a base, the highest first
unfoldable pub digits : ℕ → ℕ → ℕ → List ℕ
digits base zero v = []
digits base (suc n) v = v / base ^ n % base ∷ digits base n v

-- the number whose big-endian bytes are the list
abbrev pub be : List ℕ → ℕ
be = value 256

-- the n low bytes of v, the highest first
abbrev pub bytes_be : ℕ → ℕ → List ℕ
bytes_be = digits 256

-- a number of four bytes, with the bytes in the other order
unfoldable pub turned : ℕ → ℕ
turned v = v % 256 * 16777216 + v / 256 % 256 * 65536 + v / 65536 % 256 * 256 + v / 16777216 % 256

-- every element is a digit of the base (past the end, 0 is read)
abbrev pub Digits : ℕ → List ℕ → Type 0
Digits base xs = (i : ℕ) → get_or xs i 0 < base

abbrev pub Bytes : List ℕ → Type 0
Bytes = Digits 256

-- the test that two lists are the same
unfoldable pub same : List ℕ → List ℕ → Bool
same [] [] = true
same [] (y ∷ ys) = false
same (x ∷ xs) [] = false
same (x ∷ xs) (y ∷ ys) = eqb x y && same xs ys
