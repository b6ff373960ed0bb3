-- A block: its head, its body, and the check of both.
-- Assumes nothing.
use Rattle.std.specs.Prelude.{ℕ, ◌+◌, ◌-◌, ◌*◌, ◌%◌, Bool, ◌&&◌, List, [], ◌∷◌, ◌++◌, eqb}
use Rattle.field.specs.Bytes.{part, be, bytes_be}
use Rattle.block.specs.declared.Head.{Head}

-- ---- the sizes

abbrev pub block_size : ℕ
block_size = 512

-- block number (2), block count (2), version (2), next number (8)
abbrev pub head_size : ℕ
head_size = 14

-- head and body; the check stands in the two bytes behind them
abbrev pub checked_size : ℕ
checked_size = block_size - 2

abbrev pub body_size : ℕ
body_size = checked_size - head_size

-- ---- the check

-- k times the first byte, k + 1 times the next, and so on, summed
unfoldable pub weighted : ℕ → List ℕ → ℕ
weighted k [] = 0
weighted k (b ∷ bs) = k * b + weighted (k + 1) bs

abbrev pub modulus : ℕ
modulus = 65_521

-- the sum over i of (i + 1) times byte i, modulo 65,521
unfoldable pub check_of : List ℕ → ℕ
check_of bs = weighted 1 bs % modulus

-- ---- a block's bytes

unfoldable pub head_bytes : Head → List ℕ
head_bytes h = bytes_be 2 h.number ++ (bytes_be 2 h.count ++ (bytes_be 2 h.version ++ bytes_be 8 h.next))

unfoldable pub sealed : List ℕ → List ℕ
sealed bs = bs ++ bytes_be 2 (check_of bs)

unfoldable pub block_of : Head → List ℕ → List ℕ
block_of h body = sealed (head_bytes h ++ body)

-- ---- what the bytes from `at` on say, if a block stands there

unfoldable pub head_at : List ℕ → ℕ → Head
head_at bs at =
    record {
      number = be (part bs at 2);
      count = be (part bs (at + 2) 2);
      version = be (part bs (at + 4) 2);
      next = be (part bs (at + 6) 8);
    }

unfoldable pub same_head : Head → Head → Bool
same_head g h =
    eqb g.number h.number && (eqb g.count h.count && (eqb g.version h.version && eqb g.next h.next))

-- is the check of the block right?
unfoldable pub check_keeps : List ℕ → ℕ → Bool
check_keeps bs at = eqb (be (part bs (at + checked_size) 2)) (check_of (part bs at checked_size))
