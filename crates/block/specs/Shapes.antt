-- What the functions within the crate hand to each other. No promise of a public function names any of it.
-- Assumes nothing.
use Rattle.std.specs.Prelude.{ℕ, zero, suc, ◌+◌, ◌*◌, ◌/◌, List, get_or}
use Rattle.block.specs.Block.{checked_size}

abbrev pub strips : ℕ
strips = 15

abbrev pub strip_size : ℕ
strip_size = checked_size / strips

-- n bytes, the first at `at` and each `size` behind the one before; the first weighs k, each further one `size` more; summed
unfoldable pub column_sum : ℕ → List ℕ → ℕ → ℕ → ℕ → ℕ
column_sum size s at k zero = 0
column_sum size s at k (suc n) = k * get_or s at 0 + column_sum size s (at + size) (k + size) n
