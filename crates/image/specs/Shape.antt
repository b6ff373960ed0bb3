-- The shape of a saved table: how many blocks it has, their heads, and the pages of rows in them.
-- Assumes nothing.
use Rattle.std.specs.Prelude.{ℕ, zero, suc, ◌+◌, ◌-◌, ◌*◌, ◌/◌, ◌%◌, ◌≤◌, ◌<◌, Bool, true, ◌&&◌, ◌||◌, not, cond, List, [], ◌++◌, eqb, leb, length}
use Rattle.field.specs.Bytes.{part}
use Rattle.block.specs.Block.{block_size, head_size, body_size}
use Rattle.block.specs.declared.Head.{Head}
use Rattle.row.specs.Fields.{row_size}
use Rattle.row.specs.Rules.{newest}
use Rattle.table.specs.Memory.{most_rows}
use Rattle.image.specs.declared.Wanted.{Wanted}
use Rattle.image.specs.declared.Wanted.TheVariants.{Any, Older, Newest}

-- ---- the count

-- each block after the first holds four rows, at 14, 138, 262 and 386: its body is a page of table memory
abbrev pub page_rows : ℕ
page_rows = 4

-- rows / 4, rounded up
unfoldable pub pages_for : ℕ → ℕ
pages_for rows = (rows + (page_rows - 1)) / page_rows

-- the count is 1 plus that
unfoldable pub blocks_for : ℕ → ℕ
blocks_for rows = 1 + pages_for rows

-- 126 for the most rows
abbrev pub most_blocks : ℕ
most_blocks = 1 + most_rows / page_rows

-- ---- the versions

-- before W-209: version 1 for up to 256 rows, as many as a table had before W-208; more rows carry version 2
abbrev pub rows_of_version1 : ℕ
rows_of_version1 = 256

unfoldable pub old_version : ℕ → ℕ
old_version rows = cond (leb rows rows_of_version1) 1 2

-- an image has version 3, or the one that its rows had before
unfoldable pub version_fits : ℕ → ℕ → Bool
version_fits version rows = eqb version newest || eqb version (old_version rows)

-- a call takes any version, or only those before version 3, or only version 3
abbrev pub welcome : Wanted → ℕ → Bool
welcome Any version = true
welcome Older version = not (eqb version newest)
welcome Newest version = eqb version newest

-- ---- the heads

-- the head of block k among so many
unfoldable pub head_for : ℕ → ℕ → ℕ → ℕ → Head
head_for count version next k = record { number = k; count = count; version = version; next = next }

-- ---- the pages

-- n pages, the first at `base` and each `stride` bytes after the one before it, joined
unfoldable pub pages : List ℕ → ℕ → ℕ → ℕ → List ℕ
pages bs base stride zero = []
pages bs base stride (suc n) = pages bs base stride n ++ part bs (base + n * stride) body_size

-- they lie within the bytes
abbrev pub PagesIn : List ℕ → ℕ → ℕ → ℕ → Type 0
PagesIn bs base stride n = (k : ℕ) → k < n → base + k * stride + body_size ≤ length bs

-- where row k of such pages stands
unfoldable pub place_of : ℕ → ℕ → ℕ → ℕ
place_of base stride k = base + k / page_rows * stride + k % page_rows * row_size

-- in an image the first page is the body of block 1
abbrev pub first_page : ℕ
first_page = block_size + head_size

-- ---- every number below n passes the test
unfoldable pub all_below : (ℕ → Bool) → ℕ → Bool
all_below p zero = true
all_below p (suc n) = all_below p n && p n
