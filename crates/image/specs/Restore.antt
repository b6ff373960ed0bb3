-- What restoring answers, and what it leaves in table memory.
-- Assumes nothing.
use Rattle.std.specs.Prelude.{ℕ, ◌+◌, ◌-◌, ◌*◌, ◌/◌, ◌%◌, Bool, ◌&&◌, cond, List, ◌++◌, eqb, leb, length, drop, replicate, Result, Ok, Err}
use Rattle.field.specs.Bytes.{part, be}
use Rattle.field.specs.Limits.{number_in_range}
use Rattle.field.specs.Text.{every, is_zero}
use Rattle.block.specs.Block.{block_size, head_size, body_size, head_at, same_head, check_keeps}
use Rattle.row.specs.Rules.{newest}
use Rattle.row.specs.Moves.{forward_row}
use Rattle.table.specs.Memory.{table_size, is_table, row_at, each_row}
use Rattle.table.specs.Rules.{rows_keep}
use Rattle.image.specs.Shape.{blocks_for, most_blocks, version_fits, welcome, head_for, pages, first_page, all_below}
use Rattle.image.specs.Header.{fresh_header, header_keeps, facts_size, header_of}
use Rattle.image.specs.declared.Header.{Header}
use Rattle.image.specs.declared.Refusal.TheVariants.{Unfit, BadLength, BadCheck, BadHead, BadContents}
use Rattle.image.specs.declared.Refusal.{Refusal}
use Rattle.image.specs.declared.Restored.{Restored}
use Rattle.image.specs.declared.Wanted.{Wanted}
use Rattle.image.specs.declared.Wanted.TheVariants.{Any}

-- ---- the rules of an image, in the order of checking

abbrev pub count_of : List ℕ → ℕ
count_of image = length image / block_size

-- the version of an image is that of block 0
unfoldable pub version_of : List ℕ → ℕ
version_of image = (head_at image 0).version

-- 21: not 0, whole blocks, not too many
unfoldable pub length_keeps : List ℕ → Bool
length_keeps image =
    eqb (length image % block_size) 0 && (leb 1 (count_of image) && leb (count_of image) most_blocks)

-- 22: each block's check is right
unfoldable pub checks_keep : List ℕ → ℕ → Bool
checks_keep image = all_below (λ k. check_keeps image (k * block_size))

-- 23: a block's number is its place, its count that of the blocks, its version one that fits the rows and the same in
-- all, and the next number the same in all, 1 to 10^12
unfoldable pub head_keeps : List ℕ → ℕ → Header → ℕ → Bool
head_keeps image count h k = same_head (head_at image (k * block_size)) (head_for count (version_of image) h.next k)

unfoldable pub heads_keep : List ℕ → ℕ → Header → Bool
heads_keep image count h =
    (number_in_range h.next && version_fits (version_of image) h.board.rows) && all_below (head_keeps image count h) count

-- 24: of block 0, known is 0 or 1, and zeros follow the live number
unfoldable pub facts_keep : List ℕ → Bool
facts_keep image =
    leb (be (part image 24 1)) 1 && every is_zero (part image (head_size + facts_size) (body_size - facts_size))

-- 24: the rows fit the count and keep the rules of the image's version, and unused slots are zero
unfoldable pub slots_keep : List ℕ → ℕ → ℕ → Bool
slots_keep image count rows =
    eqb (blocks_for rows) count
    && (rows_keep (version_of image) rows (pages image first_page block_size (count - 1))
    && every is_zero (drop (row_at rows) (pages image first_page block_size (count - 1))))

unfoldable pub contents_keep : List ℕ → ℕ → Header → Bool
contents_keep image count h = facts_keep image && (header_keeps h && slots_keep image count h.board.rows)

-- 23 is also for a version that the call does not take
unfoldable pub verdict_in : Wanted → List ℕ → Result (Unit {0}) Refusal
verdict_in wanted image =
    cond (length_keeps image)
    (cond (checks_keep image (count_of image))
    (cond (heads_keep image (count_of image) (header_of image) && welcome wanted (version_of image))
    (cond (contents_keep image (count_of image) (header_of image)) (Ok (tt {0})) (Err BadContents))
    (Err BadHead))
    (Err BadCheck))
    (Err BadLength)

abbrev pub verdict_of : List ℕ → Result (Unit {0}) Refusal
verdict_of image = verdict_in Any image

-- ---- restoring

-- the rows as they stand in the image, and zeros past them
unfoldable pub rows_of : List ℕ → List ℕ
rows_of image =
    pages image first_page block_size (count_of image - 1) ++ replicate (table_size - (count_of image - 1) * body_size) 0

-- rows of a version as a table holds them: those of a version before 3 are moved forward
unfoldable pub renewed : ℕ → ℕ → List ℕ → List ℕ
renewed version rows mem = cond (eqb version newest) mem (each_row forward_row rows mem)

unfoldable pub memory_of : List ℕ → List ℕ
memory_of image = renewed (version_of image) (header_of image).board.rows (rows_of image)

-- an answer, and the table memory that it leaves
pub record Restoring : Type 0 where
  pub answer : Restored
  pub memory : List ℕ

abbrev pub restored : Result (Unit {0}) Refusal → Header → Restored
restored v h = record { verdict = v; header = h }

abbrev pub restoring : Restored → List ℕ → Restoring
restoring a mem = record { answer = a; memory = mem }

-- a refusal leaves the memory, and its header is that of a fresh reader
unfoldable pub restored_by : Result (Unit {0}) Refusal → List ℕ → List ℕ → Restoring
restored_by (Ok u) image mem = restoring (restored (Ok (tt {0})) (header_of image)) (memory_of image)
restored_by (Err r) image mem = restoring (restored (Err r) fresh_header) mem

-- 20 for table memory of the wrong length comes first
unfoldable pub restore_of : List ℕ → List ℕ → Restoring
restore_of image mem =
    restored_by (cond (is_table mem) (verdict_of image) (Err Unfit)) image mem
