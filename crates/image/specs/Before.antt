-- Saved tables as the programs of before had them. Until W-208 a table had at most 256 rows and an image version 1; until W-209 a table had at most 500, and
-- an image version 1 for up to 256 rows and version 2 for more. Neither knew the times of the sides. The rules that stayed are not said again.
-- Assumes nothing.
use Rattle.std.specs.Prelude.{ℕ, ◌+◌, ◌-◌, ◌*◌, ◌/◌, ◌%◌, ◌≤◌, ◌≡◌, Bool, ◌&&◌, cond, List, ◌++◌, eqb, leb, length, drop, replicate, Result, Ok, Err}
use Rattle.field.specs.Bytes.{overlay}
use Rattle.field.specs.Limits.{number_in_range}
use Rattle.field.specs.Text.{every, is_zero}
use Rattle.block.specs.Block.{block_size, body_size, head_at, same_head}
use Rattle.row.specs.Fields.{row_size}
use Rattle.row.specs.Rules.{newest}
use Rattle.table.specs.Memory.{most_rows, table_size, row_at}
use Rattle.table.specs.Rules.{rows_keep}
use Rattle.image.specs.Shape.{page_rows, blocks_for, rows_of_version1, old_version, head_for, pages, first_page, all_below}
use Rattle.image.specs.Header.{fresh_header, header_keeps, header_of}
use Rattle.image.specs.Save.{image_in, size_for, Saving, saving, unsaved}
use Rattle.image.specs.Restore.{count_of, checks_keep, facts_keep, Restoring, restored, restoring}
use Rattle.image.specs.declared.Header.{Header}
use Rattle.image.specs.declared.Refusal.TheVariants.{Unfit, BadLength, BadCheck, BadHead, BadContents, ShortOutput}
use Rattle.image.specs.declared.Refusal.{Refusal}

-- ---- the programs

-- the most rows of its tables, and the version that it gave an image of so many rows
pub record Program : Type 0 where
  pub most : ℕ
  pub version : ℕ → ℕ

abbrev pub before_w208 : Program
before_w208 = record { most = rows_of_version1; version = λ rows. 1 }

abbrev pub before_w209 : Program
before_w209 = record { most = 500; version = old_version }

-- what theorems about a program of before ask of it: its tables were no larger, its most rows filled their blocks, it never wrote version 3, and it gave its
-- images the version that a move back gives
pub record Former (p : Program) : Type 0 where
  pub few : p.most ≤ most_rows
  pub whole : p.most / page_rows * page_rows ≡ p.most
  pub other : (rows : ℕ) → p.version rows ≡ newest → ⊥
  pub same : (rows : ℕ) → rows ≤ p.most → p.version rows ≡ old_version rows

-- ---- the limits

-- 31,744 and 62,000
abbrev pub table_size_of : Program → ℕ
table_size_of p = p.most * row_size

-- 65 and 126
abbrev pub most_blocks_of : Program → ℕ
most_blocks_of p = 1 + p.most / page_rows

abbrev pub is_table_of : Program → List ℕ → Bool
is_table_of p mem = eqb (length mem) (table_size_of p)

-- the memory of its table, in the memory that a table has now
abbrev pub widened : Program → List ℕ → List ℕ
widened p mem = mem ++ replicate (table_size - table_size_of p) 0

-- ---- the rules of an image

-- 21
unfoldable pub length_kept : Program → List ℕ → Bool
length_kept p image = eqb (length image % block_size) 0 && (leb 1 (count_of image) && leb (count_of image) (most_blocks_of p))

-- 23: the version is that of the rows
unfoldable pub head_kept : Program → List ℕ → ℕ → Header → ℕ → Bool
head_kept p image count h k = same_head (head_at image (k * block_size)) (head_for count (p.version h.board.rows) h.next k)

unfoldable pub heads_kept : Program → List ℕ → ℕ → Header → Bool
heads_kept p image count h = number_in_range h.next && all_below (head_kept p image count h) count

-- 24: the rows keep the rules of that version
unfoldable pub slots_kept : Program → List ℕ → ℕ → ℕ → Bool
slots_kept p image count rows =
    eqb (blocks_for rows) count
    && (rows_keep (p.version rows) rows (pages image first_page block_size (count - 1))
    && every is_zero (drop (row_at rows) (pages image first_page block_size (count - 1))))

unfoldable pub contents_kept : Program → List ℕ → ℕ → Header → Bool
contents_kept p image count h = facts_keep image && (header_keeps h && slots_kept p image count h.board.rows)

unfoldable pub verdict_before : Program → List ℕ → Result (Unit {0}) Refusal
verdict_before p image =
    cond (length_kept p image)
    (cond (checks_keep image (count_of image))
    (cond (heads_kept p image (count_of image) (header_of image))
    (cond (contents_kept p image (count_of image) (header_of image)) (Ok (tt {0})) (Err BadContents))
    (Err BadHead))
    (Err BadCheck))
    (Err BadLength)

-- ---- restoring

unfoldable pub memory_before : Program → List ℕ → List ℕ
memory_before p image =
    pages image first_page block_size (count_of image - 1) ++ replicate (table_size_of p - (count_of image - 1) * body_size) 0

unfoldable pub restored_by_before : Program → Result (Unit {0}) Refusal → List ℕ → List ℕ → Restoring
restored_by_before p (Ok u) image mem = restoring (restored (Ok (tt {0})) (header_of image)) (memory_before p image)
restored_by_before p (Err r) image mem = restoring (restored (Err r) fresh_header) mem

unfoldable pub restore_before : Program → List ℕ → List ℕ → Restoring
restore_before p image mem =
    restored_by_before p (cond (is_table_of p mem) (verdict_before p image) (Err Unfit)) image mem

-- ---- saving

unfoldable pub within_limits_of : Program → Header → List ℕ → Bool
within_limits_of p h mem = is_table_of p mem && (leb h.board.rows p.most && number_in_range h.next)

-- the image of its rows, in its version
unfoldable pub image_before : Program → Header → List ℕ → List ℕ
image_before p h mem = image_in (p.version h.board.rows) h (widened p mem)

unfoldable pub save_before : Program → Header → List ℕ → List ℕ → Saving
save_before p h mem out =
    cond (within_limits_of p h mem)
    (cond (header_keeps h && rows_keep (p.version h.board.rows) h.board.rows mem)
    (cond (leb (size_for h.board.rows) (length out))
    (saving (Ok (size_for h.board.rows)) (overlay out 0 (image_before p h mem)))
    (unsaved ShortOutput out))
    (unsaved BadContents out))
    (unsaved Unfit out)
