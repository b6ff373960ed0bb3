-- The image of a table, and what saving answers and leaves in the output.
-- Assumes nothing.
use Rattle.std.specs.Prelude.{ℕ, zero, suc, ◌≡◌, ◌≤◌, ◌-◌, ◌*◌, ◌&&◌, cond, List, [], ◌++◌, leb, length, replicate, Result, Ok, Err}
use Rattle.field.specs.Bytes.{part, overlay}
use Rattle.block.specs.Block.{block_size, body_size, block_of}
use Rattle.table.specs.Memory.{most_rows, table_size, row_at}
use Rattle.row.specs.Rules.{newest}
use Rattle.table.specs.Rules.{rows_keep}
use Rattle.image.specs.Shape.{blocks_for, head_for}
use Rattle.image.specs.Header.{within_limits, header_keeps, first_body}
use Rattle.image.specs.declared.Header.{Header}
use Rattle.image.specs.declared.Refusal.{Refusal}
use Rattle.image.specs.declared.Refusal.TheVariants.{Unfit, BadLength, BadCheck, BadHead, BadContents, ShortOutput}

-- ---- the paper's number of each refusal
abbrev pub refusal_number : Refusal → ℕ
refusal_number Unfit = 20
refusal_number BadLength = 21
refusal_number BadCheck = 22
refusal_number BadHead = 23
refusal_number BadContents = 24
refusal_number ShortOutput = 25

-- ---- the image

-- table memory with zeros past the rows in use, and its page k
unfoldable pub cleared : ℕ → List ℕ → List ℕ
cleared rows mem = part mem 0 (row_at rows) ++ replicate (table_size - row_at rows) 0

unfoldable pub page_of : ℕ → List ℕ → ℕ → List ℕ
page_of rows mem k = part (cleared rows mem) (k * body_size) body_size

-- block 0 holds the header, block k + 1 page k
unfoldable pub body_of : Header → List ℕ → ℕ → List ℕ
body_of h mem zero = first_body h
body_of h mem (suc k) = page_of h.board.rows mem k

-- in a version
unfoldable pub saved_block : ℕ → Header → List ℕ → ℕ → List ℕ
saved_block version h mem k = block_of (head_for (blocks_for h.board.rows) version h.next k) (body_of h mem k)

-- the first n blocks
unfoldable pub blocks : ℕ → Header → List ℕ → ℕ → List ℕ
blocks version h mem zero = []
blocks version h mem (suc n) = blocks version h mem n ++ saved_block version h mem n

unfoldable pub image_in : ℕ → Header → List ℕ → List ℕ
image_in version h mem = blocks version h mem (blocks_for h.board.rows)

-- saving writes version 3 only
abbrev pub image_of : Header → List ℕ → List ℕ
image_of h mem = image_in newest h mem

unfoldable pub size_for : ℕ → ℕ
size_for rows = blocks_for rows * block_size

-- what such an image asks of its header and of its table memory
pub record Sizes (h : Header) (mem : List ℕ) : Type 0 where
  pub session : length h.session ≡ 10
  pub sized : length mem ≡ table_size
  pub few : h.board.rows ≤ most_rows

-- ---- saving

-- an answer, and the output that it leaves
pub record Saving : Type 0 where
  pub answer : Result ℕ Refusal
  pub out : List ℕ

abbrev pub saving : Result ℕ Refusal → List ℕ → Saving
saving a out = record { answer = a; out = out }

abbrev pub unsaved : Refusal → List ℕ → Saving
unsaved r out = saving (Err r) out

-- 20, then 24, then 25, and then nothing is written; a success writes the image and touches nothing after it
unfoldable pub save_of : Header → List ℕ → List ℕ → Saving
save_of h mem out =
    cond (within_limits h mem)
    (cond (header_keeps h && rows_keep newest h.board.rows mem)
    (cond (leb (size_for h.board.rows) (length out))
    (saving (Ok (size_for h.board.rows)) (overlay out 0 (image_of h mem)))
    (unsaved ShortOutput out))
    (unsaved BadContents out))
    (unsaved Unfit out)
