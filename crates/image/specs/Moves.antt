-- W-209. Moving a whole image to version 3 and back: what a move answers and leaves in the output, and how many times the way back loses.
-- Assumes nothing.
use Rattle.std.specs.Prelude.{ℕ, zero, suc, ◌+◌, ◌-◌, ◌*◌, ◌<◌, cond, List, leb, length, Result, Ok, Err}
use Rattle.field.specs.Bytes.{overlay}
use Rattle.row.specs.Rules.{newest}
use Rattle.row.specs.Moves.{forward_row, back_row, TimesUnknown, known_times}
use Rattle.table.specs.Memory.{row, each_row}
use Rattle.image.specs.Shape.{page_rows, old_version}
use Rattle.image.specs.Header.{header_of}
use Rattle.image.specs.Save.{image_in, Saving, saving, unsaved}
use Rattle.image.specs.Restore.{rows_of, verdict_in}
use Rattle.image.specs.declared.Refusal.TheVariants.{ShortOutput}
use Rattle.image.specs.declared.Refusal.{Refusal}
use Rattle.image.specs.declared.Wanted.{Wanted}
use Rattle.image.specs.declared.Wanted.TheVariants.{Older, Newest}
use Rattle.image.specs.declared.Way.{Way}
use Rattle.image.specs.declared.Way.TheVariants.{Forward, Back}

-- so many rows stand in page k
unfoldable pub used_in : ℕ → ℕ → ℕ
used_in rows k = cond (leb page_rows (rows - k * page_rows)) page_rows (rows - k * page_rows)

-- forward moves take the versions before 3, back moves version 3
abbrev pub wanted_by : Way → Wanted
wanted_by Forward = Older
wanted_by Back = Newest

-- forward to version 3, back to version 1 or 2 by the rows
abbrev pub version_after : Way → ℕ → ℕ
version_after Forward rows = newest
version_after Back rows = old_version rows

-- forward marks the time of each seen side unknown, back zeroes both
abbrev pub along : Way → List ℕ → List ℕ
along Forward r = forward_row r
along Back r = back_row r

-- the header stays, each row moves, and heads and checks are those of the other version
unfoldable pub moved_of : Way → List ℕ → List ℕ
moved_of way image =
    image_in (version_after way (header_of image).board.rows) (header_of image)
    (each_row (along way) (header_of image).board.rows (rows_of image))

-- 21 to 24 as on restoring, 23 also for the wrong version; then 25, and then nothing is written
unfoldable pub moved_by : Result (Unit {0}) Refusal → Way → List ℕ → List ℕ → Saving
moved_by (Ok u) way image out =
    cond (leb (length image) (length out)) (saving (Ok (length image)) (overlay out 0 (moved_of way image)))
    (unsaved ShortOutput out)
moved_by (Err r) way image out = unsaved r out

unfoldable pub move_of : Way → List ℕ → List ℕ → Saving
move_of way image out = moved_by (verdict_in (wanted_by way) image) way image out

-- ---- what is lost on the way back

-- the time of every seen side is unknown, in every row in use
abbrev pub AllUnknown : List ℕ → Type 0
AllUnknown image = (j : ℕ) → j < (header_of image).board.rows → TimesUnknown (row j (rows_of image))

-- how many times of seen sides are known in the first n rows
unfoldable pub known_in : ℕ → List ℕ → ℕ
known_in zero mem = 0
known_in (suc n) mem = known_in n mem + known_times (row n mem)

-- all of them are lost; a move that is refused loses none
unfoldable pub lost_by : Result (Unit {0}) Refusal → List ℕ → ℕ
lost_by (Ok u) image = known_in (header_of image).board.rows (rows_of image)
lost_by (Err r) image = 0

unfoldable pub lost_of : List ℕ → ℕ
lost_of image = lost_by (verdict_in Newest image) image
