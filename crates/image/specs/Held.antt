-- What the structs of the code hold: rows in pages, and the rows of an image on its way.
-- Assumes nothing.
use Rattle.std.specs.Prelude.{ℕ, List}
use Rattle.field.specs.Bytes.{part}
use Rattle.row.specs.Fields.{row_size}
use Rattle.table.specs.Memory.{each_row}
use Rattle.image.specs.Shape.{pages_for, pages, place_of}
use Rattle.image.specs.Restore.{rows_of}
use Rattle.image.specs.Moves.{along}
use Rattle.image.specs.declared.rows.Pages.{Pages}
use Rattle.image.specs.declared.moves.Moving.{Moving}

-- the pages, joined
abbrev pub rows_in : Pages → List ℕ
rows_in p = pages p.bytes.now p.base p.stride (pages_for p.rows)

-- row k of them
abbrev pub row_in : Pages → ℕ → List ℕ
row_in p k = part p.bytes.now (place_of p.base p.stride k) row_size

-- the rows of the image, moved
abbrev pub moved_in : Moving → List ℕ
moved_in m = each_row (along m.way) m.header.board.rows (rows_of m.image.now)
