-- The line that says what was moved: version and rows, and for a move back how many times were lost.
-- Assumes nothing.
use Rattle.std.specs.Prelude.{ℕ, List, [], ◌∷◌, ◌++◌}
use Rattle.field.specs.Decimal.{chars}
use Rattle.image.specs.declared.Way.{Way}
use Rattle.image.specs.declared.Way.TheVariants.{Forward, Back}
use Rattle.topmove.specs.declared.moving.Moved.{Moved}

-- ---- the words

-- `version `
abbrev pub version_word : List ℕ
version_word = 118 ∷ 101 ∷ 114 ∷ 115 ∷ 105 ∷ 111 ∷ 110 ∷ 32 ∷ []

-- `, `
abbrev pub comma : List ℕ
comma = 44 ∷ 32 ∷ []

-- ` rows`
abbrev pub rows_word : List ℕ
rows_word = 32 ∷ 114 ∷ 111 ∷ 119 ∷ 115 ∷ []

-- ` times lost`
abbrev pub lost_word : List ℕ
lost_word = 32 ∷ 116 ∷ 105 ∷ 109 ∷ 101 ∷ 115 ∷ 32 ∷ 108 ∷ 111 ∷ 115 ∷ 116 ∷ []

abbrev pub line_end : List ℕ
line_end = 10 ∷ []

-- ---- the line

unfoldable pub start_of : Moved → List ℕ
start_of m = (version_word ++ chars m.version) ++ (comma ++ chars m.rows)

unfoldable pub rest_of : Way → ℕ → List ℕ
rest_of Forward lost = rows_word ++ line_end
rest_of Back lost = ((rows_word ++ comma) ++ chars lost) ++ (lost_word ++ line_end)

unfoldable pub line_of : Way → Moved → List ℕ
line_of way m = start_of m ++ rest_of way m.lost

-- no line is longer
abbrev pub line_size : ℕ
line_size = 96
