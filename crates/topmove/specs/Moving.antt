-- What the program makes of an image: the bytes of the move, and what is said of them.
-- Assumes nothing.
use Rattle.std.specs.Prelude.{ℕ, List, length, Result, Ok, Err}
use Rattle.image.specs.Header.{header_of}
use Rattle.image.specs.Save.{refusal_number}
use Rattle.image.specs.Restore.{version_of}
use Rattle.image.specs.Moves.{version_after, lost_of}
use Rattle.image.specs.declared.Way.{Way}
use Rattle.topmove.specs.declared.moving.Moved.{Moved}
use Rattle.image.specs.declared.Refusal.{Refusal}

-- read off the moved bytes
unfoldable pub facts_of : List ℕ → List ℕ → Moved
facts_of image moved =
    record { size = length moved; version = version_of moved; rows = (header_of moved).board.rows; lost = lost_of image }

-- WHAT IS SAID OF A MOVE: as many bytes as the image has, the version that the move makes, the rows of the image, and the times that are lost
unfoldable pub moved_from : Way → List ℕ → Moved
moved_from way image =
    record {
      size = length image;
      version = version_after way (header_of image).board.rows;
      rows = (header_of image).board.rows;
      lost = lost_of image;
    }

-- and of a refusal its number
unfoldable pub outcome_of : Way → List ℕ → Result ℕ Refusal → Result Moved ℕ
outcome_of way image (Ok n) = Ok (moved_from way image)
outcome_of way image (Err r) = Err (refusal_number r)
