-- `image::rows::Pages::each_keeps` meets its contract.
use mathlib.Core.Path.{◌≡◌}
use mathlib.Core.Bool.{true}
use Rattle.image.specs.Shape.{all_below}
use Rattle.image.specs.Held.{rows_in}
use Rattle.image.specs.Ids.{good_row}
use Rattle.image.proofs.rows.Pages.each_keeps.Given as goal

abbrev pub invariant-loop-k : goal.invariant-loop-k
invariant-loop-k l =
    all_below (good_row l.version (rows_in l.self)) l.k ≡ true
