-- `image::rows::Pages::each_new` meets its contract.
use mathlib.Core.Path.{◌≡◌}
use mathlib.Core.Bool.{true}
use Rattle.image.specs.Shape.{all_below}
use Rattle.image.specs.Held.{rows_in}
use Rattle.image.specs.Ids.{own_id}
use Rattle.image.proofs.Walk.{Gathered}
use Rattle.image.proofs.rows.Pages.each_new.Given as goal

abbrev pub invariant-loop-k : goal.invariant-loop-k
invariant-loop-k l =
    Gathered l.k (rows_in l.self) l.rising × (all_below (own_id (rows_in l.self)) l.k ≡ true)
