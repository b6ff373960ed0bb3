-- The moved bytes lie in the output, and what is said of them is what the promise says.
use Rattle.files.proofs.Fronts.{front_length}
use Rattle.topmove.proofs.Outcomes.{inside, front-block, said, refused}
use Rattle.topmove.proofs.moving.move_image.Goals as goal

pub slice_bounds-facts-end : goal.slice_bounds-facts-end
slice_bounds-facts-end c = inside _ _ _ c.save.ensures _ c.in-Ok.is

pub slice_bounds-facts-end-in-Ok : goal.slice_bounds-facts-end-in-Ok
slice_bounds-facts-end-in-Ok c = front_length _ _ (inside _ _ _ c.save.ensures _ c.in-Ok.is)

pub facts-requires : goal.facts-requires
facts-requires c = front-block _ _ _ c.save.ensures _ c.in-Ok.is

pub returns-in-Ok-clause-said : goal.returns-in-Ok-clause-said
returns-in-Ok-clause-said c = said _ _ _ c.save.ensures _ c.in-Ok.is c.facts.ensures

pub returns-in-Err-clause-said : goal.returns-in-Err-clause-said
returns-in-Err-clause-said c = refused _ _ _ c.save.ensures _ c.in-Err.is c.from.ensures
