-- The moved bytes lie in the output.
use Rattle.files.proofs.Fronts.{front_length}
use Rattle.topmove.proofs.Outcomes.{moved_inside}
use Rattle.topmove.proofs.arguments.Move.convert.Goals as goal

pub slice_bounds-out-end : goal.slice_bounds-out-end
slice_bounds-out-end c = moved_inside _ _ _ _ c.in-Ok.is c.move_image.ensures.said c.move_image.ensures.written

pub slice_bounds-store-end : goal.slice_bounds-store-end
slice_bounds-store-end c =
    front_length _ _ (moved_inside _ _ _ _ c.in-Ok.is c.move_image.ensures.said c.move_image.ensures.written)
