-- `image::rows::Pages::row` meets its contract.
use native.Mathlib.Omega.{arith}
use Rattle.image.specs.Shape.{place_of}
use Rattle.image.proofs.Walk.{row-room, lent, lent-whole}
use Rattle.image.proofs.rows.Pages.row.Goals as goal

pub overflow_mul-at : goal.overflow_mul-at
unfolding place_of
overflow_mul-at c = let p = row-room c.args.self.now c.args.k c.requires in record { fits = omega arith }

pub overflow_add-at : goal.overflow_add-at
unfolding place_of
overflow_add-at c = let p = row-room c.args.self.now c.args.k c.requires in record { fits = omega arith }

pub overflow_add-at-2 : goal.overflow_add-at-2
unfolding place_of
overflow_add-at-2 c = let p = row-room c.args.self.now c.args.k c.requires in record { fits = omega arith }

pub overflow_add-to : goal.overflow_add-to
unfolding place_of
overflow_add-to c = let p = row-room c.args.self.now c.args.k c.requires in record { fits = omega arith }

pub slice_bounds-result-end : goal.slice_bounds-result-end
unfolding place_of
slice_bounds-result-end c = row-room c.args.self.now c.args.k c.requires

pub returns : goal.returns
unfolding place_of
returns c = let p = row-room c.args.self.now c.args.k c.requires in record { bytes = lent _ _; whole = lent-whole _ _ p }
