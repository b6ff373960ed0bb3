-- `reader::limits::holds_unfinished` meets its contract.
use native.Mathlib.Omega.{arith}
use lib.Seq.{length-take-le}
use mathlib.Core.Path.{sym}
use Rattle.reader.proofs.Kept.{held-over, held-short, held-other}
use Rattle.reader.proofs.limits.holds_unfinished.Goals as goal

pub returns-then-used-gt-HELD_SIZE : goal.returns-then-used-gt-HELD_SIZE
returns-then-used-gt-HELD_SIZE c = search held-over

pub slice_bounds-front-end : goal.slice_bounds-front-end
slice_bounds-front-end c =
    sym (length-take-le _ _ (omega (arith, c.requires)))

pub returns-in-Short : goal.returns-in-Short
returns-in-Short c = search held-short

pub returns-in_default : goal.returns-in_default
returns-in_default c = search held-other
