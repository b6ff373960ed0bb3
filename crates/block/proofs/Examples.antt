-- Examples, by computing.
-- Assumes nothing.
use mathlib.Core.Path.{◌≡◌, refl}
use mathlib.Core.List.{[], ◌∷◌, ◌++◌}
use lib.ListN.{replicate}
use Rattle.block.specs.Block.{checked_size, weighted, check_of}
use Rattle.block.specs.Shapes.{column_sum}

-- the last byte alone weighs 510
last : check_of (replicate 509 0 ++ (1 ∷ [])) ≡ 510
unfolding check_of weighted
last = refl

-- the greatest sum is 507 times 65,521 and 8,628
full : check_of (replicate checked_size 255) ≡ 8_628
unfolding check_of weighted
full = refl

-- the second column of three strips of two bytes: 2 times 20, 4 times 40 and 6 times 60
second : column_sum 2 (10 ∷ 20 ∷ 30 ∷ 40 ∷ 50 ∷ 60 ∷ []) 1 2 3 ≡ 560
unfolding column_sum
second = refl
