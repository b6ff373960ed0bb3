-- `image::moves::known_in` meets its contract.
use mathlib.Core.Path.{◌≡◌}
use Prim.Native.Nat.{◌*◌, ◌≤◌}
use Rattle.image.specs.Restore.{rows_of}
use Rattle.image.specs.Moves.{known_in}
use Rattle.image.proofs.moves.known_in.Given as goal

abbrev pub invariant-loop-k : goal.invariant-loop-k
invariant-loop-k l =
    (l.total ≤ 2 * l.k) × (l.total ≡ known_in l.k (rows_of l.image))
