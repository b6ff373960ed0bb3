-- `field::read` meets its contract.
use native.Mathlib.Omega.{arith}
use Rattle.field.proofs.read.Goals as goal

pub read-requires : goal.read-requires
read-requires g c = omega arith
