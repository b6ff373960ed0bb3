-- `field::write` meets its contract.
use native.Mathlib.Omega.{arith}
use Rattle.field.proofs.write.Goals as goal

pub write-requires : goal.write-requires
write-requires g c = omega arith
