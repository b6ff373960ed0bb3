-- `field::Number::write` of a `u8` meets its contract.
use native.Mathlib.Omega.{arith}
use Rattle.field.proofs.Numbers.{write-one}
use Rattle.field.proofs.U8Number.write.Goals as goal

pub returns : goal.returns
returns c = write-one _ _ _ (omega arith) (omega arith)
