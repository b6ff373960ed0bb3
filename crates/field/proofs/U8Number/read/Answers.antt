-- `field::Number::read` of a `u8` meets its contract.
use mathlib.Core.Path.{sym}
use native.Mathlib.Omega.{arith}
use Rattle.field.proofs.Numbers.{be-one}
use Rattle.field.proofs.U8Number.read.Goals as goal

pub returns : goal.returns
returns c = sym (be-one _ _ (omega arith))
