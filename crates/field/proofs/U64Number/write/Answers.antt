-- `field::Number::write` of a `u64` meets its contract.
use mathlib.Core.Path.{ap, ◌∙◌}
use native.Mathlib.Omega.{arith}
use Rattle.field.specs.Bytes.{overlay, bytes_be}
use Rattle.field.proofs.Numbers.{bytes_high}
use Rattle.field.proofs.U64Number.write.Goals as goal

pub returns : goal.returns
returns c = c.put.ensures ∙ ap (overlay c.args.out.now c.args.at) (c.to_be_bytes.ensures ∙ bytes_high 8 _ ∙ ap (bytes_be 8) (omega arith))
