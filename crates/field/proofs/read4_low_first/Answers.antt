-- `field::read4_low_first` meets its contract.
use mathlib.Core.Path.{ap, ◌∙◌}
use borrow.Author.Rules.{rules}
use native.Mathlib.Omega.{arith}
use Rattle.field.specs.Bytes.{part, turned}
use Rattle.field.proofs.Numbers.{lent-bytes, part_bytes, turned-low}
use Rattle.field.proofs.Parts.{part_length}
use Rattle.field.proofs.read4_low_first.Goals as goal

pub returns : goal.returns
returns c =
    let s = c.args.s.now in
    let at = c.args.at in
    ap turned (grind arith)
    ∙ turned-low (part s at 4) (part_length s at 4 (search rules)) (part_bytes s at 4 (lent-bytes s (search rules)))
