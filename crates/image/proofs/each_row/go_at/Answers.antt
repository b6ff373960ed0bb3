-- `image::each_row::go_at` meets its contract.
use Rattle.field.specs.Bytes.{part}
use Rattle.image.proofs.Steps.{gone}
use borrow.Author.Rules.{rules}
use Rattle.image.proofs.each_row.go_at.Goals as goal

pub returns : goal.returns
unfolding part
returns c = gone _ _ c.args.way (search rules) c.go.ensures (search rules)
