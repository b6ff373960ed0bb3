-- `image::within_limits` meets its contract.
use Rattle.image.proofs.Beside.{within-limits}
use borrow.Author.Rules.{rules}
use Rattle.image.proofs.within_limits.Goals as goal

pub returns : goal.returns
returns c = search (within-limits, rules)
