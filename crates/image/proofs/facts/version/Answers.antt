-- `image::facts::version` meets its contract.
use Rattle.image.proofs.Judged.{version-read}
use borrow.Author.Rules.{rules}
use Rattle.image.proofs.facts.version.Goals as goal

pub returns : goal.returns
returns c = search (version-read, rules)
