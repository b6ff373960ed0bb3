-- `image::pages::head_for` meets its contract.
use Rattle.image.proofs.Judged.{head-made}
use borrow.Author.Rules.{rules}
use Rattle.image.proofs.pages.head_for.Goals as goal

pub returns : goal.returns
returns c = search (head-made, rules)
