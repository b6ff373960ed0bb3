-- `image::pages::old_version` meets its contract.
use borrow.Author.Rules.{rules}
use Rattle.image.proofs.Judged.{old-first, old-second}
use Rattle.image.proofs.pages.old_version.Goals as goal

pub returns-then-rows-le-ROWS_OF_VERSION_1 : goal.returns-then-rows-le-ROWS_OF_VERSION_1
returns-then-rows-le-ROWS_OF_VERSION_1 c = search (old-first, rules)

pub returns-else-rows-le-ROWS_OF_VERSION_1 : goal.returns-else-rows-le-ROWS_OF_VERSION_1
returns-else-rows-le-ROWS_OF_VERSION_1 c = search (old-second, rules)
