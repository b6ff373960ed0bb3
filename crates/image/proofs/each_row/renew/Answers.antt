-- `image::each_row::renew` meets its contract.
use Rattle.image.proofs.Steps.{renew-older, renew-newest}
use borrow.Author.Rules.{rules}
use Rattle.image.proofs.each_row.renew.Goals as goal

pub returns-then-version-ne-NEWEST : goal.returns-then-version-ne-NEWEST
returns-then-version-ne-NEWEST c = search (renew-older, rules)

pub returns-else-version-ne-NEWEST : goal.returns-else-version-ne-NEWEST
returns-else-version-ne-NEWEST c = search (renew-newest, rules)
