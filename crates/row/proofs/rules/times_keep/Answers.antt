-- `row::rules::times_keep` meets its contract.
use borrow.Author.Rules.{rules}
use Rattle.row.proofs.Puts.{times-newest, times-older}
use Rattle.row.proofs.rules.times_keep.Goals as goal

pub returns-then-version-eq-NEWEST : goal.returns-then-version-eq-NEWEST
returns-then-version-eq-NEWEST c = search (times-newest, rules)

pub returns : goal.returns
returns c = search (times-older, rules)
