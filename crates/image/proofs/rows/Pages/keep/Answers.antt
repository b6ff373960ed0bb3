-- `image::rows::Pages::keep` meets its contract.
use Rattle.image.proofs.Walk.{rows-broken, rows-kept}
use borrow.Author.Rules.{rules}
use Rattle.image.proofs.rows.Pages.keep.Goals as goal

pub returns-then-not-each_keeps : goal.returns-then-not-each_keeps
returns-then-not-each_keeps c = search rows-broken

pub returns : goal.returns
returns c = search (rows-kept, rules)
