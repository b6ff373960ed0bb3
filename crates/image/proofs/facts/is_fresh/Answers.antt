-- `image::facts::is_fresh` meets its contract.
use mathlib.Core.Path.{◌≡◌}
use lib.ListN.{length}
use Rattle.image.proofs.Beside.{is-fresh}
use borrow.Author.Rules.{rules}
use Rattle.image.proofs.facts.is_fresh.Goals as goal

pub returns : goal.returns
returns c = let l : length c.args.h.session ≡ 10 = search (rules, c) in is-fresh c.args.h l c.only.ensures
