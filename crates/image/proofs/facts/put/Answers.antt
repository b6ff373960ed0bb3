-- `image::facts::put` meets its contract.
use mathlib.Core.Path.{◌≡◌}
use lib.ListN.{length}
use Rattle.image.proofs.Beside.{body-put}
use borrow.Author.Rules.{rules}
use Rattle.image.proofs.facts.put.Goals as goal

pub returns : goal.returns
returns c = let l : length c.args.h.session ≡ 10 = search (rules, c) in search (body-put, c) depth 14
