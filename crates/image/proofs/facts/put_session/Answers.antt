-- `image::facts::put_session` meets its contract.
use mathlib.Core.Path.{◌≡◌, ◌∙◌}
use lib.ListN.{length}
use Rattle.image.proofs.Beside.{flag-byte, session-put}
use borrow.Author.Rules.{rules}
use Rattle.image.proofs.facts.put_session.Goals as goal

pub returns : goal.returns
returns c = let l : length c.args.h.session ≡ 10 = search (rules, c) in session-put _ _ c.args.h l c.requires c.put.ensures (c.from.ensures ∙ flag-byte c.args.h.known) c.write.ensures
