-- `image::pages::Source::put_body` meets its contract.
use borrow.Author.Rules.{rules}
use Rattle.image.proofs.Puts.{page-there, body-first, body-later}
use Rattle.image.proofs.pages.Source.put_body.Goals as goal

pub put_page-requires : goal.put_page-requires
put_page-requires g c = (search rules, page-there _ _ (search rules) c.requires.1)

pub returns-then-k-eq0 : goal.returns-then-k-eq0
returns-then-k-eq0 g c =
    let e = rw c.header.ensures at c.put.ensures in
    body-first 0 _ (g.Self.Source.rows c.args.self.now) _ _ _ (search rules) e

pub returns-else-k-eq0 : goal.returns-else-k-eq0
returns-else-k-eq0 g c = body-later 0 (g.Self.Source.header c.args.self.now) _ _ _ _ (search rules) c.put_page.ensures
