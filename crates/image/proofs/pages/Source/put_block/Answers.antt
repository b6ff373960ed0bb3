-- `image::pages::Source::put_block` meets its contract.
use mathlib.Core.Path.{◌∙◌}
use native.Mathlib.Omega.{arith}
use borrow.Author.Rules.{rules}
use Rattle.image.proofs.Puts.{count-few, saved-put}
use Rattle.image.proofs.pages.Source.put_block.Goals as goal

pub head_for-head-requires : goal.head_for-head-requires
head_for-head-requires g c =
    let s = g.Self.Source.sizes c.args.self.now in
    let f = count-few (g.Self.Source.header c.args.self.now).board.rows s.few in (omega arith, search rules)

pub returns : goal.returns
returns g c =
    let s = g.Self.Source.sizes c.args.self.now in
    saved-put (g.Self.Source.version c.args.self.now) (g.Self.Source.header c.args.self.now) (g.Self.Source.rows c.args.self.now) s.session s.sized s.few _ _ _ c.requires.0 c.requires.1 c.requires.2
    (c.head_for-head.ensures ∙ rw (c.version.ensures, c.header.ensures)) c.put_head.ensures c.put_body.ensures c.put_check.ensures
