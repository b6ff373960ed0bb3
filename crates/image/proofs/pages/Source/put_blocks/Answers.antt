-- `image::pages::Source::put_blocks` meets its contract.
use Rattle.image.proofs.Puts.{blocks-none, blocks-turn, blocks-all}
use Rattle.image.proofs.pages.Source.put_blocks.Goals as goal

pub loop-k-init : goal.loop-k-init
loop-k-init g c = blocks-none _ _ _ _

pub loop-k-preserved : goal.loop-k-preserved
loop-k-preserved g c =
    let s = g.Self.Source.sizes c.args.self.now in
    blocks-turn _ _ _ s.session s.sized s.few _ _ _ c.requires.0 c.requires.1 c.loop-k-test.true c.loop-k.invariant c.put_block.ensures

pub returns : goal.returns
returns g c = search blocks-all
