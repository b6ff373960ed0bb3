-- `image::judge::Blocks::head_keeps` meets its contract.
use Rattle.image.proofs.Judged.{head-keeps}
use Rattle.image.proofs.judge.Blocks.head_keeps.Goals as goal

pub returns : goal.returns
returns c =
    let b = c.args.self.now in
    head-keeps b.image.now b.count b.header c.args.k b.version_is c.read_head-there.ensures c.head_for.ensures c.same_head.ensures
