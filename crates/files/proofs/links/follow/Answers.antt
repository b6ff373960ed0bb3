-- What a link leads to has room behind the folder.
use Rattle.std.proofs.Common.{◌≡◌, ◌+◌, ◌-◌, length, rules, arith}
use borrow.Rule.Slice.PartMut.{put_mid}
use lib.ListN.{length-take}
use Rattle.files.proofs.links.follow.Goals as goal

pub returns : goal.returns
returns c =
    let whole : length (put_mid c.base-at.result (c.base-at.result + length c.args.text.now - c.base-at.result) c.args.path.now c.copy_from_slice.new.self) ≡ length c.args.path.now = search rules in
    omega (arith, whole, length-take c.args.n c.args.path.now)
