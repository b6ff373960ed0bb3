-- `handle::put_marks` meets its contract.
use Rattle.handle.proofs.Ways.{marks-put}
use Rattle.handle.proofs.put_marks.Goals as goal

pub returns : goal.returns
returns c =
    marks-put c.args.out.now c.args.h c.requires c.from.ensures c.write.ensures c.from-2.ensures c.write-2.ensures
    c.from-3.ensures c.write-3.ensures c.write-4.ensures c.write-5.ensures
