-- `handle::put_numbers` meets its contract.
use Rattle.handle.proofs.Ways.{numbers-put}
use Rattle.handle.proofs.put_numbers.Goals as goal

pub returns : goal.returns
returns c =
    numbers-put c.args.out.now c.args.h c.requires c.write.ensures c.write-2.ensures c.write-3.ensures c.write-4.ensures
