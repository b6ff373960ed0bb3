-- `handle::read_head` meets its contract.
use Rattle.handle.proofs.Ways.{head_read}
use Rattle.handle.proofs.read_head.Goals as goal

pub returns : goal.returns
returns c =
    head_read c.args.bytes.now c.requires c.bytes.ensures c.read.ensures c.read-2.ensures c.read-3.ensures c.read-4.ensures
    c.read-5.ensures c.read-6.ensures c.read-7.ensures c.read-8.ensures c.read-9.ensures
