-- `image::facts::read` meets its contract.
use Rattle.image.proofs.Beside.{header_read}
use Rattle.image.proofs.facts.read.Goals as goal

pub returns : goal.returns
returns c = header_read c.args.image.now c.bytes.ensures c.read.ensures c.read_head.ensures c.read-2.ensures c.read-3.ensures c.read-4.ensures
