-- `row::wire::put_short` meets its contract.
use Rattle.row.proofs.Wired.{short-wired}
use Rattle.row.proofs.wire.put_short.Goals as goal

pub returns : goal.returns
returns c =
    short-wired c.args.row.now c.args.bytes.now c.args.at c.args.from c.requires.0 c.read.ensures c.write.ensures c.read-2.ensures c.ten_thousandths.ensures c.write-2.ensures c.read-3.ensures c.write-3.ensures c.read-4.ensures c.write-4.ensures c.read-5.ensures c.write-5.ensures
