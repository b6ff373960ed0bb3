-- `record::wire::directory` meets its contract.
use Rattle.record.proofs.Moved.{directory-moved}
use Rattle.record.proofs.wire.directory.Goals as goal

pub returns : goal.returns
returns c =
    directory-moved c.args.out.now c.args.bytes.now c.stamp.ensures c.terms.ensures c.middle.ensures c.marks.ensures
