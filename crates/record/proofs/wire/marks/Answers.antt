-- `record::wire::marks` meets its contract.
use Rattle.record.proofs.Moved.{marks-moved}
use Rattle.record.proofs.wire.marks.Goals as goal

pub returns : goal.returns
returns c =
    marks-moved c.args.out.now c.args.bytes.now c.type_inv.bytes c.requires.0 c.requires.1 c.carry.ensures c.carry-2.ensures c.carry-3.ensures
