-- `record::wire::terms` meets its contract.
use borrow.Author.Rules.{rules}
use Rattle.record.proofs.Moved.{terms-moved}
use Rattle.record.proofs.wire.terms.Goals as goal

pub returns : goal.returns
returns c =
    terms-moved c.args.out.now c.args.bytes.now c.type_inv.bytes c.requires.0 (search rules) c.carry.ensures c.carry-2.ensures c.carry-3.ensures c.carry-4.ensures
