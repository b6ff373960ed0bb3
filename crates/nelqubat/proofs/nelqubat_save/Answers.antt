-- `nelqubat::nelqubat_save` meets its contract.
use borrow.Author.Rules.{rules}
use Rattle.nelqubat.proofs.Ways.{save-no-handle, save-goes, saves-fit}
use Rattle.reader.proofs.Kept.{handle-long}
use Rattle.nelqubat.proofs.nelqubat_save.Goals as goal

pub returns-then-not-is_handle : goal.returns-then-not-is_handle
returns-then-not-is_handle c = search save-no-handle

pub read-requires : goal.read-requires
read-requires c = search handle-long

pub saved_number-requires : goal.saved_number-requires
saved_number-requires c = search saves-fit

pub returns : goal.returns
returns c =
    save-goes c.args.handle.now c.args.table.now c.args.out.now c.is_handle.ensures c.read.result c.save.result _ (search rules) c.read.ensures c.save.ensures c.saved_number.ensures
