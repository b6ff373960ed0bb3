-- `row::purge` meets its contract.
use Rattle.row.proofs.Puts.{purge-put}
use Rattle.row.proofs.purge.Goals as goal

pub returns : goal.returns
returns c =
    purge-put c.args.row.now c.write.ensures c.fill.ensures c.fill-2.ensures
