-- `table::rows_fit` meets its contract.
use Rattle.table.proofs.rows_fit.Goals as goal

pub returns : goal.returns
returns c = rw c.is_table.ensures
