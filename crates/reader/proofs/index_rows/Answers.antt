-- `reader::index_rows` meets its contract.
use Rattle.reader.proofs.Kept.{index-built}
use Rattle.reader.proofs.index_rows.Goals as goal

pub returns-then-is_ok : goal.returns-then-is_ok
returns-then-is_ok c = index-built _ _ _ _ c.is_ok.ensures.value c.if-is_ok.true c.build.ensures
