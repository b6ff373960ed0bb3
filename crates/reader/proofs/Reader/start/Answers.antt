-- `reader::Reader::start` meets its contract.
use Rattle.table.specs.Memory.{memories}
use Rattle.reader.proofs.Kept.{started}
use Rattle.reader.proofs.Reader.start.Goals as goal

pub returns : goal.returns
returns c = started (memories c.args.table.now c.args.index.now) (memories c.start-applied.new.table c.start-applied.new.index) c.start-applied.result c.fresh.result c.ready.result c.start-applied.ensures c.fresh.ensures c.ready.ensures _ c.map_err.ensures.cases
