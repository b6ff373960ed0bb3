-- `reader::Reader::restore` meets its contract.
use Rattle.table.specs.Memory.{Memories, memories}
use Rattle.reader.proofs.Kept.{restore-unfit, restore-goes, restored-room}
use mathlib.Core.Path.{ap}
use mathlib.Core.Bool.{not}
use Rattle.reader.proofs.Reader.restore.Goals as goal

pub returns-then-not-is_index : goal.returns-then-not-is_index
returns-then-not-is_index c =
    let memory : Memories = memories c.args.table.now c.args.index.now in
    restore-unfit c.args.saved.now memory c.is_index.ensures c.fresh.result c.fresh_board.result c.ready.result (ap not c.if-not-is_index.true) c.fresh.ensures c.fresh_board.ensures c.ready.ensures

pub index_rows-requires : goal.index_rows-requires
index_rows-requires c =
    let memory : Memories = memories c.args.table.now c.args.index.now in
    restored-room c.args.saved.now memory c.is_index.ensures _ c.restore-back.result (ap not c.if-not-is_index.false) c.restore-back.ensures

pub returns : goal.returns
returns c =
    let memory : Memories = memories c.args.table.now c.args.index.now in
    restore-goes c.args.saved.now memory c.is_index.ensures (memories _ _) c.restore-back.result c.restored_line.result c.ready-2.result (ap not c.if-not-is_index.false) c.restore-back.ensures c.index_rows.ensures c.restored_line.ensures c.ready-2.ensures
