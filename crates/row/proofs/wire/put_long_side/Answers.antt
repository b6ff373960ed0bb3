-- `row::wire::put_long_side` meets its contract.
use Rattle.row.proofs.Wired.{side-timed-late}
use Rattle.row.proofs.wire.put_long_side.Goals as goal

pub returns : goal.returns
returns c =
    side-timed-late c.args.row.now _ _ c.sides-seen.result _ c.requires.0 c.sides-seen.ensures c.side_at.ensures.place c.carry_long.ensures c.put_time.ensures c.seen_with.ensures c.write.ensures
