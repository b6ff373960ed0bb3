-- `row::wire::put_short_side` meets its contract.
use Rattle.row.proofs.Puts.{side-put, one-timed}
use Rattle.row.proofs.wire.put_short_side.Goals as goal

pub returns : goal.returns
returns c =
    one-timed c.args.row.now _ _ _ _ (side-put c.args.row.now _ _ c.sides-seen.result c.sides-seen.ensures c.seen_with.ensures c.write.ensures c.side_at.ensures.place c.put_short.ensures) c.put_time.ensures
