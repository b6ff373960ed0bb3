-- `row::wire::put_short_both` meets its contract.
use Rattle.row.proofs.Puts.{both-put, both-timed}
use Rattle.row.proofs.wire.put_short_both.Goals as goal

pub returns : goal.returns
returns c =
    both-timed c.args.row.now _ _ _ _ (both-put c.args.row.now _ _ c.sides-seen.result c.sides-seen.ensures c.seen_with.ensures c.seen_with-2.ensures c.write.ensures c.put_short.ensures c.put_short-2.ensures) c.put_times.ensures
