-- `row::wire::put_long_both` meets its contract.
use Rattle.row.proofs.Puts.{both-timed}
use Rattle.row.proofs.Wired.{both-late}
use Rattle.row.proofs.wire.put_long_both.Goals as goal

pub returns : goal.returns
returns c =
    both-timed c.args.row.now _ _ _ _ (both-late c.args.row.now _ _ c.sides-seen.result c.requires.0 c.sides-seen.ensures c.carry_long.ensures c.carry_long-2.ensures c.seen_with.ensures c.seen_with-2.ensures c.write.ensures) c.put_times.ensures
