-- `row::moves::knows_time` meets its contract.
use Rattle.row.specs.Moves.{knows_time}
use Rattle.row.proofs.moves.knows_time.Goals as goal

pub returns : goal.returns
unfolding knows_time
returns c = rw (c.has_seen.ensures, c.sides.ensures, c.side_time.ensures)
