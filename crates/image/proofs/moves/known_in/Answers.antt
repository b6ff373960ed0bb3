-- `image::moves::known_in` meets its contract.
use native.Mathlib.Omega.{arith}
use Rattle.image.proofs.Writes.{rows-inside, few-used, known-begin, known-turn}
use Rattle.image.proofs.moves.known_in.Goals as goal

pub invariant_of-slots : goal.invariant_of-slots
invariant_of-slots c = record { inside = rows-inside c.args.image.now c.requires.0 c.args.used c.requires.1 }

-- the times of the first k rows are counted, at most two of each

pub loop-k-init : goal.loop-k-init
loop-k-init c = (omega arith, known-begin _)

pub overflow_add-total : goal.overflow_add-total
overflow_add-total c = let u = few-used c.args.image.now c.requires.0 c.args.used c.requires.1 in omega arith

pub loop-k-preserved : goal.loop-k-preserved
loop-k-preserved c = (
  omega arith,
  known-turn c.args.image.now c.requires.0 c.args.used c.requires.1 c.loop-k.k (omega arith) c.loop-k.invariant.1 c.row.ensures.bytes c.known_times-total.ensures.0,
)
