-- `record::say::numbers` meets its contract.
use Prim.Native.Nat.{◌+◌, ◌-◌}
use native.Mathlib.Omega.{arith}
use Rattle.record.proofs.Ways.{numbers-said, number-at}
use Rattle.record.proofs.say.numbers.Goals as goal

pub returns : goal.returns
returns g c =
    let w = g.T.Number.width in
    let bs = c.args.bytes.now in
    numbers-said g.T.Number.number w (c.args.at + (4 - w)) bs (number-at w bs c.read.ensures (omega arith)) (number-at w bs c.read-2.ensures (omega arith)) c.price.ensures
    (number-at w bs c.read-3.ensures (omega arith)) (number-at w bs c.read-4.ensures (omega arith)) (number-at w bs c.read-5.ensures (omega arith))
