-- `message::take::quote` meets its contract.
use native.Mathlib.Omega.{arith}
use Prim.Native.Nat.{◌+◌, ◌*◌}
use Rattle.message.specs.Layout.{values}
use Rattle.message.proofs.Widths.{numbers-at}
use Rattle.message.proofs.take.quote.Goals as goal

pub returns : goal.returns
unfolding values
returns g c i =
    record {
      stamp = c.stamp.ensures i;
      id = c.read.ensures i;
      condition = c.condition.ensures i;
      bid = c.read-2.ensures i;
      ask = numbers-at g.T.Number.width g.T.Width.form.keeps c.args.bytes.now (16 + 5 * g.T.Number.width) c.read-3.ensures (omega arith) i;
    }
