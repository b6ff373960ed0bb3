-- `field::put` meets its contract.
use Rattle.std.proofs.Common.{rules, arith, ◌≡◌, zero-add, ap}
use Rattle.field.specs.Bytes.{overlay}
use Rattle.field.proofs.Parts.{copy-turn, part_none, overlay-none, part-whole}
use Rattle.field.proofs.put.Goals as goal

pub loop-k-init : goal.loop-k-init
loop-k-init g c = rw (part_none, overlay-none)

pub loop-k-preserved : goal.loop-k-preserved
loop-k-preserved g c =
    let t = copy-turn c.args.dst.now c.args.at c.args.from.now 0 c.loop-k.k (search rules) (search rules) in
    rw c.loop-k.invariant (rw zero-add at t)

pub returns : goal.returns
returns g c =
    let e : c.loop-k.k ≡ g.row.N = omega arith in
    rw (c.loop-k.invariant, e) (ap (overlay c.args.dst.now c.args.at) (part-whole c.args.from.now g.row.N (search rules)))
