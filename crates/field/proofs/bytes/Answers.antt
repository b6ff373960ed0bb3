-- `field::bytes` meets its contract.
use Rattle.std.proofs.Common.{rules, arith, ◌≡◌, length, replicate, zero-add, sym, ◌∙◌}
use Rattle.std.proofs.lemmas.List.{length-replicate}
use Rattle.field.specs.Bytes.{part}
use Rattle.field.proofs.Parts.{copy-turn, part_none, overlay-none, overlay-whole, part_length}
use Rattle.field.proofs.bytes.Goals as goal

pub loop-k-init : goal.loop-k-init
loop-k-init g c = rw (part_none, overlay-none)

pub loop-k-preserved : goal.loop-k-preserved
loop-k-preserved g c =
    let t = copy-turn (replicate g.row.N 0) 0 c.args.s.now c.args.at c.loop-k.k (search (rules, length-replicate)) (search rules) in
    rw c.loop-k.invariant (rw zero-add at t)

pub returns : goal.returns
returns g c =
    let e : c.loop-k.k ≡ g.row.N = omega arith in
    let l : length (part c.args.s.now c.args.at g.row.N) ≡ length (replicate g.row.N 0) = part_length c.args.s.now c.args.at g.row.N (search rules) ∙ sym (length-replicate g.row.N 0) in
    rw (c.loop-k.invariant, e) (overlay-whole (replicate g.row.N 0) (part c.args.s.now c.args.at g.row.N) l)
