-- `block::column_sum` meets its contract.
use Prim.Native.Nat.{◌-◌, ◌*◌, ◌≤◌}
use Rattle.block.specs.Shapes.{strips}
use Rattle.block.proofs.Columns.{Runs}
use Rattle.block.proofs.column_sum.Given as goal

abbrev pub invariant-loop-strip : goal.invariant-loop-strip
invariant-loop-strip l =
    Runs l.s l.at l.strip l.bytes l.sums × (l.bytes ≤ (strips - l.strip) * 255) × (l.sums ≤ (strips - l.strip) * (strips * 255))
