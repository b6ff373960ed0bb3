-- `reader::ceiling::up_to` meets its contract.
use Rattle.field.proofs.Numbers.{Lent}
use Rattle.table.specs.Memory.{memories}
use Rattle.reader.proofs.Runs.{Along}
use Rattle.reader.proofs.ceiling.up_to.Given as goal

abbrev pub invariant-loop-finished : goal.invariant-loop-finished
invariant-loop-finished l =
    Along l.ceiling l.initial.handle (memories l.initial.table l.initial.index) l.piece l.handle (memories l.table l.index) l.taken l.finished
    × Lent l.handle
