-- The reader stands in the piece, as far as the runs so far have led it.
use Rattle.std.proofs.Common.{◌-◌, ◌≤◌, length}
use Rattle.table.specs.Memory.{memories}
use Rattle.demands.specs.Sound.{Ours}
use Rattle.toplist.proofs.Feeding.{Along}
use Rattle.toplist.proofs.session.feed.Given as goal

abbrev pub invariant-loop : goal.invariant-loop
invariant-loop l = record {
  within : l.reached.at ≤ length l.piece;
  along : Ours l.fn.reader (memories l.fn.table l.fn.index)
      → Along l.fn.reader (memories l.fn.table l.fn.index) l.piece l.reached (memories l.table l.index) (length l.piece - l.counter);
}
