-- What our own calls made, they made so in each turn.
use Rattle.table.specs.Memory.{memories}
use Rattle.demands.specs.Sound.{Ours}
use Rattle.toplist.proofs.session.read_all.Given as goal

abbrev pub invariant-loop : goal.invariant-loop
invariant-loop l = Ours l.fn.reader (memories l.fn.table l.fn.index) → Ours l.heard.reader (memories l.table l.index)
