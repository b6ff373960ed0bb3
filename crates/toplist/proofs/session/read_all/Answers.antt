-- However the loop ends, what our own calls made, they made so.
use Rattle.toplist.proofs.session.read_all.Goals as goal
use Rattle.toplist.proofs.session.read_all.Goals.{else-loop-test, then-loop-test+then-not-takes_more, then-loop-test+else-not-takes_more+then-is_over}

pub returns : goal.returns
returns c o =
    elim c.loop-test.branch [
      | else-loop-test w ↦ rw (w.heard-is, w.table-is, w.index-is) (c.loop.invariant o)
      | then-loop-test+then-not-takes_more w ↦ rw (w.heard-is, w.table-is, w.index-is) (c.loop.invariant o)
      | then-loop-test+else-not-takes_more+then-is_over w ↦ rw (w.heard-is, w.table-is, w.index-is) (w.read_some-brought.ensures (c.loop.invariant o))
    ]
