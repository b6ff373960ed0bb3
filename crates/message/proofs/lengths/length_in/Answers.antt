-- `message::lengths::length_in` meets its contract: what is passed of the table does not have the letter.
use mathlib.Core.Path.{◌≡◌, sym, ◌∙◌}
use Prim.Native.Nat.{◌+◌, ◌*◌, ◌<◌, ◌≤◌}
use native.Mathlib.Omega.{arith}
use lib.ListN.{length}
use borrow.Author.Rules.{rules}
use Rattle.message.proofs.Feeds.{length-here, length-on, length_none}
use Rattle.message.proofs.lengths.length_in.Goals as goal

pub returns-then-table-i : goal.returns-then-table-i
returns-then-table-i c =
    let at = c.loop-i in
    let h : 2 * at.i + 1 < length c.args.table.now = search rules in
    sym (at.invariant ∙ length-here _ _ (2 * at.i) h c.if-table-i.true)

pub loop-i-preserved : goal.loop-i-preserved
loop-i-preserved c =
    let at = c.loop-i in
    let h : 2 * at.i + 1 < length c.args.table.now = search rules in
    let e : 2 * (at.i + 1) ≡ 2 * at.i + 2 = omega arith in
    rw e (at.invariant ∙ length-on _ _ (2 * at.i) h c.if-table-i.false)

pub returns : goal.returns
returns c =
    let at = c.loop-i in
    let h : length c.args.table.now ≤ 2 * at.i + 1 = search rules in
    sym (at.invariant ∙ length_none _ _ (2 * at.i) h)
