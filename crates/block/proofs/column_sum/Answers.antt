-- `block::column_sum` meets its contract.
use borrow.Author.Rules.{rules}
use native.Mathlib.Omega.{arith}
use Rattle.block.proofs.Columns.{runs_none, runs-turn, runs-whole, weighed}
use Rattle.block.proofs.column_sum.Goals as goal

pub loop-strip-init : goal.loop-strip-init
loop-strip-init c = (runs_none _ _, search rules, search rules)

pub loop-strip-preserved : goal.loop-strip-preserved
loop-strip-preserved c =
    let a = c.args in
    let l = c.loop-strip in
    let runs = runs-turn a.s.now a.at l.strip l.bytes l.sums (search rules) (search rules) (omega arith) c.read.ensures l.invariant.0 in
    (runs, omega arith, omega arith)

pub overflow_mul-result : goal.overflow_mul-result
overflow_mul-result c =
    let q = weighed c.args.weight c.loop-strip.bytes (search rules) (omega arith) in
    omega arith

pub overflow_add-result : goal.overflow_add-result
overflow_add-result c =
    let q = weighed c.args.weight c.loop-strip.bytes (search rules) (omega arith) in
    omega arith

pub returns : goal.returns
returns c =
    let a = c.args in
    let l = c.loop-strip in
    runs-whole a.s.now a.at l.strip a.weight l.bytes l.sums (omega arith) l.invariant.0
