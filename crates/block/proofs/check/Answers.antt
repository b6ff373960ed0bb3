-- `block::check` meets its contract.
use borrow.Author.Rules.{rules}
use mathlib.Core.Path.{◌≡◌, refl, ap, ◌∙◌}
use Prim.Native.Nat.{ℕ, ◌+◌, ◌%◌, ◌≤◌}
use native.Mathlib.Omega.{arith}
use Rattle.block.specs.Block.{modulus, check_of}
use Rattle.block.specs.Shapes.{strip_size}
use Rattle.block.proofs.Sums.{up_to, greatest}
use Rattle.block.proofs.Columns.{summed, summed-all, summed_turn, summed-most, turn-most}
use Rattle.block.proofs.check.Goals as goal

-- the sum after a turn, by which each of its operations fits

pub loop-i-init : goal.loop-i-init
unfolding up_to
loop-i-init c = refl

pub overflow_cast-sum : goal.overflow_cast-sum
overflow_cast-sum c =
    let within : c.loop-i.sum + c.column_sum.result ≤ greatest = let a = c.args in
    let l = c.loop-i in
    turn-most a.s.now a.at (search rules) l.i (search rules) (search rules) c.column_sum.ensures l.invariant in
    let q = within in omega arith

pub overflow_add-sum : goal.overflow_add-sum
overflow_add-sum c =
    let within : c.loop-i.sum + c.column_sum.result ≤ greatest = let a = c.args in
    let l = c.loop-i in
    turn-most a.s.now a.at (search rules) l.i (search rules) (search rules) c.column_sum.ensures l.invariant in
    let q = within in omega arith

pub loop-i-preserved : goal.loop-i-preserved
loop-i-preserved c =
    let a = c.args in
    let l = c.loop-i in
    summed_turn a.s.now a.at (search rules) l.i c.column_sum.ensures l.invariant

pub overflow_cast-result : goal.overflow_cast-result
overflow_cast-result c =
    let a = c.args in
    let l = c.loop-i in
    let q = summed-most a.s.now a.at (search rules) l.i (search rules) (search rules) in
    let e = l.invariant in
    omega arith

pub returns : goal.returns
unfolding check_of
returns c =
    let a = c.args in
    let l = c.loop-i in
    let e : l.i ≡ strip_size = omega arith in
    ap (λ (n : ℕ). n % modulus) (l.invariant ∙ ap (summed a.s.now a.at) e ∙ summed-all a.s.now a.at (search rules))
