-- `field::decimal::digit_count` meets its contract. What is left has as many digits as are not counted yet, and one more.
use Prim.Native.Nat.{◌/◌}
use native.Mathlib.Omega.{arith}
use borrow.Author.Rules.{rules}
use Rattle.field.proofs.Decimals.{count-one, count-more, count_most, count-some}
use Rattle.field.proofs.decimal.digit_count.Goals as goal

pub loop-rest-init : goal.loop-rest-init
loop-rest-init c = (count_most c.args.v 19 (search rules), omega arith, count-some c.args.v)

pub loop-rest-preserved : goal.loop-rest-preserved
loop-rest-preserved c = let rest = c.loop-rest.rest in (search rules, omega (arith, count-more rest c.loop-rest-test.true), count-some (rest / 10))

pub returns : goal.returns
returns c = omega (arith, count-one c.loop-rest.rest (search rules))
