-- `field::decimal::number_before_spaces` meets its contract. The first k characters are digits, and v is what they write.
use borrow.Author.Rules.{rules}
use native.Mathlib.Omega.{arith}
use mathlib.Core.Path.{◌≡◌}
use Rattle.field.specs.Bytes.{part}
use Rattle.field.specs.Decimal.{Leads}
use Rattle.field.proofs.Decimals.{leads-low, leads-all, before-high, before-past, digits-none, digits_more, value_none, value-more}
use Rattle.field.proofs.decimal.number_before_spaces.Goals as goal

pub loop-k-init : goal.loop-k-init
loop-k-init c = search (rules, value_none, digits-none)

pub closed_number-requires : goal.closed_number-requires
closed_number-requires c = search (rules, leads-low)

pub returns-then-c-gt57 : goal.returns-then-c-gt57
returns-then-c-gt57 c = search (before-high, rules)

pub returns-then-v-gt-HIGHEST_NUMBER : goal.returns-then-v-gt-HIGHEST_NUMBER
returns-then-v-gt-HIGHEST_NUMBER c = search (before-past, value-more, digits_more, rules)

pub loop-k-preserved : goal.loop-k-preserved
loop-k-preserved c = search (rules, value-more, digits_more)

pub closed_number-requires-2 : goal.closed_number-requires-2
closed_number-requires-2 c =
    let l : Leads (part c.args.s.now c.args.at c.args.n) c.loop-k.k c.loop-k.v = search (rules, leads-all) in
    let e : c.loop-k.k ≡ c.args.n = omega arith in
    (search rules, omega arith, rw e at l)
