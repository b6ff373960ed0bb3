-- `field::decimal::unpadded_number` meets its contract.
use borrow.Author.Rules.{rules}
use Rattle.field.proofs.Decimals.{number-empty, number-spaced, number-unspaced}
use Rattle.field.proofs.decimal.unpadded_number.Goals as goal

pub returns-then-n-eq0 : goal.returns-then-n-eq0
returns-then-n-eq0 c = search (number-empty, rules)

pub returns-then-s-at-eq32 : goal.returns-then-s-at-eq32
returns-then-s-at-eq32 c = search (number-spaced, rules)

pub returns : goal.returns
returns c = search (number-unspaced, rules)
