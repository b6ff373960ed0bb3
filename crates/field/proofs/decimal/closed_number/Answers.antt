-- `field::decimal::closed_number` meets its contract.
use borrow.Author.Rules.{rules}
use Rattle.field.proofs.Decimals.{closed_none, closed-zero, closed_rest}
use Rattle.field.proofs.decimal.closed_number.Goals as goal

pub returns-then-k-eq0 : goal.returns-then-k-eq0
returns-then-k-eq0 c = search (closed_none, rules)

pub returns-then-s-at-eq48 : goal.returns-then-s-at-eq48
returns-then-s-at-eq48 c = search (closed-zero, rules)

pub returns : goal.returns
returns c = search (closed_rest, rules)
