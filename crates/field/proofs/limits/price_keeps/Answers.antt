-- `field::limits::price_keeps` meets its contract.
use borrow.Author.Rules.{rules}
use Rattle.field.proofs.Numbers.{price-first}
use Rattle.field.proofs.limits.price_keeps.Goals as goal

pub returns : goal.returns
returns c = search (price-first, rules)
