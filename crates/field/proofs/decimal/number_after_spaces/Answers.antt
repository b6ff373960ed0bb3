-- `field::decimal::number_after_spaces` meets its contract.
use borrow.Author.Rules.{rules}
use Rattle.field.proofs.Decimals.{after-part}
use Rattle.field.proofs.decimal.number_after_spaces.Goals as goal

pub returns : goal.returns
returns c = search (after-part, rules)
