-- `field::decimal::write_number_before_spaces` meets its contract.
use borrow.Author.Rules.{rules}
use Rattle.field.proofs.Decimals.{written-before}
use Rattle.field.proofs.decimal.write_number_before_spaces.Goals as goal

pub returns : goal.returns
returns c = search (written-before, rules)
