-- `field::Number::write` of a `u16` meets its contract.
use borrow.Author.Rules.{rules}
use Rattle.field.proofs.Numbers.{write-joins}
use Rattle.field.proofs.U16Number.write.Goals as goal

pub returns : goal.returns
returns c = search (write-joins 1 1, rules)
