-- `field::Number::write` of a `u32` meets its contract.
use borrow.Author.Rules.{rules}
use Rattle.field.proofs.Numbers.{write-joins}
use Rattle.field.proofs.U32Number.write.Goals as goal

pub returns : goal.returns
returns c = search (write-joins 2 2, rules)
