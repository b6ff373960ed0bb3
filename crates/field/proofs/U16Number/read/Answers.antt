-- `field::Number::read` of a `u16` meets its contract.
use borrow.Author.Rules.{rules}
use Rattle.field.proofs.Numbers.{read-joins}
use Rattle.field.proofs.U16Number.read.Goals as goal

pub returns : goal.returns
returns c = search (read-joins 1 1, rules)
