-- `field::Number::read` of a `u64` meets its contract.
use borrow.Author.Rules.{rules}
use Rattle.field.proofs.Numbers.{read-joins}
use Rattle.field.proofs.U64Number.read.Goals as goal

pub returns : goal.returns
returns c = search (read-joins 4 4, rules)
