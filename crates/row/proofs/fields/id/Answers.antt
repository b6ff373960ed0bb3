-- `row::fields::id` meets its contract.
use borrow.Author.Rules.{rules}
use Rattle.row.proofs.Puts.{id-read}
use Rattle.row.proofs.fields.id.Goals as goal

pub returns : goal.returns
returns c = search (id-read, rules)
