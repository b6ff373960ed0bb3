-- `row::fields::side_time` meets its contract.
use borrow.Author.Rules.{rules}
use Rattle.row.proofs.Puts.{time-read}
use Rattle.row.proofs.fields.side_time.Goals as goal

pub returns : goal.returns
returns c = search (time-read, rules)
