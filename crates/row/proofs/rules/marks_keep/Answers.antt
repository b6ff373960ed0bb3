-- `row::rules::marks_keep` meets its contract.
use borrow.Author.Rules.{rules}
use Rattle.row.proofs.Puts.{marks-keep}
use Rattle.row.proofs.rules.marks_keep.Goals as goal

pub returns : goal.returns
returns c = search (marks-keep, rules)
