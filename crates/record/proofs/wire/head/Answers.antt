-- `record::wire::head` meets its contract.
use borrow.Author.Rules.{rules}
use Rattle.record.proofs.Moved.{head-moved}
use Rattle.record.proofs.wire.head.Goals as goal

pub returns : goal.returns
returns c = search (head-moved, rules)
