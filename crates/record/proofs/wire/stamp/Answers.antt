-- `record::wire::stamp` meets its contract.
use borrow.Author.Rules.{rules}
use Rattle.record.proofs.Moved.{stamp-moved}
use Rattle.record.proofs.wire.stamp.Goals as goal

pub returns : goal.returns
returns c = search (stamp-moved, rules)
