-- `record::wire::middle` meets its contract.
use borrow.Author.Rules.{rules}
use Rattle.record.proofs.Moved.{middle-moved}
use Rattle.record.proofs.wire.middle.Goals as goal

pub returns : goal.returns
returns c = search (middle-moved, rules)
