-- `record::wire::system_event` meets its contract.
use borrow.Author.Rules.{rules}
use Rattle.record.proofs.Moved.{event-moved}
use Rattle.record.proofs.wire.system_event.Goals as goal

pub returns : goal.returns
returns c = search (event-moved, rules)
