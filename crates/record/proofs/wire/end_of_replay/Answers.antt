-- `record::wire::end_of_replay` meets its contract.
use borrow.Author.Rules.{rules}
use Rattle.record.proofs.Moved.{end_moved}
use Rattle.record.proofs.wire.end_of_replay.Goals as goal

pub returns : goal.returns
returns c = search (end_moved, rules)
