-- `message::take::end_of_replay` meets its contract.
use borrow.Author.Rules.{rules}
use Rattle.message.proofs.Ways.{number-taken, no-number-taken}
use Rattle.message.proofs.take.end_of_replay.Goals as goal

pub returns-in-Some : goal.returns-in-Some
returns-in-Some c = search (number-taken, rules)

pub returns-in-None : goal.returns-in-None
returns-in-None c = search (no-number-taken, rules)
