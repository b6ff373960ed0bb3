-- `message::read` meets its contract.
use borrow.Author.Rules.{rules}
use Rattle.message.proofs.Ways.{read-empty, read-unknown, read-long, read-judged}
use Rattle.message.proofs.read.Goals as goal

pub returns-then-bytes-eq0 : goal.returns-then-bytes-eq0
returns-then-bytes-eq0 c = search (read-empty, rules)

pub returns-in_default : goal.returns-in_default
returns-in_default c = search (read-unknown, rules)

pub returns-then-bytes-size : goal.returns-then-bytes-size
returns-then-bytes-size c = search (read-long, rules)

pub returns : goal.returns
returns c = search (read-judged, rules)
