-- `message::put::system_event` meets its contract.
use borrow.Author.Rules.{rules}
use Rattle.message.proofs.Puts.{system-event-put}
use Rattle.message.proofs.put.system_event.Goals as goal

pub returns : goal.returns
returns c = search (system-event-put, rules)
