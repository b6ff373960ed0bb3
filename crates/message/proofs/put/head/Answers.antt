-- `message::put::head` meets its contract.
use borrow.Author.Rules.{rules}
use Rattle.message.proofs.Puts.{head-put}
use Rattle.message.proofs.put.head.Goals as goal

pub returns : goal.returns
returns c = search (head-put, rules)
