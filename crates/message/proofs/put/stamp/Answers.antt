-- `message::put::stamp` meets its contract.
use borrow.Author.Rules.{rules}
use Rattle.message.proofs.Puts.{stamp-put}
use Rattle.message.proofs.put.stamp.Goals as goal

pub returns : goal.returns
returns c = search (stamp-put, rules)
