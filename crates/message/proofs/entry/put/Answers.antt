-- `message::entry::put` meets its contract.
use borrow.Author.Rules.{rules}
use Rattle.message.proofs.Puts.{instrument-put}
use Rattle.message.proofs.entry.put.Goals as goal

pub returns : goal.returns
returns c = search (instrument-put, rules)
