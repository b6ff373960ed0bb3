-- `message::entry::terms` meets its contract.
use borrow.Author.Rules.{rules}
use Rattle.message.proofs.Puts.{terms-put}
use Rattle.message.proofs.entry.terms.Goals as goal

pub returns : goal.returns
returns c = search (terms-put, rules)
