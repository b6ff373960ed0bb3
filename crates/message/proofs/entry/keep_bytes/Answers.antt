-- `message::entry::keep_bytes` meets its contract.
use borrow.Author.Rules.{rules}
use Rattle.message.proofs.Tested.{entry-rules}
use Rattle.message.proofs.entry.keep_bytes.Goals as goal

pub returns : goal.returns
returns c = search (entry-rules, rules)
