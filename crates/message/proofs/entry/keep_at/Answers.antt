-- `message::entry::keep_at` meets its contract.
use borrow.Author.Rules.{rules}
use Rattle.message.proofs.Tested.{entry-no-symbol, entry-no-underlying, entry-tested}
use Rattle.message.proofs.entry.keep_at.Goals as goal

pub returns-then-not-is_text : goal.returns-then-not-is_text
returns-then-not-is_text c = search (entry-no-symbol, rules)

pub returns-then-not-is_text-2 : goal.returns-then-not-is_text-2
returns-then-not-is_text-2 c = search (entry-no-underlying, rules)

pub returns : goal.returns
returns c = search (entry-tested, rules)
