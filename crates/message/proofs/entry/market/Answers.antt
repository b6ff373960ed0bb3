-- `message::entry::market` meets its contract.
use borrow.Author.Rules.{rules}
use Rattle.message.proofs.Puts.{market-put}
use Rattle.message.proofs.entry.market.Goals as goal

pub returns : goal.returns
returns c = search (market-put, rules)
