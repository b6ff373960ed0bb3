-- `message::numbers::carry_long` meets its contract.
use borrow.Author.Rules.{rules}
use Rattle.message.proofs.Puts.{long-carried}
use Rattle.message.proofs.numbers.carry_long.Goals as goal

pub returns : goal.returns
returns c = search (long-carried, rules)
