-- `message::test::quote` meets its contract.
use borrow.Author.Rules.{rules}
use Rattle.message.proofs.Tested.{room-head, room-time, quote-long, quote-time, quote-condition, quote-prices, quote-kept}
use Rattle.message.proofs.test.quote.Goals as goal

pub returns-then-bytes-size : goal.returns-then-bytes-size
returns-then-bytes-size c = search (quote-long, rules)

pub time_keeps-requires : goal.time_keeps-requires
time_keeps-requires c = search (room-time, rules)

pub returns-then-not-time_keeps : goal.returns-then-not-time_keeps
returns-then-not-time_keeps c = search (quote-time, rules)

pub read-requires : goal.read-requires
read-requires c = search (room-head, rules)

pub returns-then-not-is_condition : goal.returns-then-not-is_condition
returns-then-not-is_condition c = search (quote-condition, rules)

pub returns-then-not-prices_keep : goal.returns-then-not-prices_keep
returns-then-not-prices_keep c = search (quote-prices, rules)

pub returns : goal.returns
returns c = search (quote-kept, rules)
