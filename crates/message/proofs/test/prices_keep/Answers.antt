-- `message::test::prices_keep` meets its contract.
use borrow.Author.Rules.{rules}
use Rattle.message.proofs.Tested.{prices-short, prices-first, prices-one, prices-two, room-one, room-two}
use Rattle.message.proofs.test.prices_keep.Goals as goal

pub returns-then-letter-ge97 : goal.returns-then-letter-ge97
returns-then-letter-ge97 c = search (prices-short, rules)

pub price_keeps-requires : goal.price_keeps-requires
price_keeps-requires c = search (room-one, rules)

pub returns-then-not-price_keeps : goal.returns-then-not-price_keeps
returns-then-not-price_keeps c = search (prices-first, rules)

pub returns-then-letter-ne81 : goal.returns-then-letter-ne81
returns-then-letter-ne81 c = search (prices-one, rules)

pub price_keeps-requires-2 : goal.price_keeps-requires-2
price_keeps-requires-2 c = search (room-two, rules)

pub returns : goal.returns
returns c = search (prices-two, rules)
