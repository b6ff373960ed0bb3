-- `reader::deliver::test` meets its contract.
use borrow.Author.Rules.{rules}
use Rattle.message.proofs.Tested.{is-quote, no-quote}
use Rattle.reader.proofs.Delivered.{checked-by}
use Rattle.reader.proofs.deliver.test.Goals as goal

pub quote-requires : goal.quote-requires
quote-requires c = search (is-quote, rules)

pub rarer-requires : goal.rarer-requires
rarer-requires c = search (no-quote, rules)

pub returns-in-Some : goal.returns-in-Some
returns-in-Some c = search (checked-by, rules)

pub returns-in-None : goal.returns-in-None
returns-in-None c = search (checked-by, rules)
