-- `message::test::number` meets its contract.
use borrow.Author.Rules.{rules}
use Rattle.field.specs.Bytes.{part}
use Rattle.message.proofs.Tested.{number-part}
use Rattle.message.proofs.test.number.Goals as goal

pub returns : goal.returns
unfolding part
returns c = search (number-part, rules)
