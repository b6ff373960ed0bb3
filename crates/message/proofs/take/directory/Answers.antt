-- `message::take::directory` meets its contract.
use borrow.Author.Rules.{rules}
use Rattle.field.specs.Bytes.{part}
use Rattle.message.proofs.Ways.{directory-taken}
use Rattle.message.proofs.take.directory.Goals as goal

pub returns : goal.returns
unfolding part
returns c = search (directory-taken, rules)
