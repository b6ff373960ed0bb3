-- `message::put::directory` meets its contract.
use borrow.Author.Rules.{rules}
use Rattle.field.specs.Bytes.{part}
use Rattle.message.proofs.Puts.{directory-put}
use Rattle.message.proofs.put.directory.Goals as goal

pub returns : goal.returns
unfolding part
returns c = search (directory-put, rules)
