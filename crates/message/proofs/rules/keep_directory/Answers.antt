-- `message::rules::keep_directory` meets its contract.
use borrow.Author.Rules.{rules}
use Rattle.message.proofs.Ways.{directory-keeps}
use Rattle.message.proofs.rules.keep_directory.Goals as goal

pub returns : goal.returns
returns c = search (directory-keeps, rules)
