-- `message::judge::directory` meets its contract.
use borrow.Author.Rules.{rules}
use Rattle.field.specs.Bytes.{part}
use Rattle.message.proofs.Ways.{directory-yes, directory-no}
use Rattle.message.proofs.judge.directory.Goals as goal

pub returns-then-keep_directory : goal.returns-then-keep_directory
unfolding part
returns-then-keep_directory c = search (directory-yes, rules)

pub returns : goal.returns
unfolding part
returns c = search (directory-no, rules)
