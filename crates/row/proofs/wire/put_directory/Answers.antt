-- `row::wire::put_directory` meets its contract.
use borrow.Author.Rules.{rules}
use Rattle.row.proofs.Wired.{directory-wired, directory-wired-kept}
use Rattle.row.proofs.wire.put_directory.Goals as goal

pub returns-then-read-eq78 : goal.returns-then-read-eq78
returns-then-read-eq78 c = search (directory-wired, rules)

pub returns-else-read-eq78 : goal.returns-else-read-eq78
returns-else-read-eq78 c = search (directory-wired-kept, rules)
