-- `handle::copy_login` meets its contract.
use borrow.Author.Rules.{rules}
use Rattle.handle.proofs.Ways.{login-copied}
use Rattle.handle.proofs.copy_login.Goals as goal

pub returns : goal.returns
returns c = search (login-copied, rules)
