-- `packet::meant` meets its contract.
use borrow.Author.Rules.{rules}
use Rattle.packet.proofs.Ways.{login-long, reason-there, meant-login, meant-rejected, meant-none, meant-message}
use Rattle.packet.proofs.meant.Goals as goal

pub login-requires : goal.login-requires
login-requires c = search (login-long, rules)

pub bounds-body-0 : goal.bounds-body-0
bounds-body-0 c = search (reason-there, rules)

pub returns-in-Message : goal.returns-in-Message
returns-in-Message c = search (meant-none, rules)

pub returns-in-LoginAccepted : goal.returns-in-LoginAccepted
returns-in-LoginAccepted c = search (meant-login, rules)

pub returns-in-LoginRejected : goal.returns-in-LoginRejected
returns-in-LoginRejected c = search (meant-rejected, rules)

pub returns-in-Message-2 : goal.returns-in-Message-2
returns-in-Message-2 c = search (meant-message, rules)
