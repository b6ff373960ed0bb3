-- `packet::login` meets its contract.
use borrow.Author.Rules.{rules}
use Rattle.packet.proofs.Ways.{login-bad, login-yes, login-no}
use Rattle.packet.proofs.login.Goals as goal

pub returns-in-None : goal.returns-in-None
returns-in-None c = search (login-bad, rules)

pub returns-in-Some : goal.returns-in-Some
returns-in-Some c = search (login-yes, rules)

pub returns-in-Some-2 : goal.returns-in-Some-2
returns-in-Some-2 c = search (login-no, rules)
