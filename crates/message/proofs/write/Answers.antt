-- `message::write` meets its contract.
use borrow.Author.Tests.{not-true, not-false}
use borrow.Author.Rules.{rules}
use Rattle.message.proofs.Ways.{write-broken, write-short, write-whole}
use Rattle.message.proofs.write.Goals as goal

pub returns-then-not-keep : goal.returns-then-not-keep
returns-then-not-keep c = search (write-broken, not-true, rules)

pub returns-then-out-size : goal.returns-then-out-size
returns-then-out-size c = search (write-short, not-false, rules)

pub returns : goal.returns
returns c = search (write-whole, not-false, rules)
