-- `message::test::rarer` meets its contract.
use borrow.Author.Rules.{rules}
use Rattle.message.proofs.Tested.{rare-unknown, rare-long, rare-kept, rare-broken}
use Rattle.message.proofs.test.rarer.Goals as goal

pub returns-in_default : goal.returns-in_default
returns-in_default c = search (rare-unknown, rules)

pub returns-then-whole-size : goal.returns-then-whole-size
returns-then-whole-size c = search (rare-long, rules)

pub returns-then-fields_keep : goal.returns-then-fields_keep
returns-then-fields_keep c = search (rare-kept, rules)

pub returns : goal.returns
returns c = search (rare-broken, rules)
