-- `reader::told::why_back` meets its contract.
use borrow.Author.Rules.{rules}
use mathlib.Core.Path.{refl}
use Rattle.reader.specs.Running.{why_for}
use Rattle.reader.proofs.RunsBack.{why-at, why-refused}
use Rattle.reader.proofs.told.why_back.Goals as goal

pub returns-in-0 : goal.returns-in-0
unfolding why_for
returns-in-0 c = search (why-at, rules, refl)

pub returns-in-7 : goal.returns-in-7
unfolding why_for
returns-in-7 c = search (why-at, rules, refl)

pub returns-in-9 : goal.returns-in-9
unfolding why_for
returns-in-9 c = search (why-at, rules, refl)

pub returns-in_default : goal.returns-in_default
returns-in_default c = search (why-refused, rules, refl)
