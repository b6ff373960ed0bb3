-- `reader::goes_on` meets its contract.
use borrow.Author.Rules.{rules}
use Rattle.reader.proofs.Steps.{lives-refused, lives-unless}
use Rattle.reader.proofs.goes_on.Goals as goal

pub returns-then-refusal-ne0 : goal.returns-then-refusal-ne0
returns-then-refusal-ne0 c = search (lives-refused, rules)

pub returns : goal.returns
returns c = search (lives-unless, rules)
