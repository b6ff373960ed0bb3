-- `reader::why_stopped` meets its contract.
use borrow.Author.Rules.{rules}
use Rattle.reader.proofs.Steps.{stopped-refused, stopped-ended, stopped-ceiling}
use Rattle.reader.proofs.why_stopped.Goals as goal

pub returns-then-refusal-ne0 : goal.returns-then-refusal-ne0
returns-then-refusal-ne0 c = search (stopped-refused, rules)

pub returns-then-ended : goal.returns-then-ended
returns-then-ended c = search (stopped-ended, rules)

pub returns : goal.returns
returns c = search (stopped-ceiling, rules)
