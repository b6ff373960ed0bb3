-- `field::text::is_text` meets its contract.
use borrow.Author.Rules.{rules}
use Rattle.field.proofs.Runs.{no-text-part, text-ends}
use Rattle.field.proofs.text.is_text.Goals as goal

pub returns-then-k-eq0 : goal.returns-then-k-eq0
returns-then-k-eq0 c = search (no-text-part, rules)

pub returns : goal.returns
returns c = search (text-ends, rules)
