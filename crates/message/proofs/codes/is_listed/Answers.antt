-- `message::codes::is_listed` meets its contract: what is passed of the list does not have the code.
use mathlib.Core.Path.{sym, ◌∙◌}
use borrow.Author.Rules.{rules}
use Rattle.message.proofs.Table.{listed_here, listed-on, listed-none}
use Rattle.message.proofs.codes.is_listed.Goals as goal

pub returns-then-c-code : goal.returns-then-c-code
returns-then-c-code c = let at = c.loop-c in sym (at.invariant.1 ∙ listed_here _ _ at.c-index (search rules) c.if-c-code.true)

pub loop-c-preserved : goal.loop-c-preserved
loop-c-preserved c = let at = c.loop-c in (search rules, at.invariant.1 ∙ listed-on _ _ at.c-index (search rules) c.if-c-code.false)

pub returns : goal.returns
returns c = let at = c.loop-c in sym (at.invariant.1 ∙ listed-none _ _ at.c-index (search rules))
