-- `record::back::is_low` meets its contract.
use borrow.Author.Rules.{rules}
use Rattle.record.proofs.Gaps.{low_clear}
use Rattle.record.proofs.back.is_low.Goals as goal

pub returns : goal.returns
returns c = search (low_clear, rules)
