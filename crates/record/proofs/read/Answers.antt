-- `record::read` meets its contract.
use borrow.Author.Rules.{rules}
use Rattle.record.proofs.Ways.{read-long, read-yes, read_no}
use Rattle.record.proofs.read.Goals as goal

pub returns-then-memory-ne-RECORD_SIZE : goal.returns-then-memory-ne-RECORD_SIZE
returns-then-memory-ne-RECORD_SIZE c = search (read-long, rules)

pub returns-then-refusal-ne0 : goal.returns-then-refusal-ne0
returns-then-refusal-ne0 c = search (read_no, rules)

pub returns : goal.returns
returns c = search (read-yes, rules)
