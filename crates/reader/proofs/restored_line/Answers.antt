-- `reader::restored_line` meets its contract.
use Rattle.reader.proofs.Kept.{line_known, line-fresh}
use Rattle.reader.proofs.restored_line.Goals as goal

pub returns-then-h : goal.returns-then-h
returns-then-h c = search line_known

pub returns : goal.returns
returns c = search line-fresh
