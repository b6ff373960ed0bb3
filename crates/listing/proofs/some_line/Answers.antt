-- `listing::some_line` meets its contract.
use Rattle.field.specs.Bytes.{part}
use Rattle.listing.proofs.Puts.{line_as, line-next, line_row, line-last}
use Rattle.listing.proofs.some_line.Goals as goal

pub returns-then-k-eq0 : goal.returns-then-k-eq0
returns-then-k-eq0 c = line_as _ _ _ (line-next _ _ _ _ _ c.if-k-eq0.true) c.next_line.ensures

pub returns-then-k-rows : goal.returns-then-k-rows
unfolding part
returns-then-k-rows c = line_as _ _ _ (line_row _ _ _ _ _ c.if-k-eq0.false c.if-k-rows.true) c.row_line.ensures

pub returns : goal.returns
returns c = line_as _ _ _ (line-last _ _ _ _ _ c.if-k-eq0.false c.if-k-rows.false) c.last_line.ensures
