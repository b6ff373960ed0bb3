-- `listing::row_line` meets its contract.
use borrow.Author.Rules.{rules}
use Rattle.listing.proofs.Puts.{row_put}
use Rattle.listing.proofs.row_line.Goals as goal

pub returns : goal.returns
returns c = row_put _ _ (search rules) c.id-id.ensures c.number-state.ensures c.put_state-bid.ensures c.put_side-ask.ensures c.put_side-end.ensures c.write.ensures
