-- `listing::put_state` meets its contract.
use borrow.Author.Rules.{rules}
use Rattle.listing.proofs.Puts.{state-put}
use Rattle.listing.proofs.put_state.Goals as goal

pub returns : goal.returns
returns c = state-put _ _ _ c.requires.0 (search rules) c.state.ensures c.state_mark-state.ensures c.write.ensures c.write-2.ensures
