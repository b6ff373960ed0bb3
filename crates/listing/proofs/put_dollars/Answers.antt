-- `listing::put_dollars` meets its contract.
use Rattle.listing.proofs.Puts.{dollars-put}
use Rattle.listing.proofs.put_dollars.Goals as goal

pub returns : goal.returns
returns c = dollars-put _ _ _ c.requires c.number-point.ensures c.write.ensures c.write_digits.ensures
