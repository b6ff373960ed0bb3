-- `listing::put_price` meets its contract.
use Rattle.listing.proofs.Puts.{above-put, none-put}
use Rattle.listing.proofs.put_price.Goals as goal

pub returns-in-Some : goal.returns-in-Some
returns-in-Some c = above-put _ _ _ _ c.in-Some.is c.put_dollars.ensures

pub returns-in-None : goal.returns-in-None
returns-in-None c = none-put _ _ _ c.in-None.is c.put.ensures
