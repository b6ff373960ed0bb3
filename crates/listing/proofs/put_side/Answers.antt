-- `listing::put_side` meets its contract.
use Rattle.listing.proofs.Puts.{side-put, unseen-put}
use Rattle.listing.proofs.put_side.Goals as goal

pub returns-then-seen : goal.returns-then-seen
returns-then-seen c = side-put _ _ _ _ c.requires.0 c.sides.ensures c.has_seen-seen.ensures c.write.ensures c.if-seen.true c.price-price.ensures c.put_price.ensures

pub returns : goal.returns
returns c = unseen-put _ _ _ _ c.requires.0 c.sides.ensures c.has_seen-seen.ensures c.write.ensures c.if-seen.false c.write-2.ensures
