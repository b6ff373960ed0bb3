-- `listing::number` meets its contract.
use Rattle.listing.proofs.Puts.{number_put}
use Rattle.listing.proofs.number.Goals as goal

pub returns : goal.returns
returns c = number_put _ _ _ c.digit_count-n.ensures.count c.digit_count-n.ensures.most c.write_digits.ensures
