-- `listing::ending_for` meets its contract.
use Rattle.listing.proofs.Endings.{ends-refused, ends-ended, ends_open}
use Rattle.listing.proofs.ending_for.Goals as goal

pub returns-then-refusal-ne0 : goal.returns-then-refusal-ne0
returns-then-refusal-ne0 c = search ends-refused

pub returns-then-ended : goal.returns-then-ended
returns-then-ended c = search ends-ended

pub returns : goal.returns
returns c = search ends_open
