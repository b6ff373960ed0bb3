-- `listing::last_line` meets its contract.
use Rattle.listing.proofs.Puts.{line_as, last_ok, last_end, last-refused}
use Rattle.listing.proofs.last_line.Goals as goal

pub returns-in-RanOut : goal.returns-in-RanOut
returns-in-RanOut c = line_as _ _ _ (last_ok _ c.in-RanOut.is) c.word_alone.ensures

pub returns-in-Ended : goal.returns-in-Ended
returns-in-Ended c = line_as _ _ _ (last_end _ c.in-Ended.is) c.word_alone-in-Ended.ensures

pub returns-in-Refused : goal.returns-in-Refused
returns-in-Refused c = line_as _ _ _ (last-refused _ _ c.in-Refused.is) c.word_and_number.ensures
