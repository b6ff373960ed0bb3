-- `listing::word_and_number` meets its contract.
use borrow.Author.Rules.{rules}
use Rattle.listing.proofs.Puts.{number-line}
use Rattle.listing.proofs.word_and_number.Goals as goal

pub returns : goal.returns
returns c = number-line _ _ (search rules) c.requires c.copy.ensures _ c.number-end.ensures c.write.ensures
