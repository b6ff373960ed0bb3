-- `listing::word_alone` meets its contract.
use borrow.Author.Rules.{rules}
use Rattle.listing.proofs.Puts.{word_line}
use Rattle.listing.proofs.word_alone.Goals as goal

pub returns : goal.returns
returns c = word_line _ _ (search rules) c.requires c.copy.ensures c.write.ensures
