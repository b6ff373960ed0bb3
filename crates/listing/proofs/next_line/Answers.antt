-- `listing::next_line` meets its contract.
use mathlib.Core.Path.{refl}
use Rattle.listing.specs.Lines.{next_line}
use Rattle.listing.proofs.Puts.{line_as}
use Rattle.listing.proofs.next_line.Goals as goal

pub returns : goal.returns
unfolding next_line
returns c = line_as _ _ _ refl c.word_and_number.ensures
