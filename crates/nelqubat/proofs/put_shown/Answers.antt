-- `nelqubat::put_shown` meets its contract.
use borrow.Author.Rules.{rules}
use Rattle.listing.proofs.Puts.{short-line}
use Rattle.nelqubat.proofs.Ways.{shown-line, shown-past, shown-unfit}
use Rattle.nelqubat.proofs.put_shown.Goals as goal

pub put_line-requires : goal.put_line-requires
put_line-requires c = search (short-line, rules)

pub returns-in-Line : goal.returns-in-Line
returns-in-Line c = search (shown-line, rules)

pub returns-in-Past : goal.returns-in-Past
returns-in-Past c = search (shown-past, rules)

pub returns-in-Unfit : goal.returns-in-Unfit
returns-in-Unfit c = search (shown-unfit, rules)
