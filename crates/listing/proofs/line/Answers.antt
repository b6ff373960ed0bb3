-- `listing::line` meets its contract.
use mathlib.Core.Path.{ap}
use mathlib.Core.Bool.{not}
use native.Mathlib.Omega.{arith}
use borrow.Author.Rules.{rules}
use Rattle.table.proofs.Ways.{told-fitting}
use Rattle.listing.proofs.Puts.{shown-unfit, shown-past, shown-line}
use mathlib.Core.Path.{ap}
use mathlib.Core.Bool.{not}
use Rattle.listing.proofs.line.Goals as goal

pub returns-then-not-rows_fit : goal.returns-then-not-rows_fit
returns-then-not-rows_fit c = (search (shown-unfit, rules), tt)

pub overflow_add-rows : goal.overflow_add-rows
overflow_add-rows c = let f = told-fitting c.args.rows c.args.table.now c.rows_fit.ensures (ap not c.if-not-rows_fit.false) in omega (arith, f.1)

pub returns-then-rows-k : goal.returns-then-rows-k
returns-then-rows-k c = (search (shown-past, rules), tt)

pub some_line-size-requires : goal.some_line-size-requires
some_line-size-requires c = search (told-fitting, rules)

pub returns : goal.returns
returns c = (search (shown-line, rules), c.some_line-size.ensures.1.1)
