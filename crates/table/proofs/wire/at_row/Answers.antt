-- `table::wire::at_row` meets its contract.
use native.Mathlib.Omega.{arith}
use borrow.Author.Rules.{rules}
use Rattle.table.proofs.Wired.{id-room, action-room, directory-room, quote-room, action-kept, row-action, row-directory, row-quote}
use Rattle.table.proofs.wire.at_row.Goals as goal

pub bounds-bytes-0 : goal.bounds-bytes-0
bounds-bytes-0 c = omega (arith, id-room _ c.requires.1)

pub put_action-requires : goal.put_action-requires
put_action-requires c = search (action-room, rules)

pub relist-requires : goal.relist-requires
relist-requires c = search (directory-room, rules)

pub quote-requires : goal.quote-requires
quote-requires c =
    (search rules, quote-room _ c.requires.1 c.in_default.in_default-own.rest.0.1 c.in_default.in_default-own.rest.1)

pub returns-in-72 : goal.returns-in-72
returns-in-72 c = search (row-action, action-kept, rules)

pub returns-in-109 : goal.returns-in-109
returns-in-109 c = search (row-directory, rules)

pub returns-in_default : goal.returns-in_default
returns-in_default c = search (row-quote, rules)
