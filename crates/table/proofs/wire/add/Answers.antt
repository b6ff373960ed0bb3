-- `table::wire::add` meets its contract.
use mathlib.Core.Path.{refl}
use native.Mathlib.Omega.{arith}
use borrow.Author.Rules.{rules}
use Rattle.table.proofs.Wired.{id-room, directory-room, none-refused, add-full, add-put}
use Rattle.table.proofs.wire.add.Goals as goal

pub bounds-bytes-0 : goal.bounds-bytes-0
bounds-bytes-0 c = omega (arith, id-room _ c.requires.0)

pub returns-then-bytes-ne109 : goal.returns-then-bytes-ne109
returns-then-bytes-ne109 c = record { at_none = search (none-refused, rules); index_after = refl }

pub returns-then-rows-ge-MOST_ROWS : goal.returns-then-rows-ge-MOST_ROWS
returns-then-rows-ge-MOST_ROWS c = record { at_none = search (add-full, rules); index_after = refl }

pub put_new-requires : goal.put_new-requires
put_new-requires c =
    (search rules, directory-room _ c.requires.0 (search rules))

pub returns : goal.returns
returns c = record { at_none = add-put _ _ (search rules) c.requires.1.0.0.0 (search rules) c.put_new.ensures (search rules); index_after = c.insert.ensures }
