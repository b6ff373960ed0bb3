-- `reader::deliver::place` meets its contract.
use mathlib.Core.Path.{sym, ap, ◌∙◌}
use Prim.Native.Nat.{ℕ, ◌+◌}
use borrow.Author.Rules.{rules}
use Rattle.field.proofs.Numbers.{Lent}
use Rattle.table.specs.Memory.{memories}
use Rattle.handle.specs.Handle.{rows_field, with_field}
use Rattle.handle.proofs.Rounds.{handle-length}
use Rattle.reader.proofs.Delivered.{place_kept, place-added, place-refused}
use Rattle.reader.proofs.deliver.place.Goals as goal

-- the rows are read where they lie, and are those that were given

pub rows-requires : goal.rows-requires
rows-requires c = search (handle-length, rules)

pub put_rows-requires : goal.put_rows-requires
put_rows-requires c = search (handle-length, rules)

pub returns-in-Kept : goal.returns-in-Kept
returns-in-Kept c = search (place_kept, rules)

pub returns-in-Added : goal.returns-in-Added
returns-in-Added c =
    let lent : Lent c.args.handle.now = search (rules, c.slice_known-1) in
    let same = c.rows.ensures ∙ sym c.requires.1.0 in
    place-added c.args.handle.now c.requires.0 lent c.args.body.now (memories c.args.table.now c.args.index.now) c.args.rows c.requires.1.0 c.place.result _ c.place.ensures c.in-Added.is (c.put_rows.ensures ∙ ap (λ (k : ℕ). with_field rows_field (k + 1) c.args.handle.now) same)

pub returns-in-Refused : goal.returns-in-Refused
returns-in-Refused c = search (place-refused, rules)
