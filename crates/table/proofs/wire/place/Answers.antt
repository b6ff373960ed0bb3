-- `table::wire::place` meets its contract.
use native.Mathlib.Omega.{arith}
use borrow.Author.Rules.{rules}
use Rattle.field.specs.Bytes.{part}
use Rattle.table.proofs.IndexPlaces.{place-fits}
use Rattle.table.proofs.Ways.{found-fits}
use Rattle.table.proofs.Wired.{rowed, id-room, place_found, place_none, place-astray}
use Rattle.table.proofs.wire.place.Goals as goal

pub read-requires : goal.read-requires
read-requires c = id-room _ (rowed c.requires)

pub overflow_mul-from : goal.overflow_mul-from
overflow_mul-from c =
    omega (arith, found-fits _ _ _ _ _ c.requires.fitting.0 c.find.ensures c.in-Here.is)

pub overflow_add-to : goal.overflow_add-to
overflow_add-to c =
    omega (arith, found-fits _ _ _ _ _ c.requires.fitting.0 c.find.ensures c.in-Here.is)

pub slice_bounds-at_row-end : goal.slice_bounds-at_row-end
slice_bounds-at_row-end c =
    found-fits _ _ _ _ _ c.requires.fitting.0 c.find.ensures c.in-Here.is

pub add-requires : goal.add-requires
add-requires c =
    (rowed c.requires, (c.requires.fitting, place-fits _ _ _ _ _ c.find.ensures c.in-Absent.is))

pub returns-in-Here : goal.returns-in-Here
unfolding part
returns-in-Here c =
    let h = found-fits _ _ _ _ _ c.requires.fitting.0 c.find.ensures c.in-Here.is in
    place_found _ _ _ (rowed c.requires) c.read.ensures c.find.ensures c.in-Here.is h c.at_row.ensures (search rules)

pub returns-in-Absent : goal.returns-in-Absent
returns-in-Absent c =
    place_none _ _ _ (rowed c.requires) c.read.ensures c.find.ensures c.in-Absent.is c.add.ensures.at_none c.add.ensures.index_after

pub returns-in-Astray : goal.returns-in-Astray
returns-in-Astray c =
    place-astray _ _ _ (rowed c.requires) c.read.ensures c.find.ensures c.in-Astray.is
