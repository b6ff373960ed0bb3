-- `reader::told::tell_message` meets its contract.
use native.Mathlib.Omega.{arith}
use mathlib.Core.Path.{refl}
use Rattle.reader.proofs.Telling.{tell-message}
use Rattle.reader.proofs.told.tell_message.Goals as goal

pub slice_bounds-put-count : goal.slice_bounds-put-count
slice_bounds-put-count c = (c.requires.1.1.whole c.requires.0).0

pub slice_bounds-put-start : goal.slice_bounds-put-start
slice_bounds-put-start c = let w = c.requires.1.1.whole c.requires.0 in omega (arith, w.0, w.1)

pub slice_bounds-put-end : goal.slice_bounds-put-end
slice_bounds-put-end c = let w = c.requires.1.1.whole c.requires.0 in omega (arith, w.0, w.1)

pub put-requires : goal.put-requires
put-requires c = (c.requires.1.1.passed c.requires.0, c.requires.1.1.long)

pub returns : goal.returns
returns c handle =
    tell-message c.args.number handle c.args.bytes.now c.args.event.now refl c.requires.0 c.put.ensures
