-- `handle::put_head` meets its contract.
use mathlib.Core.Path.{◌≡◌}
use lib.ListN.{length}
use Rattle.handle.proofs.Ways.{head-put}
use borrow.Author.Rules.{rules}
use Rattle.handle.proofs.put_head.Goals as goal

pub returns : goal.returns
returns c =
    let ten : length c.args.h.line.session ≡ 10 = search (rules, c.well_formed.0.1.1.0) in
    head-put c.args.out.now c.args.h c.requires ten c.put_numbers.ensures c.put.ensures c.put_marks.ensures
