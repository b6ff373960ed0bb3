-- `image::save` meets its contract.
use native.Mathlib.Omega.{arith}
use Rattle.table.specs.Memory.{Fitting}
use Rattle.image.proofs.Puts.{count-few}
use Rattle.image.proofs.Ways.{table-pages, save-unfit, save-limits, save-broken, save-short, save-whole}
use borrow.Author.Rules.{rules}
use Rattle.image.proofs.save.Goals as goal

pub returns-then-not-within_limits : goal.returns-then-not-within_limits
returns-then-not-within_limits c = search save-unfit

pub invariant_of-slots : goal.invariant_of-slots
invariant_of-slots c = let l : Fitting c.args.h.board.rows c.args.table.now = search save-limits in record { inside = table-pages c.args.table.now c.args.h.board.rows l }

pub keep-requires-2 : goal.keep-requires-2
keep-requires-2 c = let l : Fitting c.args.h.board.rows c.args.table.now = search save-limits in l.1

pub returns-then-not-kept : goal.returns-then-not-kept
returns-then-not-kept c = search save-broken depth 14

pub blocks_for-count-requires : goal.blocks_for-count-requires
blocks_for-count-requires c = let l : Fitting c.args.h.board.rows c.args.table.now = search save-limits in omega (arith, l.1)

pub overflow_mul-size : goal.overflow_mul-size
overflow_mul-size c = let l : Fitting c.args.h.board.rows c.args.table.now = search save-limits in let f = count-few c.args.h.board.rows l.1 in search rules

pub returns-then-out-size : goal.returns-then-out-size
returns-then-out-size c = search save-short depth 14

pub invariant_of-keeping : goal.invariant_of-keeping
invariant_of-keeping c =
    let l : Fitting c.args.h.board.rows c.args.table.now = search save-limits in
    record { sizes = record { session = search (rules, c); sized = l.0; few = l.1 } }

pub returns : goal.returns
returns c = search save-whole depth 14
