-- `image::moves::MovingSource::put_page` meets its contract.
use mathlib.Core.Path.{refl}
use Prim.Native.Nat.{◌≤◌}
use native.Mathlib.Omega.{arith}
use Rattle.field.specs.Bytes.{part}
use Rattle.image.proofs.Writes.{rows-are, page-room, used-fits, page-used, lent-long, page-put}
use borrow.Author.Rules.{rules}
use Rattle.image.proofs.moves.MovingSource.put_page.Goals as goal

pub overflow_mul-k : goal.overflow_mul-k
overflow_mul-k c = let g = page-room c.args.self.now c.args.k c.requires.1 in search rules

pub overflow_add-k : goal.overflow_add-k
overflow_add-k c = let g = page-room c.args.self.now c.args.k c.requires.1 in search rules

pub copy-requires : goal.copy-requires
copy-requires c = let g = page-room c.args.self.now c.args.k c.requires.1 in (omega arith, search rules)

pub used_in-used-requires : goal.used_in-used-requires
used_in-used-requires c = used-fits c.args.self.now.header.board.rows c.args.k c.requires.1

pub all-requires : goal.all-requires
all-requires c = let g = page-used c.args.self.now c.args.k c.requires.1 in let e = c.used_in-used.ensures in let h : c.used_in-used.result ≤ 4 = omega (arith, g, e) in search (lent-long, h, rules)

pub returns : goal.returns
unfolding part
returns c = let m = c.args.self.now in page-put m.image.now m.judged m.way m.header.board.rows c.args.k (rows-are m) c.requires.1 c.args.out.now c.args.at _ c.requires.0 refl c.copy.ensures c.used_in-used.ensures c.all.ensures (search rules)
