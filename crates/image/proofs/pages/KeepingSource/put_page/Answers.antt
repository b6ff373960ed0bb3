-- `image::pages::KeepingSource::put_page` meets its contract.
use native.Mathlib.Omega.{arith}
use Rattle.image.proofs.Laid.{page-row}
use Rattle.image.proofs.Puts.{last-put, full_put}
use borrow.Author.Rules.{rules}
use Rattle.image.proofs.pages.KeepingSource.put_page.Goals as goal

pub overflow_mul-from : goal.overflow_mul-from
overflow_mul-from c = let p = page-row c.args.self.now.header.board.rows c.args.k c.requires.1 in omega arith

pub overflow_sub-left : goal.overflow_sub-left
overflow_sub-left c = let p = page-row c.args.self.now.header.board.rows c.args.k c.requires.1 in omega arith

pub copy-requires : goal.copy-requires
copy-requires c = let p = page-row c.args.self.now.header.board.rows c.args.k c.requires.1 in (omega arith, search rules)

pub returns-then-left-lt-BODY_SIZE : goal.returns-then-left-lt-BODY_SIZE
returns-then-left-lt-BODY_SIZE c = search last-put

pub returns-else-left-lt-BODY_SIZE : goal.returns-else-left-lt-BODY_SIZE
returns-else-left-lt-BODY_SIZE c = search full_put
