-- `image::restore` meets its contract.
use native.Mathlib.Omega.{arith}
use mathlib.Core.Path.{◌≡◌}
use lib.ListN.{length}
use Rattle.table.specs.Memory.{table_size}
use Rattle.table.proofs.Ways.{told-long}
use Rattle.image.proofs.Judged.{Long}
use Rattle.image.proofs.Ways.{accepted-long, restore-unfit, restore-accepts, restore-refuses}
use Rattle.image.proofs.Writes.{rows-room}
use borrow.Author.Rules.{rules}
use Rattle.image.proofs.restore.Goals as goal

pub returns-then-not-is_table : goal.returns-then-not-is_table
returns-then-not-is_table c = search restore-unfit

pub overflow_sub-image : goal.overflow_sub-image
overflow_sub-image c = let l : Long c.args.image.now = search accepted-long in l.least

pub take-requires : goal.take-requires
take-requires c = let l : Long c.args.image.now = search accepted-long in (omega arith, search (told-long, rules), omega arith)

pub read-header-requires : goal.read-header-requires
read-header-requires c = let l : Long c.args.image.now = search accepted-long in l.some

pub version-requires : goal.version-requires
version-requires c = let l : Long c.args.image.now = search accepted-long in l.some

pub renew-requires : goal.renew-requires
renew-requires c = let l : length c.args.table.now ≡ table_size = search (told-long, rules) in let r = rows-room _ _ _ c.judge.ensures c.in-Ok.is c.read-header.ensures in omega (arith, r, l)

pub returns-in-Ok : goal.returns-in-Ok
returns-in-Ok c = search restore-accepts depth 14

pub returns-in-Err : goal.returns-in-Err
returns-in-Err c = search restore-refuses
