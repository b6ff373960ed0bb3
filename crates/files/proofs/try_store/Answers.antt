-- The name that is followed has room behind it for the new file's.
use Rattle.std.proofs.Common.{arith}
use lib.ListN.{length-take}
use Rattle.files.proofs.try_store.Goals as goal

pub store_at-requires : goal.store_at-requires
store_at-requires c = omega (arith, length-take c.in-Some.size c.followed.new.path)
