-- `message::codes::is_listed` meets its contract: what is passed of the list does not have the code.
use mathlib.Core.Path.{◌≡◌}
use Prim.Native.Nat.{◌≤◌}
use lib.ListN.{length, drop}
use Rattle.message.specs.Letters.{listed}
use Rattle.message.proofs.codes.is_listed.Given as goal

abbrev pub invariant-loop-c : goal.invariant-loop-c
invariant-loop-c l = (l.c-index ≤ length l.list) × (listed l.list l.code ≡ listed (drop l.c-index l.list) l.code)
