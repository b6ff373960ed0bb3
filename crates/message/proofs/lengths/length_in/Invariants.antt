-- `message::lengths::length_in` meets its contract: what is passed of the table does not have the letter.
use mathlib.Core.Path.{◌≡◌}
use Prim.Native.Nat.{◌*◌}
use lib.ListN.{drop}
use Rattle.message.specs.Feed.{length_in}
use Rattle.message.proofs.lengths.length_in.Given as goal

abbrev pub invariant-loop-i : goal.invariant-loop-i
invariant-loop-i l = length_in l.table l.letter ≡ length_in (drop (2 * l.i) l.table) l.letter
