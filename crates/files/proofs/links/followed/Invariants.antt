-- The name that the links so far lead to lies in its memory.
use Rattle.std.proofs.Common.{◌≤◌, length}
use Rattle.files.proofs.links.followed.Given as goal

abbrev pub invariant-loop : goal.invariant-loop
invariant-loop l = l.size ≤ length l.path
