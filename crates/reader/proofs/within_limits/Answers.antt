-- `reader::within_limits` meets its contract.
use native.Mathlib.Omega.{arith}
use Rattle.reader.proofs.Kept.{host-none, handle-long, host-kept}
use mathlib.Core.Path.{ap}
use mathlib.Core.Bool.{not}
use Rattle.reader.proofs.within_limits.Goals as goal

pub returns-then-not-is_handle : goal.returns-then-not-is_handle
returns-then-not-is_handle c = search host-none

pub rows-requires : goal.rows-requires
rows-requires c = search handle-long

pub next-requires : goal.next-requires
next-requires c = search handle-long

pub used-requires : goal.used-requires
used-requires c = search handle-long

pub refusal-requires : goal.refusal-requires
refusal-requires c = search handle-long

pub slice_bounds-keep-end : goal.slice_bounds-keep-end
slice_bounds-keep-end c =
    omega (arith, handle-long _ c.is_handle.ensures (ap not c.if-not-is_handle.false))

pub returns : goal.returns
returns c = search host-kept
