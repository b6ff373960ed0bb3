-- `handle::is_handle` meets its contract.
use Rattle.handle.proofs.Ways.{no-handle, flags-judged}
use native.Mathlib.Omega.{arith}
use borrow.Author.Rules.{rules}
use Rattle.handle.proofs.is_handle.Goals as goal

pub returns-then-bytes-ne-HANDLE_SIZE : goal.returns-then-bytes-ne-HANDLE_SIZE
returns-then-bytes-ne-HANDLE_SIZE c = no-handle c.args.bytes.now (λ e. omega arith)

pub returns : goal.returns
returns c =
    flags-judged c.args.bytes.now (search rules) c.read.ensures c.read-2.ensures c.read-3.ensures
