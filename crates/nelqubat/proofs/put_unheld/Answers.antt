-- `nelqubat::put_unheld` meets its contract.
use borrow.Author.Rules.{rules}
use mathlib.Core.Path.{◌≡◌}
use Prim.Native.Nat.{ℕ}
use lib.ListN.{length, length-replicate}
use Rattle.packet.specs.Frame.{held_size}
use Rattle.nelqubat.specs.Host.{no_held}
use Rattle.handle.proofs.Laid.{put-over}
use Rattle.nelqubat.proofs.put_unheld.Goals as goal

pub returns : goal.returns
returns c =
    let ten : length c.args.h.line.session ≡ 10 = search (rules, c.well_formed.0.1.1.0) in
    put-over c.args.h c.args.handle.now no_held _ _ ten c.requires (length-replicate {A = ℕ} held_size 0) c.fill.ensures c.put_head.ensures
