-- `reader::Reader::laid` meets its contract.
use borrow.Author.Rules.{rules}
use mathlib.Core.Path.{◌≡◌}
use Prim.Native.Nat.{ℕ}
use lib.ListN.{length, length-replicate}
use Rattle.packet.specs.Frame.{held_size}
use Rattle.handle.specs.Handle.{handle_size}
use Rattle.reader.proofs.Views.{reader-laid}
use Rattle.reader.proofs.Reader.laid.Goals as goal

pub returns : goal.returns
returns c =
    let ten : length c.args.self.line.session ≡ 10 = search rules in
    let long : length c.args.self.held ≡ held_size = search rules in
    reader-laid c.args.self c.head.result _ _ _ ten long (length-replicate {A = ℕ} handle_size 0) c.head.ensures c.put.ensures c.put_head.ensures
