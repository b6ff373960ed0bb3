-- `reader::deliver::message` meets its contract.
use borrow.Author.Rules.{rules}
use Rattle.table.specs.Memory.{Memories, memories}
use Rattle.reader.proofs.Delivered.{message-refused, message-done}
use Rattle.handle.proofs.Rounds.{handle-length}
use native.Mathlib.Omega.{arith}
use mathlib.Core.Path.{ap, ◌∙◌}
use Rattle.packet.specs.Numbering.{number_after}
use Rattle.reader.proofs.deliver.message.Goals as goal
use Rattle.handle.specs.Handle.{with_field, refusal_field}
use Rattle.std.specs.Prelude.{ℕ, ◌+◌}

pub refuse-requires : goal.refuse-requires
refuse-requires c =
    search (handle-length c.args.handle.now c.requires.0.going.handle-is, rules)

pub returns-in-Err : goal.returns-in-Err
returns-in-Err c = let memory : Memories = memories c.args.table.now c.args.index.now in record { closes = message-refused c.args.handle.now memory c.requires.0 _ _ _ c.args.body.now c.tried.ensures c.in-Err.r c.in-Err.is (c.refuse.ensures.value ∙ ap (λ (n : ℕ). 2048 + n) c.from.ensures) (c.refuse.ensures.handle_after ∙ ap (λ (n : ℕ). with_field refusal_field n c.tried.new.handle) c.from.ensures); low_half = omega (arith, c.refuse.ensures.value, c.from) }

pub put_next-requires : goal.put_next-requires
put_next-requires c =
    search (handle-length c.args.handle.now c.requires.0.going.handle-is, rules)

pub returns : goal.returns
returns c = let memory : Memories = memories c.args.table.now c.args.index.now in record { closes = message-done c.args.handle.now memory c.requires.0 _ _ _ c.args.body.now c.tried.ensures _ (search rules) (c.number_after.ensures ∙ ap number_after c.requires.1.1.0) c.put_next.ensures; low_half = omega arith }
