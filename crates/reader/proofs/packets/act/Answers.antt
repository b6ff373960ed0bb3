-- `reader::packets::act` meets its contract.
use borrow.Author.Rules.{rules}
use native.Mathlib.Omega.{arith}
use mathlib.Core.Path.{◌≡◌, sym}
use lib.ListN.{length}
use lib.Seq.{length-take-le}
use Rattle.handle.specs.Handle.{handle_size}
use Rattle.handle.proofs.Rounds.{handle-length}
use Rattle.table.specs.Memory.{Memories, memories}
use Rattle.reader.proofs.Judged.{act-counts, act-message, act-other, act-lent, act-back}
use Rattle.reader.proofs.packets.act.Goals as goal

pub next-next-requires : goal.next-next-requires
next-next-requires c =
    let size : length c.args.handle.now ≡ handle_size = handle-length c.args.handle.now c.requires.0.going.handle-is in
    search (rules, size)

pub logged-requires : goal.logged-requires
logged-requires c =
    let size : length c.args.handle.now ≡ handle_size = handle-length c.args.handle.now c.requires.0.going.handle-is in
    search (rules, size)

pub message-requires : goal.message-requires
message-requires c =
    let memory : Memories = memories c.args.table.now c.args.index.now in
    (c.requires.0, (c.requires.1, (c.next-next.ensures, act-counts c.args.handle.now memory c.requires.0 c.args.letter c.args.body.now c.next-next.ensures c.logged.ensures c.is_message.ensures c.if-is_message.true)))

pub returns-then-is_message : goal.returns-then-is_message
returns-then-is_message c = let memory : Memories = memories c.args.table.now c.args.index.now in record { closes = act-message c.args.handle.now memory c.requires.0 c.args.letter c.args.body.now c.next-next.ensures c.logged.ensures c.is_message.ensures c.if-is_message.true c.message.ensures.closes; low_half = c.message.ensures.low_half }

pub slice_bounds-other-end : goal.slice_bounds-other-end
slice_bounds-other-end c =
    let size : length c.args.handle.now ≡ handle_size = handle-length c.args.handle.now c.requires.0.going.handle-is in
    search (rules, size)

pub slice_bounds-other-end-2 : goal.slice_bounds-other-end-2
slice_bounds-other-end-2 c =
    let size : length c.args.handle.now ≡ handle_size = handle-length c.args.handle.now c.requires.0.going.handle-is in
    sym (length-take-le handle_size c.args.handle.now (omega (arith, size)))

pub other-requires : goal.other-requires
other-requires c =
    let memory : Memories = memories c.args.table.now c.args.index.now in
    let size : length c.args.handle.now ≡ handle_size = handle-length c.args.handle.now c.requires.0.going.handle-is in
    act-lent c.args.handle.now size memory c.requires.0 c.args.letter c.args.body.now (act-other c.args.handle.now memory c.requires.0 c.args.letter c.args.body.now c.next-next.ensures c.logged.ensures c.is_message.ensures c.if-is_message.false)

pub returns : goal.returns
returns c =
    let memory : Memories = memories c.args.table.now c.args.index.now in
    let size : length c.args.handle.now ≡ handle_size = handle-length c.args.handle.now c.requires.0.going.handle-is in record { closes = act-back c.args.handle.now size memory c.args.letter c.args.body.now c.other.new.handle (c.other.ensures.closes memory); low_half = c.other.ensures.low_half }
