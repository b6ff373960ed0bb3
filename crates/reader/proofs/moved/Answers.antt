-- `reader::moved` meets its contract.
use borrow.Author.Rules.{rules}
use borrow.Author.Tests.{eqb-true}
use mathlib.Core.Path.{◌≡◌, sym, ◌∙◌}
use mathlib.Core.Bool.{true}
use mathlib.Core.List.{List}
use Prim.Native.Nat.{ℕ, ◌≤◌}
use native.Mathlib.Omega.{arith}
use lib.ListN.{length}
use Rattle.field.specs.Bytes.{Bytes}
use Rattle.field.proofs.Numbers.{Lent, lent-bytes}
use Rattle.packet.specs.Frame.{held_size}
use Rattle.handle.specs.Handle.{handle_size, is_handle, head_of}
use Rattle.handle.proofs.Rounds.{handle-length}
use Rattle.table.specs.Memory.{Memories, memories}
use Rattle.reader.proofs.Steps.{may-handle, turned-stops, untold, turned-ready, turned-going, turned-holding, turned-live, answers, steps-told}
use Rattle.reader.proofs.Telling.{told-there}
use Rattle.reader.proofs.Astray.{heeded-as, unheeded}
use mathlib.Core.Path.{ap}
use mathlib.Core.Bool.{not}
use Rattle.reader.proofs.moved.Goals as goal

none-held : (h : List ℕ) {used : ℕ} → used ≡ (head_of h).used → used ≡ 0 → (head_of h).used ≤ held_size
none-held h e z = omega (arith, e, z)

pub goes_on-requires : goal.goes_on-requires
goes_on-requires c =
    let memory : Memories = memories c.args.table.now c.args.index.now in
    let is : is_handle c.args.handle.now ≡ true = may-handle c.args.handle.now memory c.requires.0 in
    let size : length c.args.handle.now ≡ handle_size = handle-length c.args.handle.now is in
    search (rules, size)

pub why_stopped-requires : goal.why_stopped-requires
why_stopped-requires c =
    let memory : Memories = memories c.args.table.now c.args.index.now in
    let is : is_handle c.args.handle.now ≡ true = may-handle c.args.handle.now memory c.requires.0 in
    let size : length c.args.handle.now ≡ handle_size = handle-length c.args.handle.now is in
    search (rules, size)

pub returns-then-not-goes_on : goal.returns-then-not-goes_on
returns-then-not-goes_on c =
    let memory : Memories = memories c.args.table.now c.args.index.now in
    let is : is_handle c.args.handle.now ≡ true = may-handle c.args.handle.now memory c.requires.0 in
    let lent : Lent c.args.handle.now = search (rules, c.slice_known-1) in
    steps-told c.args.handle.now memory c.args.piece.now c.args.event.now c.requires.1.0 is (turned-stops c.args.handle.now memory c.args.piece.now lent c.requires.0 c.goes_on.ensures (ap not c.if-not-goes_on.true) c.why_stopped.ensures) (untold c.args.handle.now memory c.args.piece.now lent c.requires.0 c.goes_on.ensures (ap not c.if-not-goes_on.true) c.why_stopped.ensures c.args.event.now)

pub used-used-requires : goal.used-used-requires
used-used-requires c =
    let memory : Memories = memories c.args.table.now c.args.index.now in
    let is : is_handle c.args.handle.now ≡ true = may-handle c.args.handle.now memory c.requires.0 in
    let size : length c.args.handle.now ≡ handle_size = handle-length c.args.handle.now is in
    search (rules, size)

pub straight-number-requires : goal.straight-number-requires
straight-number-requires c =
    let memory : Memories = memories c.args.table.now c.args.index.now in
    let lent : Lent c.args.handle.now = search (rules, c.slice_known-1) in
    ((turned-ready c.args.handle.now memory c.args.piece.now lent c.requires.0 c.goes_on.ensures (ap not c.if-not-goes_on.false) c.used-used.ensures c.if-used-eq0.true), c.requires.1.1)

pub tell_message-requires : goal.tell_message-requires
tell_message-requires c =
    let memory : Memories = memories c.args.table.now c.args.index.now in
    let is : is_handle c.args.handle.now ≡ true = may-handle c.args.handle.now memory c.requires.0 in
    let size : length c.args.handle.now ≡ handle_size = handle-length c.args.handle.now is in
    let lent : Lent c.args.handle.now = search (rules, c.slice_known-1) in
    let piece_bytes : Bytes c.args.piece.now = lent-bytes c.args.piece.now (search (rules, c.shared_slice_known-1)) in
    (eqb-true _ 768 (sym c.is_message.ensures ∙ c.if-is_message.true), (_, (told-there c.args.handle.now memory c.args.piece.now c.args.event.now (turned-ready c.args.handle.now memory c.args.piece.now lent c.requires.0 c.goes_on.ensures (ap not c.if-not-goes_on.false) c.used-used.ensures c.if-used-eq0.true) (lent-bytes c.args.handle.now lent) piece_bytes c.requires.1.0 (search (rules, size)) c.straight-number.ensures).asked))

pub returns-then-is_message : goal.returns-then-is_message
returns-then-is_message c =
    let memory : Memories = memories c.args.table.now c.args.index.now in
    let is : is_handle c.args.handle.now ≡ true = may-handle c.args.handle.now memory c.requires.0 in
    let size : length c.args.handle.now ≡ handle_size = handle-length c.args.handle.now is in
    let lent : Lent c.args.handle.now = search (rules, c.slice_known-1) in
    let piece_bytes : Bytes c.args.piece.now = lent-bytes c.args.piece.now (search (rules, c.shared_slice_known-1)) in
    let size-after : length c.straight-number.new.handle ≡ handle_size = search (rules, size, c.handle-1) in
    let t = told-there c.args.handle.now memory c.args.piece.now c.args.event.now (turned-ready c.args.handle.now memory c.args.piece.now lent c.requires.0 c.goes_on.ensures (ap not c.if-not-goes_on.false) c.used-used.ensures c.if-used-eq0.true) (lent-bytes c.args.handle.now lent) piece_bytes c.requires.1.0 size-after c.straight-number.ensures in
    steps-told c.args.handle.now memory c.args.piece.now c.args.event.now c.requires.1.0 is (turned-live c.args.handle.now memory c.args.piece.now lent c.requires.0 c.goes_on.ensures (ap not c.if-not-goes_on.false) (unheeded c.args.handle.now memory (turned-going c.args.handle.now memory c.args.piece.now lent c.requires.0 c.goes_on.ensures (ap not c.if-not-goes_on.false)) (none-held c.args.handle.now c.used-used.ensures c.if-used-eq0.true) lent c.args.piece.now piece_bytes c.straight-number.ensures (eqb-true _ 768 (sym c.is_message.ensures ∙ c.if-is_message.true))))
    (c.tell_message.ensures _ ∙ t.is ∙ answers c.args.handle.now memory c.args.piece.now lent c.requires.0 c.goes_on.ensures (ap not c.if-not-goes_on.false) c.args.event.now)

pub tell-requires : goal.tell-requires
tell-requires c =
    let memory : Memories = memories c.args.table.now c.args.index.now in
    let is : is_handle c.args.handle.now ≡ true = may-handle c.args.handle.now memory c.requires.0 in
    let size : length c.args.handle.now ≡ handle_size = handle-length c.args.handle.now is in
    let lent : Lent c.args.handle.now = search (rules, c.slice_known-1) in
    let piece_bytes : Bytes c.args.piece.now = lent-bytes c.args.piece.now (search (rules, c.shared_slice_known-1)) in
    (told-there c.args.handle.now memory c.args.piece.now c.args.event.now (turned-ready c.args.handle.now memory c.args.piece.now lent c.requires.0 c.goes_on.ensures (ap not c.if-not-goes_on.false) c.used-used.ensures c.if-used-eq0.true) (lent-bytes c.args.handle.now lent) piece_bytes c.requires.1.0 (search (rules, size)) c.straight-number.ensures).asked

pub heeded-requires : goal.heeded-requires
heeded-requires c =
    let memory : Memories = memories c.args.table.now c.args.index.now in
    let is : is_handle c.args.handle.now ≡ true = may-handle c.args.handle.now memory c.requires.0 in
    let size : length c.args.handle.now ≡ handle_size = handle-length c.args.handle.now is in
    search (rules, size)

pub returns-then-used-eq0 : goal.returns-then-used-eq0
returns-then-used-eq0 c =
    let memory : Memories = memories c.args.table.now c.args.index.now in
    let is : is_handle c.args.handle.now ≡ true = may-handle c.args.handle.now memory c.requires.0 in
    let size : length c.args.handle.now ≡ handle_size = handle-length c.args.handle.now is in
    let lent : Lent c.args.handle.now = search (rules, c.slice_known-1) in
    let piece_bytes : Bytes c.args.piece.now = lent-bytes c.args.piece.now (search (rules, c.shared_slice_known-1)) in
    let size-after : length c.straight-number.new.handle ≡ handle_size = search (rules, size, c.handle-1) in
    let t = told-there c.args.handle.now memory c.args.piece.now c.args.event.now (turned-ready c.args.handle.now memory c.args.piece.now lent c.requires.0 c.goes_on.ensures (ap not c.if-not-goes_on.false) c.used-used.ensures c.if-used-eq0.true) (lent-bytes c.args.handle.now lent) piece_bytes c.requires.1.0 size-after c.straight-number.ensures in
    steps-told c.args.handle.now memory c.args.piece.now c.args.event.now c.requires.1.0 is (turned-live c.args.handle.now memory c.args.piece.now lent c.requires.0 c.goes_on.ensures (ap not c.if-not-goes_on.false) (heeded-as c.args.handle.now memory (turned-going c.args.handle.now memory c.args.piece.now lent c.requires.0 c.goes_on.ensures (ap not c.if-not-goes_on.false)) (none-held c.args.handle.now c.used-used.ensures c.if-used-eq0.true) lent c.args.piece.now piece_bytes c.straight-number.ensures (sym c.if-used-eq0.true ∙ c.used-used.ensures) c.heeded.ensures.number c.heeded.ensures.handle_after))
    (c.tell.ensures ∙ t.is ∙ answers c.args.handle.now memory c.args.piece.now lent c.requires.0 c.goes_on.ensures (ap not c.if-not-goes_on.false) c.args.event.now)

pub mended-requires : goal.mended-requires
mended-requires c =
    let memory : Memories = memories c.args.table.now c.args.index.now in
    let lent : Lent c.args.handle.now = search (rules, c.slice_known-1) in
    (turned-holding c.args.handle.now memory c.args.piece.now lent c.requires.0 c.goes_on.ensures (ap not c.if-not-goes_on.false), (c.requires.1.1, (c.used-used.ensures, c.requires.1.0)))

pub returns : goal.returns
returns c =
    let memory : Memories = memories c.args.table.now c.args.index.now in
    let is : is_handle c.args.handle.now ≡ true = may-handle c.args.handle.now memory c.requires.0 in
    let lent : Lent c.args.handle.now = search (rules, c.slice_known-1) in
    steps-told c.args.handle.now memory c.args.piece.now c.args.event.now c.requires.1.0 is (turned-live c.args.handle.now memory c.args.piece.now lent c.requires.0 c.goes_on.ensures (ap not c.if-not-goes_on.false) c.mended.ensures.heeds)
    (c.mended.ensures.event_after ∙ answers c.args.handle.now memory c.args.piece.now lent c.requires.0 c.goes_on.ensures (ap not c.if-not-goes_on.false) c.args.event.now)
