-- `reader::turned` meets its contract.
use borrow.Author.Rules.{rules}
use mathlib.Core.Path.{◌≡◌, sym, ◌∙◌}
use mathlib.Core.List.{List}
use Prim.Native.Nat.{ℕ, ◌≤◌}
use native.Mathlib.Omega.{arith}
use lib.ListN.{length, length-replicate}
use Rattle.field.specs.Bytes.{Bytes}
use Rattle.field.proofs.Numbers.{Lent, lent-bytes}
use Rattle.packet.specs.Frame.{held_size}
use Rattle.record.specs.Places.{record_size}
use Rattle.handle.specs.Handle.{handle_size, head_of}
use Rattle.handle.proofs.Rounds.{handle-length}
use Rattle.table.specs.Memory.{Memories, memories}
use Rattle.reader.proofs.Steps.{may-handle, turned-stops, turned-ready, turned-going, turned-holding, turned-live}
use Rattle.reader.proofs.Astray.{heeded-as}
use mathlib.Core.Path.{ap}
use mathlib.Core.Bool.{not}
use Rattle.reader.proofs.turned.Goals as goal

none-held : (h : List ℕ) {used : ℕ} → used ≡ (head_of h).used → used ≡ 0 → (head_of h).used ≤ held_size
none-held h e z = omega (arith, e, z)

pub goes_on-requires : goal.goes_on-requires
goes_on-requires c =
    let memory : Memories = memories c.args.table.now c.args.index.now in
    let size : length c.args.handle.now ≡ handle_size = handle-length c.args.handle.now (may-handle c.args.handle.now memory c.requires) in
    search (rules, size)

pub why_stopped-requires : goal.why_stopped-requires
why_stopped-requires c =
    let memory : Memories = memories c.args.table.now c.args.index.now in
    let size : length c.args.handle.now ≡ handle_size = handle-length c.args.handle.now (may-handle c.args.handle.now memory c.requires) in
    search (rules, size)

pub returns-then-not-goes_on : goal.returns-then-not-goes_on
returns-then-not-goes_on c =
    let memory : Memories = memories c.args.table.now c.args.index.now in
    let lent : Lent c.args.handle.now = search (rules, c.slice_known-1) in
    turned-stops c.args.handle.now memory c.args.piece.now lent c.requires c.goes_on.ensures (ap not c.if-not-goes_on.true) c.why_stopped.ensures

pub rows-rows-requires : goal.rows-rows-requires
rows-rows-requires c =
    let memory : Memories = memories c.args.table.now c.args.index.now in
    let size : length c.args.handle.now ≡ handle_size = handle-length c.args.handle.now (may-handle c.args.handle.now memory c.requires) in
    search (rules, size)

pub used-used-requires : goal.used-used-requires
used-used-requires c =
    let memory : Memories = memories c.args.table.now c.args.index.now in
    let size : length c.args.handle.now ≡ handle_size = handle-length c.args.handle.now (may-handle c.args.handle.now memory c.requires) in
    search (rules, size)

pub straight-number-requires : goal.straight-number-requires
straight-number-requires c =
    let memory : Memories = memories c.args.table.now c.args.index.now in
    let lent : Lent c.args.handle.now = search (rules, c.slice_known-1) in
    ((turned-ready c.args.handle.now memory c.args.piece.now lent c.requires c.goes_on.ensures (ap not c.if-not-goes_on.false) c.used-used.ensures c.if-used-eq0.true), c.rows-rows.ensures)

pub heeded-requires : goal.heeded-requires
heeded-requires c =
    let memory : Memories = memories c.args.table.now c.args.index.now in
    let size : length c.args.handle.now ≡ handle_size = handle-length c.args.handle.now (may-handle c.args.handle.now memory c.requires) in
    search (rules, size)

pub returns-then-used-eq0 : goal.returns-then-used-eq0
returns-then-used-eq0 c =
    let memory : Memories = memories c.args.table.now c.args.index.now in
    let lent : Lent c.args.handle.now = search (rules, c.slice_known-1) in
    let piece_bytes : Bytes c.args.piece.now = lent-bytes c.args.piece.now (search (rules, c.shared_slice_known-1)) in
    turned-live c.args.handle.now memory c.args.piece.now lent c.requires c.goes_on.ensures (ap not c.if-not-goes_on.false) (heeded-as c.args.handle.now memory (turned-going c.args.handle.now memory c.args.piece.now lent c.requires c.goes_on.ensures (ap not c.if-not-goes_on.false)) (none-held c.args.handle.now c.used-used.ensures c.if-used-eq0.true) lent c.args.piece.now piece_bytes c.straight-number.ensures (sym c.if-used-eq0.true ∙ c.used-used.ensures) c.heeded.ensures.number c.heeded.ensures.handle_after)

pub mended-requires : goal.mended-requires
mended-requires c =
    let memory : Memories = memories c.args.table.now c.args.index.now in
    let lent : Lent c.args.handle.now = search (rules, c.slice_known-1) in
    (turned-holding c.args.handle.now memory c.args.piece.now lent c.requires c.goes_on.ensures (ap not c.if-not-goes_on.false), (c.rows-rows.ensures, (c.used-used.ensures, length-replicate {A = ℕ} record_size 0)))

pub returns : goal.returns
returns c =
    let memory : Memories = memories c.args.table.now c.args.index.now in
    let lent : Lent c.args.handle.now = search (rules, c.slice_known-1) in
    turned-live c.args.handle.now memory c.args.piece.now lent c.requires c.goes_on.ensures (ap not c.if-not-goes_on.false) c.mended.ensures.heeds
