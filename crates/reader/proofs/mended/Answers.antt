-- `reader::mended` meets its contract.
use borrow.Author.Rules.{rules}
use native.Mathlib.Omega.{arith}
use mathlib.Core.Path.{◌≡◌, sym, ap, ◌∙◌}
use Prim.Native.Nat.{◌+◌, ◌≤◌}
use lib.ListN.{length}
use lib.Seq.{length-take-le}
use Rattle.field.specs.Bytes.{Bytes, part}
use Rattle.field.proofs.Numbers.{Lent, lent-bytes}
use Rattle.packet.specs.Frame.{held_size}
use Rattle.packet.specs.Stream as stream
use Rattle.packet.specs.Session.{Event}
use Rattle.packet.proofs.Mend.{room_fits, room_within}
use Rattle.handle.specs.Handle.{handle_size}
use Rattle.handle.proofs.Rounds.{handle-length}
use Rattle.table.specs.Memory.{Memories, memories}
use Rattle.reader.specs.Deliver.{Said}
use Rattle.reader.specs.Handles.{told_memory}
use Rattle.reader.proofs.Telling.{told-there}
use Rattle.reader.proofs.Steps.{mended-answer, mended-bytes, unheld-ready, unheld-rows, mended-past, mended-whole}
use Rattle.reader.proofs.Delivered.{own-long}
use Rattle.reader.proofs.Astray.{heeded-as}
use Rattle.reader.proofs.mended.Goals as goal

pub slice_bounds-joined-end : goal.slice_bounds-joined-end
slice_bounds-joined-end c =
    let size : length c.args.handle.now ≡ handle_size = handle-length c.args.handle.now c.requires.0.going.handle-is in
    omega (arith, size)

pub joined-all-requires : goal.joined-all-requires
unfolding part
joined-all-requires c =
    let start_fits : c.args.used ≤ held_size = rw c.requires.1.1.0 c.requires.0.start in
    let room-there : (c.args.used + c.room-n.result ≤ held_size) = room_fits c.args.used (length c.args.piece.now) start_fits c.room-n.ensures in
    (own-long c.args.handle.now c.requires.0.going.handle-is, (room-there, room_within c.args.used (length c.args.piece.now) start_fits c.room-n.ensures))

pub overflow_add-end : goal.overflow_add-end
overflow_add-end c =
    let start_fits : c.args.used ≤ held_size = rw c.requires.1.1.0 c.requires.0.start in
    let room-there : (c.args.used + c.room-n.result ≤ held_size) = room_fits c.args.used (length c.args.piece.now) start_fits c.room-n.ensures in
    omega (arith, room-there)

pub put_used-requires : goal.put_used-requires
put_used-requires c =
    let size : length c.args.handle.now ≡ handle_size = handle-length c.args.handle.now c.requires.0.going.handle-is in
    search (rules, size)

pub slice_bounds-all-end : goal.slice_bounds-all-end
slice_bounds-all-end c =
    let start_fits : c.args.used ≤ held_size = rw c.requires.1.1.0 c.requires.0.start in
    let room-there : (c.args.used + c.room-n.result ≤ held_size) = room_fits c.args.used (length c.args.piece.now) start_fits c.room-n.ensures in
    let long : length c.joined-all.result ≡ held_size = search rules in
    omega (arith, room-there)

pub slice_bounds-straight-end : goal.slice_bounds-straight-end
slice_bounds-straight-end c =
    let start_fits : c.args.used ≤ held_size = rw c.requires.1.1.0 c.requires.0.start in
    let room-there : (c.args.used + c.room-n.result ≤ held_size) = room_fits c.args.used (length c.args.piece.now) start_fits c.room-n.ensures in
    let long : length c.joined-all.result ≡ held_size = search rules in
    sym (length-take-le _ _ (omega (arith, room-there)))

pub straight-number-requires : goal.straight-number-requires
straight-number-requires c =
    let memory : Memories = memories c.args.table.now c.args.index.now in
    let lent : Lent c.args.handle.now = search (rules, c.slice_known-1) in
    (unheld-ready c.args.handle.now memory c.requires.0 lent c.put_used.ensures, unheld-rows c.args.handle.now memory c.requires.0 lent c.put_used.ensures c.requires.1.0)

pub slice_bounds-all-end-2 : goal.slice_bounds-all-end-2
slice_bounds-all-end-2 c =
    let start_fits : c.args.used ≤ held_size = rw c.requires.1.1.0 c.requires.0.start in
    let room-there : (c.args.used + c.room-n.result ≤ held_size) = room_fits c.args.used (length c.args.piece.now) start_fits c.room-n.ensures in
    let long : length c.joined-all.result ≡ held_size = search rules in
    omega (arith, room-there)

pub slice_bounds-tell-end : goal.slice_bounds-tell-end
slice_bounds-tell-end c =
    let start_fits : c.args.used ≤ held_size = rw c.requires.1.1.0 c.requires.0.start in
    let room-there : (c.args.used + c.room-n.result ≤ held_size) = room_fits c.args.used (length c.args.piece.now) start_fits c.room-n.ensures in
    let long : length c.joined-all.result ≡ held_size = search rules in
    sym (length-take-le _ _ (omega (arith, room-there)))

pub tell-requires : goal.tell-requires
unfolding part
tell-requires c =
    let memory : Memories = memories c.args.table.now c.args.index.now in
    let size : length c.args.handle.now ≡ handle_size = handle-length c.args.handle.now c.requires.0.going.handle-is in
    let lent : Lent c.args.handle.now = search (rules, c.slice_known-1) in
    let put-bytes : Bytes c.put_used.new.out = lent-bytes c.put_used.new.out (search (rules, c.slice_known-5-1)) in
    let piece_bytes : Bytes c.args.piece.now = lent-bytes c.args.piece.now (search (rules, c.shared_slice_known-1)) in
    (told-there _ _ _ c.args.event.now (unheld-ready c.args.handle.now memory c.requires.0 lent c.put_used.ensures) put-bytes (mended-bytes c.args.handle.now memory c.requires.0 lent c.put_used.ensures c.args.piece.now c.args.used c.room-n.result c.joined-all.result c.requires.1.1.0 c.room-n.ensures c.joined-all.ensures piece_bytes) c.requires.1.1.1 (search (rules, size)) c.straight-number.ensures).asked

pub overflow_cast-used : goal.overflow_cast-used
overflow_cast-used c =
    let start_fits : c.args.used ≤ held_size = rw c.requires.1.1.0 c.requires.0.start in
    omega (arith, start_fits)

pub overflow_mul-used : goal.overflow_mul-used
overflow_mul-used c =
    let start_fits : c.args.used ≤ held_size = rw c.requires.1.1.0 c.requires.0.start in
    omega (arith, start_fits)

pub overflow_sub-number : goal.overflow_sub-number
unfolding part
overflow_sub-number c =
    let memory : Memories = memories c.args.table.now c.args.index.now in
    let lent : Lent c.args.handle.now = search (rules, c.slice_known-1) in
    mended-past c.args.handle.now memory c.requires.0 lent c.put_used.ensures c.args.piece.now c.args.used c.room-n.result c.joined-all.result c.requires.1.1.0 c.room-n.ensures c.joined-all.ensures c.straight-number.ensures

pub heeded-requires : goal.heeded-requires
heeded-requires c =
    let size : length c.args.handle.now ≡ handle_size = handle-length c.args.handle.now c.requires.0.going.handle-is in
    search (rules, size)

pub returns : goal.returns
unfolding part
returns c =
    let memory : Memories = memories c.args.table.now c.args.index.now in
    let size : length c.args.handle.now ≡ handle_size = handle-length c.args.handle.now c.requires.0.going.handle-is in
    let lent : Lent c.args.handle.now = search (rules, c.slice_known-1) in
    let put-bytes : Bytes c.put_used.new.out = lent-bytes c.put_used.new.out (search (rules, c.slice_known-5-1)) in
    let piece_bytes : Bytes c.args.piece.now = lent-bytes c.args.piece.now (search (rules, c.shared_slice_known-1)) in
    let t = told-there _ _ _ c.args.event.now (unheld-ready c.args.handle.now memory c.requires.0 lent c.put_used.ensures) put-bytes (mended-bytes c.args.handle.now memory c.requires.0 lent c.put_used.ensures c.args.piece.now c.args.used c.room-n.result c.joined-all.result c.requires.1.1.0 c.room-n.ensures c.joined-all.ensures piece_bytes) c.requires.1.1.1 (search (rules, size)) c.straight-number.ensures in record { heeds = heeded-as c.args.handle.now memory c.requires.0.going c.requires.0.start lent c.args.piece.now piece_bytes (mended-whole c.args.handle.now memory c.requires.0 lent c.put_used.ensures c.args.piece.now c.args.used c.room-n.result c.joined-all.result c.requires.1.1.0 c.room-n.ensures c.joined-all.ensures c.straight-number.ensures) c.requires.1.1.0 c.heeded.ensures.number c.heeded.ensures.handle_after; event_after = c.tell.ensures ∙ t.is ∙ ap (λ (x : stream.Answer (Event Said)). told_memory x c.args.event.now) (mended-answer c.args.handle.now memory c.requires.0 lent c.put_used.ensures c.args.piece.now c.args.used c.room-n.result c.joined-all.result c.requires.1.1.0 c.room-n.ensures c.joined-all.ensures) }
