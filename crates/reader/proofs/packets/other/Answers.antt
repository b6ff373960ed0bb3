-- `reader::packets::other` meets its contract.
use borrow.Author.Rules.{rules}
use native.Mathlib.Omega.{arith}
use mathlib.Core.Path.{◌≡◌, ap, ◌∙◌}
use Prim.Native.Nat.{◌≤◌}
use lib.ListN.{length}
use Rattle.field.proofs.Numbers.{Lent}
use Rattle.packet.specs.Line.{packet_of}
use Rattle.handle.specs.Handle.{handle_size, head_of, with_field, refusal_field}
use Rattle.handle.specs.declared.Head.{Head}
use Rattle.handle.proofs.Rounds.{handle-length}
use Rattle.reader.proofs.Ways.{login-long}
use Rattle.reader.proofs.Judged.{other-login, other-rejected, other-heartbeat, other-end, other-skipped, other-refused, other-never}
use Rattle.reader.proofs.packets.other.Goals as goal
use Rattle.std.specs.Prelude.{ℕ, ◌+◌}

-- what is known when the packet was judged

pub read_head-head-requires : goal.read_head-head-requires
read_head-head-requires c =
    let size : length c.args.handle.now ≡ handle_size = handle-length c.args.handle.now c.requires.0.1.going.handle-is in
    search (rules, size)

pub log_in-requires : goal.log_in-requires
log_in-requires c =
    let size : length c.args.handle.now ≡ handle_size = handle-length c.args.handle.now c.requires.0.1.going.handle-is in
    let long : 10 ≤ length c.args.body.now = search (login-long, rules) in
    (search (rules, size), long)

pub put_ended-requires : goal.put_ended-requires
put_ended-requires c =
    let size : length c.args.handle.now ≡ handle_size = handle-length c.args.handle.now c.requires.0.1.going.handle-is in
    search (rules, size)

pub put_ended-requires-in-End : goal.put_ended-requires-in-End
put_ended-requires-in-End c =
    let size : length c.args.handle.now ≡ handle_size = handle-length c.args.handle.now c.requires.0.1.going.handle-is in
    search (rules, size)

pub refuse-requires : goal.refuse-requires
refuse-requires c =
    let size : length c.args.handle.now ≡ handle_size = handle-length c.args.handle.now c.requires.0.1.going.handle-is in
    search (rules, size)

pub returns-in-Login : goal.returns-in-Login
returns-in-Login c =
    let lent : Lent c.args.handle.now = search (rules, c.slice_known-1) in
    let judged : (c.judge.result ≡ packet_of (head_of c.args.handle.now).line c.args.letter c.args.body.now) = c.judge.ensures ∙ ap (λ (x : Head). packet_of x.line c.args.letter c.args.body.now) c.read_head-head.ensures in
    let long : 10 ≤ length c.args.body.now = search (login-long, rules) in record { closes = other-login c.args.handle.now c.requires.0 lent c.args.letter c.args.body.now judged long c.in-Login.is c.log_in.ensures; low_half = omega arith }

pub returns-in-Rejected : goal.returns-in-Rejected
returns-in-Rejected c =
    let lent : Lent c.args.handle.now = search (rules, c.slice_known-1) in
    let judged : (c.judge.result ≡ packet_of (head_of c.args.handle.now).line c.args.letter c.args.body.now) = c.judge.ensures ∙ ap (λ (x : Head). packet_of x.line c.args.letter c.args.body.now) c.read_head-head.ensures in record { closes = other-rejected c.args.handle.now c.requires.0 lent c.args.letter c.args.body.now judged c.in-Rejected.is c.put_ended.ensures; low_half = omega arith }

pub returns-in-Message : goal.returns-in-Message
returns-in-Message c =
    let lent : Lent c.args.handle.now = search (rules, c.slice_known-1) in
    let judged : (c.judge.result ≡ packet_of (head_of c.args.handle.now).line c.args.letter c.args.body.now) = c.judge.ensures ∙ ap (λ (x : Head). packet_of x.line c.args.letter c.args.body.now) c.read_head-head.ensures in record { closes = λ t. other-never c.args.handle.now c.requires.0 lent c.args.letter c.args.body.now judged c.in-Message.is c.requires.1; low_half = omega arith }

pub returns-in-Heartbeat : goal.returns-in-Heartbeat
returns-in-Heartbeat c =
    let lent : Lent c.args.handle.now = search (rules, c.slice_known-1) in
    let judged : (c.judge.result ≡ packet_of (head_of c.args.handle.now).line c.args.letter c.args.body.now) = c.judge.ensures ∙ ap (λ (x : Head). packet_of x.line c.args.letter c.args.body.now) c.read_head-head.ensures in record { closes = other-heartbeat c.args.handle.now c.requires.0 lent c.args.letter c.args.body.now judged c.in-Heartbeat.is; low_half = omega arith }

pub returns-in-End : goal.returns-in-End
returns-in-End c =
    let lent : Lent c.args.handle.now = search (rules, c.slice_known-1) in
    let judged : (c.judge.result ≡ packet_of (head_of c.args.handle.now).line c.args.letter c.args.body.now) = c.judge.ensures ∙ ap (λ (x : Head). packet_of x.line c.args.letter c.args.body.now) c.read_head-head.ensures in record { closes = other-end c.args.handle.now c.requires.0 lent c.args.letter c.args.body.now judged c.in-End.is c.put_ended-in-End.ensures; low_half = omega arith }

pub returns-in-Skipped : goal.returns-in-Skipped
returns-in-Skipped c =
    let lent : Lent c.args.handle.now = search (rules, c.slice_known-1) in
    let judged : (c.judge.result ≡ packet_of (head_of c.args.handle.now).line c.args.letter c.args.body.now) = c.judge.ensures ∙ ap (λ (x : Head). packet_of x.line c.args.letter c.args.body.now) c.read_head-head.ensures in record { closes = other-skipped c.args.handle.now c.requires.0 lent c.args.letter c.args.body.now judged c.in-Skipped.is; low_half = omega arith }

pub returns-in-Refused : goal.returns-in-Refused
returns-in-Refused c =
    let lent : Lent c.args.handle.now = search (rules, c.slice_known-1) in
    let judged : (c.judge.result ≡ packet_of (head_of c.args.handle.now).line c.args.letter c.args.body.now) = c.judge.ensures ∙ ap (λ (x : Head). packet_of x.line c.args.letter c.args.body.now) c.read_head-head.ensures in record { closes = other-refused c.args.handle.now c.requires.0 lent c.args.letter c.args.body.now judged c.from.result c.in-Refused.is c.from.ensures (c.refuse.ensures.value ∙ ap (λ (n : ℕ). 2048 + n) c.from-in-Refused.ensures) (c.refuse.ensures.handle_after ∙ ap (λ (n : ℕ). with_field refusal_field n c.args.handle.now) c.from-in-Refused.ensures); low_half = omega (arith, c.refuse.ensures.value, c.from-in-Refused) }
