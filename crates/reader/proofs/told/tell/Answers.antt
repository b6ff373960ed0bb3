-- `reader::told::tell` meets its contract.
use borrow.Author.Tests.{eqb-true, eqb-false}
use native.Mathlib.Omega.{arith}
use mathlib.Core.Path.{◌≡◌, refl, sym, ◌∙◌}
use Prim.Native.Nat.{◌%◌}
use Rattle.reader.proofs.Telling.{tell-login, tell-rejected, tell-nothing}
use Rattle.reader.proofs.told.tell.Goals as goal

-- it is no message

pub tell_message-requires : goal.tell_message-requires
tell_message-requires c =
    (eqb-true (c.args.number % 65_536) 768 (sym c.is_message.ensures ∙ c.if-is_message.true), (c.args.handle.now, c.requires))

pub returns-then-is_message : goal.returns-then-is_message
returns-then-is_message c = c.tell_message.ensures c.args.handle.now

pub copy_login-requires : goal.copy_login-requires
copy_login-requires c = (c.requires.handle-long, omega (arith, c.requires.long))

pub returns-then-kind-eq-LOGIN : goal.returns-then-kind-eq-LOGIN
returns-then-kind-eq-LOGIN c =
    tell-login c.args.number c.args.handle.now c.args.bytes.now c.args.event.now refl c.if-kind-eq-LOGIN.true c.copy_login.ensures

pub bounds-bytes-3 : goal.bounds-bytes-3
bounds-bytes-3 c = omega (arith, c.requires.reasoned c.if-kind-eq-REJECTED.true)

pub write-requires : goal.write-requires
write-requires c = omega (arith, c.requires.long)

pub returns-then-kind-eq-REJECTED : goal.returns-then-kind-eq-REJECTED
returns-then-kind-eq-REJECTED c =
    tell-rejected c.args.number c.args.handle.now c.args.bytes.now c.args.event.now refl c.if-kind-eq-REJECTED.true c.write.ensures

pub returns-else-kind-eq-REJECTED : goal.returns-else-kind-eq-REJECTED
returns-else-kind-eq-REJECTED c =
    let other : c.args.number % 65_536 ≡ 768 → ⊥ = eqb-false (c.args.number % 65_536) 768 (sym c.is_message.ensures ∙ c.if-is_message.false) in
    tell-nothing c.args.number c.args.handle.now c.args.bytes.now c.args.event.now refl other c.if-kind-eq-LOGIN.false c.if-kind-eq-REJECTED.false
