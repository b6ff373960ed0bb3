-- `packet::login_follows` meets its contract.
use mathlib.Core.Path.{◌≡◌, ap, ◌∙◌}
use mathlib.Core.Bool.{not}
use native.Mathlib.Omega.{arith}
use borrow.Author.Rules.{rules}
use borrow.Author.Tests.{ne_eqb}
use lib.ListN.{length}
use Rattle.packet.specs.Line.{session_size}
use Rattle.packet.proofs.Ways.{other-number, any-session, same-session}
use Rattle.packet.proofs.login_follows.Goals as goal

pub equal-requires : goal.equal-requires
equal-requires c =
    let ten : length c.args.line.session ≡ session_size = search rules in
    omega arith

pub returns-then-not-line : goal.returns-then-not-line
returns-then-not-line c =
    ap not c.if-not-line.true ∙ any-session c.args.line _ c.args.n c.if-n-line.true c.if-not-line.true

pub returns-else-not-line : goal.returns-else-not-line
returns-else-not-line c = search (same-session, rules)

pub returns-else-n-line : goal.returns-else-n-line
returns-else-n-line c = ne_eqb _ _ c.if-n-line.false ∙ other-number c.args.line _ c.args.n c.if-n-line.false
