-- `toplist::session::takes_more` meets its contract: a refusal is one, or there is none.
use Rattle.std.proofs.Common.{arith}
use Rattle.toplist.proofs.Feeding.{refused-takes, open-takes}
use Rattle.toplist.proofs.session.takes_more.Goals as goal

pub returns-then-reader-ne0 : goal.returns-then-reader-ne0
returns-then-reader-ne0 c = refused-takes c.args.reader (λ e. c.if-reader-ne0.true (omega (arith, e)))

pub returns : goal.returns
returns c = open-takes c.args.reader (omega (arith, c.if-reader-ne0.false))
