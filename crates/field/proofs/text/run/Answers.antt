-- `field::text::run` meets its contract.
use Rattle.std.proofs.Common.{rules}
use Rattle.field.specs.Bytes.{part}
use Rattle.field.specs.Text.{within}
use Rattle.field.proofs.Leads.{lead_of}
use Rattle.field.proofs.text.run.Goals as goal

pub returns : goal.returns
unfolding part
returns c = search (lead_of (within c.args.low c.args.high) c.args.s.now c.args.at c.args.n, rules)
