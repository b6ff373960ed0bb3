-- `nelqubat::put_line` meets its contract.
use borrow.Author.Rules.{rules}
use native.Mathlib.Omega.{arith}
use mathlib.Core.Path.{◌≡◌}
use lib.ListN.{length}
use Rattle.listing.specs.Lines.{line_size}
use Rattle.nelqubat.proofs.Ways.{text-short, text-fits}
use Rattle.nelqubat.proofs.put_line.Goals as goal

pub returns-then-out-size : goal.returns-then-out-size
returns-then-out-size c = search (text-short, rules)

pub copy-requires : goal.copy-requires
copy-requires c =
    let long : length c.args.text.text ≡ line_size = search rules in
    (omega (arith, c.requires, long), search rules)

pub returns : goal.returns
returns c =
    text-fits c.args.text.text c.args.size c.args.out.now c.requires (search rules) _ (search rules) c.copy.ensures
