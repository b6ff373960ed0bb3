-- `message::entry::is_underlying` meets its contract.
use mathlib.Core.Path.{◌≡◌}
use lib.ListN.{length}
use borrow.Author.Rules.{rules}
use Rattle.message.proofs.Ways.{text-whole}
use Rattle.message.proofs.entry.is_underlying.Goals as goal

pub returns : goal.returns
returns c = let h : length c.args.t.underlying ≡ 13 = search rules in text-whole _ 13 h c.is_text.ensures
