-- `message::entry::is_symbol` meets its contract.
use mathlib.Core.Path.{◌≡◌}
use lib.ListN.{length}
use borrow.Author.Rules.{rules}
use Rattle.message.proofs.Ways.{text-whole}
use Rattle.message.proofs.entry.is_symbol.Goals as goal

pub returns : goal.returns
returns c = let h : length c.args.t.symbol ≡ 8 = search rules in text-whole _ 8 h c.is_text.ensures
