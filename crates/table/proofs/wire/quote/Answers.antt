-- `table::wire::quote` meets its contract.
use borrow.Author.Rules.{rules}
use Rattle.table.proofs.Wired.{quote-refused, quote-kept}
use Rattle.table.proofs.wire.quote.Goals as goal

pub returns-then-not-takes_quote : goal.returns-then-not-takes_quote
returns-then-not-takes_quote c = quote-refused _ c.takes_quote.ensures (search rules)

pub returns : goal.returns
returns c = quote-kept _ c.takes_quote.ensures (search rules) c.put_quote.ensures
