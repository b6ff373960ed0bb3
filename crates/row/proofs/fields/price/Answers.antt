-- `row::fields::price` meets its contract.
use borrow.Author.Rules.{rules}
use Rattle.message.specs.Layout.{price_from}
use Rattle.row.proofs.Puts.{price-read}
use Rattle.row.proofs.fields.price.Goals as goal

pub returns : goal.returns
unfolding price_from
returns c = search (price-read, rules)
