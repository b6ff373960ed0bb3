-- `message::put::quote` meets its contract.
use Rattle.message.specs.Letters.{map_quote}
use Rattle.message.proofs.Puts.{quote-put}
use Rattle.message.proofs.put.quote.Goals as goal

pub returns : goal.returns
returns g c =
    rw c.quote_code.ensures at (quote-put g.T.Number.width g.T.Width.form.keeps c.args.out.now (map_quote g.T.Number.number c.args.m) _ c.size.ensures.0 c.requires c.head.ensures c.put.ensures c.put-2.ensures)
