-- `message::numbers::read` meets its contract.
use Rattle.message.proofs.Widths.{numbers-read}
use Rattle.message.proofs.numbers.read.Goals as goal

pub returns : goal.returns
returns g c =
    numbers-read g.T.Number.number g.T.Number.width g.T.Width.form.keeps c.args.bytes.now c.size-size.ensures.0 c.args.at c.read.ensures c.read-2.ensures c.price.ensures c.read-3.ensures c.read-4.ensures c.read-5.ensures
