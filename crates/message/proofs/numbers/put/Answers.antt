-- `message::numbers::put` meets its contract.
use Rattle.message.specs.Letters.{map_numbers}
use Rattle.message.proofs.Puts.{numbers-put}
use Rattle.message.proofs.numbers.put.Goals as goal

pub returns : goal.returns
returns g c =
    numbers-put g.T.Number.width g.T.Width.form.keeps c.args.out.now c.args.at (map_numbers g.T.Number.number c.args.n) c.size-size.ensures.0 c.amount.ensures c.requires c.write.ensures c.write-2.ensures c.write-3.ensures c.write-4.ensures c.write-5.ensures
