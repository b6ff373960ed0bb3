-- `message::put::side` meets its contract.
use Rattle.message.specs.Letters.{map_side}
use Rattle.message.proofs.Puts.{side-put}
use Rattle.message.proofs.put.side.Goals as goal

pub returns : goal.returns
returns g c =
    rw c.side_code.ensures at (side-put g.T.Number.width g.T.Width.form.keeps c.args.out.now (map_side g.T.Number.number c.args.m) _ c.requires c.head.ensures c.put.ensures)
