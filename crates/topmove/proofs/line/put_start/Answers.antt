-- The version, and the rows behind it.
use Rattle.topmove.proofs.Texts.{start-put}
use Rattle.topmove.proofs.line.put_start.Goals as goal

pub returns : goal.returns
returns c =
    let put = start-put c.args.out.now c.requires c.args.moved (c.put_number-end.ensures.out_after, c.put_number-end.ensures.value) (c.put_number.ensures.out_after, c.put_number.ensures.value) in
    record { out_after = put.0; value = put.1 }
