-- The line's start, and the rest behind it.
use Rattle.topmove.proofs.Texts.{line-put}
use Rattle.topmove.proofs.line.put.Goals as goal

pub returns : goal.returns
returns c =
    let put = line-put c.args.out.now c.requires c.args.moved c.args.way (c.put_start-end.ensures.out_after, c.put_start-end.ensures.value) (c.put_rest.ensures.out_after, c.put_rest.ensures.value) in
    record { out_after = put.0; value = put.1 }
