-- The words of each way; on the way back the times lost stand between them.
use Rattle.topmove.proofs.Texts.{rest-forward, rest_back}
use Rattle.topmove.proofs.line.put_rest.Goals as goal

pub returns-in-Forward : goal.returns-in-Forward
returns-in-Forward c =
    let put = rest-forward c.args.out.now c.args.at c.args.way c.args.lost c.in-Forward.is c.copy.ensures in
    record { out_after = put.0; value = put.1 }

pub returns-in-Back : goal.returns-in-Back
returns-in-Back c =
    let put = rest_back c.args.out.now c.args.at c.args.way c.args.lost c.in-Back.is c.requires (c.put_number-end.ensures.out_after, c.put_number-end.ensures.value) c.copy-in-Back.ensures in
    record { out_after = put.0; value = put.1 }
