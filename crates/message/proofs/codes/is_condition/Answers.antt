-- `message::codes::is_condition` meets its contract.
use Rattle.message.proofs.Ways.{is-condition}
use Rattle.message.proofs.codes.is_condition.Goals as goal

pub returns : goal.returns
returns c = is-condition c.args.code
