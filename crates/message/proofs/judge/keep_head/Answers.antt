-- `message::judge::keep_head` meets its contract.
use Rattle.message.proofs.Ways.{quote-head}
use Rattle.message.proofs.judge.keep_head.Goals as goal

pub returns : goal.returns
returns c = quote-head c.time.ensures c.condition.ensures c.keep_head.ensures
