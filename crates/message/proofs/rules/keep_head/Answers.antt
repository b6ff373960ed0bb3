-- `message::rules::keep_head` meets its contract.
use Rattle.message.proofs.rules.keep_head.Goals as goal

pub returns : goal.returns
returns c = rw (c.time_in_range.ensures, c.is_condition.ensures)
