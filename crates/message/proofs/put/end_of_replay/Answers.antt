-- `message::put::end_of_replay` meets its contract.
use borrow.Author.Rules.{rules}
use Rattle.message.proofs.Puts.{end-of-replay-put, twenty}
use Rattle.message.proofs.put.end_of_replay.Goals as goal

pub write_number_before_spaces-requires : goal.write_number_before_spaces-requires
write_number_before_spaces-requires c = (search rules, search (twenty, rules))

pub returns : goal.returns
returns c = search (end-of-replay-put, rules)
