-- `record::back::end_of_replay` meets its contract.
use borrow.Author.Rules.{rules}
use Rattle.message.proofs.Puts.{twenty}
use Rattle.record.proofs.Moved.{end_back}
use Rattle.record.proofs.back.end_of_replay.Goals as goal

pub write_number_before_spaces-requires : goal.write_number_before_spaces-requires
write_number_before_spaces-requires c = (search rules, search (twenty, rules))

pub returns : goal.returns
returns c = search (end_back, rules)
