-- `reader::told::read_back` meets its contract.
use Rattle.reader.specs.Handles.{answer_for}
use Rattle.reader.proofs.Answers.{heard-at, heard-quiet, heard-rejected, heard-refused}
use Rattle.reader.proofs.told.read_back.Goals as goal

pub returns-in-0 : goal.returns-in-0
unfolding answer_for
returns-in-0 c = search heard-quiet

pub returns-in-1 : goal.returns-in-1
unfolding answer_for
returns-in-1 c = search heard-at

pub returns-in-2 : goal.returns-in-2
returns-in-2 c = search heard-rejected

pub returns-in-3 : goal.returns-in-3
unfolding answer_for
returns-in-3 c = search heard-at

pub returns-in-4 : goal.returns-in-4
unfolding answer_for
returns-in-4 c = search heard-quiet

pub returns-in-5 : goal.returns-in-5
unfolding answer_for
returns-in-5 c = search heard-quiet

pub returns-in-6 : goal.returns-in-6
unfolding answer_for
returns-in-6 c = search heard-quiet

pub returns-in-7 : goal.returns-in-7
unfolding answer_for
returns-in-7 c = search heard-quiet

pub returns-in_default : goal.returns-in_default
returns-in_default c = search heard-refused
