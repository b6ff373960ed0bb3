-- `reader::told::message` meets its contract.
use Rattle.reader.proofs.Answers.{message-heard, nothing-heard}
use Rattle.reader.proofs.told.message.Goals as goal

pub returns-in-Some : goal.returns-in-Some
returns-in-Some c = search message-heard

pub returns-in-None : goal.returns-in-None
returns-in-None c = search nothing-heard
