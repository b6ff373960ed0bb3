-- `packet::is_message` meets its contract.
use Rattle.packet.proofs.Messages.{message-missing, message-row}
use Rattle.packet.proofs.is_message.Goals as goal

pub returns-in-None : goal.returns-in-None
returns-in-None c = search message-missing

pub returns-in-Some : goal.returns-in-Some
returns-in-Some c = search message-row
