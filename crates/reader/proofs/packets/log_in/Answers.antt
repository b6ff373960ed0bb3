-- `reader::packets::log_in` meets its contract.
use borrow.Author.Rules.{rules}
use Rattle.reader.proofs.Judged.{logged-laid}
use Rattle.reader.proofs.packets.log_in.Goals as goal

pub returns : goal.returns
returns c = search (logged-laid, rules)
