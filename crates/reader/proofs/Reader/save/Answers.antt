-- `reader::Reader::save` meets its contract.
use borrow.Author.Rules.{rules}
use Rattle.reader.proofs.Kept.{save-unfit, save-goes}
use Rattle.reader.proofs.Reader.save.Goals as goal

pub returns-then-not-keep : goal.returns-then-not-keep
returns-then-not-keep c = search (save-unfit, rules)

pub returns : goal.returns
returns c = search (save-goes, rules)
