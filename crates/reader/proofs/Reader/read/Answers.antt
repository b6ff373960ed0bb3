-- `reader::Reader::read` meets its contract.
use Rattle.reader.proofs.Views.{reader-there}
use Rattle.reader.proofs.Reader.read.Goals as goal

pub returns : goal.returns
returns c = search reader-there
