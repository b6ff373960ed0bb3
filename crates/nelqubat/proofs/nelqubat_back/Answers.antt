-- `nelqubat::nelqubat_back` meets its contract.
use Rattle.nelqubat.proofs.Ways.{move-goes, move-fits}
use Rattle.nelqubat.proofs.nelqubat_back.Goals as goal

pub saved_number-requires : goal.saved_number-requires
saved_number-requires c = search move-fits

pub returns : goal.returns
returns c = search move-goes
