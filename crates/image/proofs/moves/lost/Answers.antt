-- `image::moves::lost` meets its contract.
use mathlib.Core.Path.{ap}
use Rattle.image.specs.declared.Header.{Header}
use Rattle.image.proofs.Writes.{lost-taken, lost-long, lost-counted, lost-refused}
use Rattle.image.proofs.moves.lost.Goals as goal

pub read-header-requires : goal.read-header-requires
read-header-requires c = search lost-long

pub known_in-requires : goal.known_in-requires
known_in-requires c = (search lost-taken, ap (λ (h : Header). h.board.rows) c.read-header.ensures)

pub returns-in-Ok : goal.returns-in-Ok
returns-in-Ok c = search lost-counted

pub returns-in-Err : goal.returns-in-Err
returns-in-Err c = search lost-refused
