-- `packet::room` meets its contract.
use native.Mathlib.Omega.{arith}
use Rattle.packet.specs.Frame.{room_for}
use Rattle.packet.proofs.room.Goals as goal

pub returns : goal.returns
unfolding room_for
returns c = grind arith
