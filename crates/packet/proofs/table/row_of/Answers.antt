-- `packet::table::row_of` meets its contract.
use mathlib.Core.Logic.{⊎_elim, inl, inr}
use Rattle.packet.specs.Table.{packet_table, entry_of}
use Rattle.packet.proofs.Ways.{at-letter, entry-missing}
use Rattle.packet.proofs.table.row_of.Goals as goal

pub returns-in-65 : goal.returns-in-65
unfolding entry_of packet_table
returns-in-65 c = at-letter c.in-65.is

pub returns-in-74 : goal.returns-in-74
unfolding entry_of packet_table
returns-in-74 c = at-letter c.in-74.is

pub returns-in-83 : goal.returns-in-83
unfolding entry_of packet_table
returns-in-83 c = at-letter c.in-83.is

pub returns-in-72 : goal.returns-in-72
unfolding entry_of packet_table
returns-in-72 c = at-letter c.in-72.is

pub returns-in-90 : goal.returns-in-90
unfolding entry_of packet_table
returns-in-90 c = at-letter c.in-90.is

pub returns-in-43 : goal.returns-in-43
unfolding entry_of packet_table
returns-in-43 c = ⊎_elim at-letter at-letter c.in-43.is

pub returns-in_default : goal.returns-in_default
returns-in_default c =
    let r = c.in_default.in_default-own.rest in
    entry-missing c.args.letter r.0.0.0.0.0.1 r.0.0.0.0.1 r.0.0.0.1 r.0.0.1 r.0.1 (λ e. r.1 (inl e)) (λ e. r.1 (inr e))
