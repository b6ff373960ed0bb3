-- `record::back::middle` meets its contract.
use borrow.Author.Rules.{rules}
use mathlib.Core.Path.{refl}
use native.Mathlib.Omega.{arith}
use lib.ListN.{take, drop}
use Rattle.message.specs.Letters.{instrument_rows}
use Rattle.record.specs.Places.{record_size, instrument_places}
use Rattle.record.proofs.Moved.{paired, moved}
use Rattle.record.proofs.back.middle.Goals as goal

pub returns : goal.returns
unfolding paired
returns c =
    moved record_size (take 3 (drop 5 instrument_places)) (take 3 (drop 5 instrument_rows)) c.args.kept.now c.args.out.now refl (omega arith) (search rules) (_, c.carry.ensures, (_, c.carry-2.ensures, (_, c.carry-3.ensures, refl)))
