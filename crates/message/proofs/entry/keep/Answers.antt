-- `message::entry::keep` meets its contract.
use mathlib.Core.Bool.{and-true}
use Rattle.message.specs.Layout.{keeps_all}
use Rattle.message.proofs.entry.keep.Goals as goal

pub returns : goal.returns
unfolding keeps_all
returns c = simp and-true (rw (c.is_symbol.ensures, c.is_within.ensures, c.is_within-2.ensures, c.is_within-3.ensures, c.price_in_range.ensures, c.is_type.ensures, c.is_underlying.ensures, c.is_closing.ensures, c.is_tradable.ensures, c.is_variation.ensures))
