-- `message::lengths::length_of` meets its contract.
use mathlib.Core.Path.{refl, ◌∙◌}
use Rattle.message.specs.Feed.{length_table}
use Rattle.message.specs.Letters.{letters, letter_in, unlisted}
use Rattle.message.proofs.Feeds.{table-length, unlisted_length, own-length}
use Rattle.message.proofs.lengths.length_of.Goals as goal

pub returns-in-0 : goal.returns-in-0
unfolding letters length_table
returns-in-0 c = unlisted_length (letter_in letters c.args.letter) (c.length_in.ensures ∙ table-length unlisted refl letters _) c.in-0.is

pub returns-in_default : goal.returns-in_default
unfolding letters length_table
returns-in_default c = own-length (letter_in letters c.args.letter) (c.length_in.ensures ∙ table-length unlisted refl letters _) (λ z. c.in_default.in_default-own.rest.1 z)
