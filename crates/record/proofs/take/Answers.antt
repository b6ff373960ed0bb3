-- `record::take` meets its contract.
use mathlib.Core.Path.{◌≡◌, refl, ap, ◌∙◌}
use lib.ListN.{length, get_or}
use borrow.Author.Rules.{rules}
use Rattle.message.specs.Letters.{letters, letter_in}
use Rattle.message.proofs.Feeds.{has-none, has-length}
use Rattle.record.specs.Places.{record_size}
use Rattle.record.specs.Record.{record_of}
use Rattle.record.proofs.Ways.{take_long}
use Rattle.record.proofs.Sent.{take-unlisted, take-stray, take_own}
use Rattle.record.proofs.take.Goals as goal

pub returns-in_default : goal.returns-in_default
returns-in_default c = take_long _ c.in_default.ensures.1 c.none.ensures

pub returns-in_default-length_of : goal.returns-in_default-length_of
returns-in_default-length_of c =
    let h : length c.in-Ok.kept.now ≡ record_size = search rules in
    take-unlisted _ h refl (has-none (letter_in letters _) c.length_of.ensures c.in_default-length_of.is) c.none-in_default-length_of.ensures ∙ ap record_of c.in-Ok.ensures.1.same

pub returns-then-not-is_own : goal.returns-then-not-is_own
returns-then-not-is_own c =
    let h : length c.in-Ok.kept.now ≡ record_size = search rules in
    let l : (c.in-Some.field-0 ≡ (letter_in letters (get_or c.in-Ok.kept.now 0 0)).size) × (c.in-Some.field-0 ≡ 0 → ⊥)
    = has-length (letter_in letters _) c.length_of.ensures c.in-Some.is in
    take-stray _ h l.0 l.1 c.is_own.ensures (search rules) c.none-then-not-is_own.ensures ∙ ap record_of c.in-Ok.ensures.1.same

pub returns : goal.returns
returns c =
    let h : length c.in-Ok.kept.now ≡ record_size = search rules in
    let l : (c.in-Some.field-0 ≡ (letter_in letters (get_or c.in-Ok.kept.now 0 0)).size) × (c.in-Some.field-0 ≡ 0 → ⊥)
    = has-length (letter_in letters _) c.length_of.ensures c.in-Some.is in
    take_own _ h l.0 l.1 c.is_own.ensures (search rules) c.message.ensures ∙ ap record_of c.in-Ok.ensures.1.same
