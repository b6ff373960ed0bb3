-- `record::write` meets its contract.
use mathlib.Core.Path.{◌≡◌, refl, ap, ◌∙◌}
use mathlib.Core.List.{List}
use Prim.Native.Nat.{ℕ, ◌≤◌}
use lib.ListN.{length, get_or}
use borrow.Author.Rules.{rules}
use Rattle.message.specs.Letters.{letters, letter_in, directory_letter}
use Rattle.message.proofs.Feeds.{has-none, has-length}
use Rattle.record.specs.Places.{record_size}
use Rattle.record.specs.Record.{write_answer}
use Rattle.record.proofs.Ways.{write-long}
use Rattle.record.proofs.Sent.{size-most, sent-unlisted, sent-broken, sent-stray, sent-short, sent-whole}
use Rattle.record.proofs.write.Goals as goal

pub returns-in_default : goal.returns-in_default
returns-in_default c = write-long _ _ c.in_default.ensures.1

pub returns-in_default-length_of : goal.returns-in_default-length_of
returns-in_default-length_of c =
    let h : length c.in-Ok.kept.now ≡ record_size = search rules in
    sent-unlisted _ _ _ h refl (has-none (letter_in letters _) c.length_of.ensures c.in_default-length_of.is) ∙ ap (λ (bs : List ℕ). write_answer bs c.args.out.now) c.in-Ok.ensures.1.same

pub returns-then-not-keep : goal.returns-then-not-keep
returns-then-not-keep c =
    let h : length c.in-Ok.kept.now ≡ record_size = search rules in
    let l : (c.in-Some.size ≡ (letter_in letters (get_or c.in-Ok.kept.now 0 0)).size) × (c.in-Some.size ≡ 0 → ⊥)
    = has-length (letter_in letters _) c.length_of.ensures c.in-Some.is in
    sent-broken _ _ _ h l.0 l.1 c.keep.ensures (search rules) ∙ ap (λ (bs : List ℕ). write_answer bs c.args.out.now) c.in-Ok.ensures.1.same

pub returns-then-not-is_own : goal.returns-then-not-is_own
returns-then-not-is_own c =
    let h : length c.in-Ok.kept.now ≡ record_size = search rules in
    let l : (c.in-Some.size ≡ (letter_in letters (get_or c.in-Ok.kept.now 0 0)).size) × (c.in-Some.size ≡ 0 → ⊥)
    = has-length (letter_in letters _) c.length_of.ensures c.in-Some.is in
    sent-stray _ _ _ h l.0 l.1 c.is_own.ensures (search rules) ∙ ap (λ (bs : List ℕ). write_answer bs c.args.out.now) c.in-Ok.ensures.1.same

pub returns-then-out-size : goal.returns-then-out-size
returns-then-out-size c =
    let h : length c.in-Ok.kept.now ≡ record_size = search rules in
    let l : (c.in-Some.size ≡ (letter_in letters (get_or c.in-Ok.kept.now 0 0)).size) × (c.in-Some.size ≡ 0 → ⊥)
    = has-length (letter_in letters _) c.length_of.ensures c.in-Some.is in
    sent-short _ _ _ h l.0 l.1 c.keep.ensures (search rules) c.is_own.ensures (search rules) (search rules) ∙ ap (λ (bs : List ℕ). write_answer bs c.args.out.now) c.in-Ok.ensures.1.same

pub overflow_cast-result : goal.overflow_cast-result
overflow_cast-result c =
    let h : c.in-Some.size ≤ directory_letter.size = size-most _ (has-length (letter_in letters _) c.length_of.ensures c.in-Some.is).0 in
    search rules

pub overflow_mul-result : goal.overflow_mul-result
overflow_mul-result c =
    let h : c.in-Some.size ≤ directory_letter.size = size-most _ (has-length (letter_in letters _) c.length_of.ensures c.in-Some.is).0 in
    search rules

pub returns : goal.returns
returns c =
    let h : length c.in-Ok.kept.now ≡ record_size = search rules in
    let l : (c.in-Some.size ≡ (letter_in letters (get_or c.in-Ok.kept.now 0 0)).size) × (c.in-Some.size ≡ 0 → ⊥)
    = has-length (letter_in letters _) c.length_of.ensures c.in-Some.is in
    sent-whole _ _ _ h l.0 l.1 c.keep.ensures (search rules) c.is_own.ensures (search rules) (search rules) (search rules) c.lay.ensures
    ∙ ap (λ (bs : List ℕ). write_answer bs c.args.out.now) c.in-Ok.ensures.1.same
