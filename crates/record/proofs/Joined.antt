-- What a message's bytes lay over zeros is the record of the message that they say.
-- Assumes nothing.
use mathlib.Core.Path.{◌≡◌, refl, sym, ap, ◌∙◌}
use mathlib.Core.List.{List, ◌∷◌}
use Prim.Native.Nat.{ℕ}
use native.Mathlib.Omega.{arith}
use lib.ListN.{length, get_or, replicate, length-replicate}
use Rattle.field.specs.Bytes.{overlay}
use Rattle.field.proofs.Numbers.{be-one}
use Rattle.field.proofs.Parts.{overlay-whole}
use Rattle.message.specs.Layout.{values}
use Rattle.message.specs.Feed.{Letter, Sized}
use Rattle.message.specs.Letters.{Content, letters, letter_in, letter_for, unlisted}
use Rattle.message.specs.Message.{refused, told, read_of}
use Rattle.message.specs.Test.{tested}
use Rattle.message.specs.declared.Message.{Message}
use Rattle.message.specs.declared.Reading.{Reading}
use Rattle.message.proofs.Feeds.{Verdict, empty, unknown, long, field, whole, code-found}
use Rattle.message.proofs.Table.{found-makes}
use Rattle.message.proofs.Verdicts.{read-verdict}
use Rattle.record.specs.Places.{record_size, places_for, record_letters}
use Rattle.record.specs.Record.{laid_from, laid_over, record_bytes, read_to}
use Rattle.record.proofs.Rounds.{placed}

-- a listed letter's fields are laid as the message that they make is
wire-laid : (c : ℕ) (bs xs : List ℕ) → ((letter_in letters c).size ≡ 0 → ⊥)
    → laid_from (c ∷ bs) xs ≡ laid_over ((letter_in letters c).makes (values (letter_in letters c).rows (c ∷ bs))).0 ((letter_in letters c).makes (values (letter_in letters c).rows (c ∷ bs))).1 xs
unfolding laid_from laid_over values
wire-laid c bs xs some =
    let l = letter_in letters c in
    let m : Message = (l.makes (values l.rows (c ∷ bs))).0 in
    let w = found-makes c (c ∷ bs) some in
    let code : (letter_for m).code ≡ c = ap (λ (x : Letter Content). x.code) w.own ∙ code-found unlisted refl letters c some in
    let places : (letter_in record_letters c).rows ≡ places_for m = rw code at (ap (λ (x : Letter Content). x.rows) (placed m).letter) in
    rw (places, w.fields, code, be-one (c ∷ bs) 0 (omega arith))

-- bytes that pass the test, and their record
record Tested (bs : List ℕ) (r : Reading) (memory : List ℕ) : Type 0 where
  sized : Sized (letter_in letters (get_or bs 0 0)) bs
  record-laid : laid_from bs (replicate record_size 0) ≡ (read_to r.answer r.texts memory).memory

by-verdict : {bs : List ℕ} {r : Reading} (memory : List ℕ) → Verdict told refused (letter_in letters) bs r → tested r ≡ 0 → Tested bs r memory
unfolding read_to record_bytes
by-verdict memory empty t = absurd (omega arith)
by-verdict memory (unknown c bs e) t = absurd (omega arith)
by-verdict memory (long c bs h l) t = absurd (omega arith)
by-verdict memory (field c bs s e) t = absurd (omega arith)
by-verdict memory (whole c bs s e) t = record { sized = s; record-laid = wire-laid c bs (replicate record_size 0) s.is_listed }

pub tested-sized : (bs : List ℕ) → tested (read_of bs) ≡ 0 → Sized (letter_in letters (get_or bs 0 0)) bs
tested-sized bs t = (by-verdict bs (read-verdict bs) t).sized

-- laid over zeros
pub wire-put : (bs xs : List ℕ) {us zs : List ℕ} → tested (read_of bs) ≡ 0 → length xs ≡ record_size → us ≡ overlay xs 0 (replicate record_size 0) → zs ≡ laid_from bs us
    → zs ≡ (read_to (read_of bs).answer (read_of bs).texts xs).memory
wire-put bs xs t h e f =
    f ∙ ap (laid_from bs) (e ∙ overlay-whole xs (replicate record_size 0) (length-replicate {A = ℕ} record_size 0 ∙ sym h)) ∙ (by-verdict xs (read-verdict bs) t).record-laid
