-- THE ROUND TRIPS: what is written is read back, and what is read is written back.
-- Assumes nothing.
use mathlib.Core.Path.{◌≡◌, refl, ap, ◌∙◌}
use mathlib.Core.Bool.{true}
use mathlib.Core.List.{List, ◌∷◌}
use Prim.Native.Nat.{ℕ}
use lib.ListN.{length}
use Rattle.field.specs.Bytes.{Bytes}
use Rattle.message.specs.Layout.{values, tiled}
use Rattle.message.specs.Letters.{letters, letter_in, letter_for, unlisted, fields_of}
use Rattle.message.specs.Message.{accepted, refused, told, read_of, bytes_of, keeps, Typed, texts_with}
use Rattle.message.specs.declared.Message.{Message}
use Rattle.message.specs.declared.Texts.{Texts}
use Rattle.message.specs.declared.Reading.{Reading}
use Rattle.message.proofs.Layouts.{written-length}
use Rattle.message.proofs.Feeds.{tiled-found, bytes_back, written_read, Verdict, empty, unknown, long, field, whole}
use Rattle.message.proofs.Table.{is-listed-letter, found-makes, letters-tiled}
use Rattle.message.proofs.Verdicts.{read-verdict, clash}
use Rattle.std.specs.Prelude.{Ok}

-- ---- what is written is read back

module _ (m : Message) (t : Texts) (f : Typed m t) where
  tile : tiled 1 (letter_for m).rows (letter_for m).size ≡ true
  tile =
      let l = is-listed-letter m t in
      rw l.own at (tiled-found unlisted refl letters (letter_for m).code letters-tiled (rw l.own l.some))

  pub bytes-length : length (bytes_of m t) ≡ (letter_for m).size
  unfolding bytes_of
  bytes-length = written-length (letter_for m).rows (letter_for m).size tile (letter_for m).code (fields_of m t) f

  -- THEOREM: a record that keeps its rules is read back, with its texts, from the bytes that it is written as
  pub read-write : keeps m t ≡ true → read_of (bytes_of m t) ≡ accepted m (texts_with m t)
  unfolding read_of bytes_of keeps
  read-write k =
      let l = is-listed-letter m t in
      written_read told refused unlisted letters (letter_for m) (fields_of m t) l.own l.some tile f k ∙ ap told l.made

-- ---- what is read is written back

verdict-back : (bs : List ℕ) (x : Reading) → Bytes bs → Verdict told refused (letter_in letters) bs x → (m : Message) (t : Texts)
    → x ≡ accepted m t
    → (bytes_of m t ≡ bs) × (keeps m t ≡ true)
unfolding bytes_of keeps
verdict-back bs x s empty m t e = clash (ap (λ (y : Reading). y.answer) e)
verdict-back bs x s (unknown c rest i) m t e = clash (ap (λ (y : Reading). y.answer) e)
verdict-back bs x s (long c rest i j) m t e = clash (ap (λ (y : Reading). y.answer) e)
verdict-back bs x s (field c rest i j) m t e = clash (ap (λ (y : Reading). y.answer) e)
verdict-back bs x s (whole c rest i k) m t e =
    let l = letter_in letters c in
    let vs = values l.rows (c ∷ rest) in
    let w = found-makes c (c ∷ rest) i.is_listed in
    let o : Ok (l.makes vs).0 ≡ Ok m = ap (λ (y : Reading). y.answer) e in
    let p : (l.makes vs).0 ≡ m = cc in
    let q : (l.makes vs).1 ≡ t = ap (λ (y : Reading). y.texts) e in
    rw (← p, ← q, w.own, w.fields) (bytes_back unlisted refl letters c rest letters-tiled s i k, k)

-- THEOREM: accepted bytes are what the record that they are read as is written as, and it keeps its rules
pub write_read : (bs : List ℕ) → Bytes bs → (m : Message) (t : Texts) → read_of bs ≡ accepted m t → (bytes_of m t ≡ bs) × (keeps m t ≡ true)
write_read bs s = verdict-back bs (read_of bs) s (read-verdict bs)
