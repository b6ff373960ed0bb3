-- A message is accepted exactly when no refusal is given, and the refusal is the first in order; and answers are equal.
-- Assumes nothing.
use mathlib.Core.Path.{◌≡◌, sym, ap, ◌∙◌}
use mathlib.Core.Bool.{true}
use mathlib.Core.List.{List, [], ◌∷◌}
use Prim.Native.Nat.{ℕ}
use native.Mathlib.Omega.{arith}
use Rattle.field.proofs.Answers.{equal-answers}
use Rattle.message.specs.Layout.{values, keeps_all}
use Rattle.message.specs.Feed.{Sized}
use Rattle.message.specs.Letters.{letters, letter_in, unlisted}
use Rattle.message.specs.Message.{refused, told, read_of, Outcome, outcome, write_of}
use Rattle.message.specs.declared.Message.{Message}
use Rattle.message.specs.declared.Texts.{Texts}
use Rattle.message.specs.declared.Refusal.{Refusal}
use Rattle.message.specs.declared.Reading.{Reading}
use Rattle.message.proofs.Layouts.{never}
use Rattle.message.proofs.Feeds.{Verdict, empty, unknown, long, field, whole, verdict}
use Rattle.std.specs.Prelude.{Err}
use Rattle.std.specs.Prelude.{Ok}
use Rattle.std.specs.Prelude.{Result}
use Rattle.message.specs.declared.WriteRefusal.{WriteRefusal}

-- THEOREM: every reading is given under its condition
pub read-verdict : (bs : List ℕ) → Verdict told refused (letter_in letters) bs (read_of bs)
unfolding read_of
read-verdict = verdict told refused unlisted letters

-- a refusal is no message
pub clash : {A : Type 0} {r : Refusal} {m : Message} → Err r ≡ Ok m → A
clash {r = r} {m = m} e = let z : ◌≡◌ {A = ℕ} 0 1 = cc in absurd (omega arith)

-- ---- acceptance

-- of a listed letter, of its exact length, and every field in its list or range
abbrev pub Fine : List ℕ → Type 0
Fine [] = ⊥
Fine (c ∷ bs) = Sized (letter_in letters c) (c ∷ bs) × (keeps_all (letter_in letters c).rows (values (letter_in letters c).rows (c ∷ bs)) ≡ true)

abbrev pub Taken : Result Message Refusal → Type 0
Taken (Ok m) = Unit
Taken (Err r) = ⊥

taken_fine : {bs : List ℕ} {r : Reading} → Verdict told refused (letter_in letters) bs r → Taken r.answer → Fine bs
taken_fine empty t = absurd t
taken_fine (unknown c bs e) t = absurd t
taken_fine (long c bs h l) t = absurd t
taken_fine (field c bs s e) t = absurd t
taken_fine (whole c bs s e) t = (s, e)

fine-taken : {bs : List ℕ} {r : Reading} → Verdict told refused (letter_in letters) bs r → Fine bs → Taken r.answer
fine-taken empty f = absurd f
fine-taken (unknown c bs e) f = absurd (f.0.is_listed e)
fine-taken (long c bs h l) f = absurd (l f.0.is_long)
fine-taken (field c bs s e) f = never (sym e ∙ f.1)
fine-taken (whole c bs s e) f = tt

-- THEOREM: a message is accepted exactly when its letter is listed, it has its letter's length, and its fields are in their lists and ranges
pub accepted-exactly : (bs : List ℕ) → (Taken (read_of bs).answer → Fine bs) × (Fine bs → Taken (read_of bs).answer)
accepted-exactly bs = (taken_fine (read-verdict bs), fine-taken (read-verdict bs))

-- EQUAL ANSWERS: two answers of `write` that meet its promise agree, and so do the memories that they leave
pub equal-writes : (m : Message) (t : Texts) (out : List ℕ) (a b : Result ℕ WriteRefusal) (x y : List ℕ)
    → outcome a x ≡ write_of m t out → outcome b y ≡ write_of m t out → (a ≡ b) × (x ≡ y)
equal-writes m t out a b x y p q =
    let e : outcome a x ≡ outcome b y = equal-answers p q in
    (ap (λ (o : Outcome). o.answer) e, ap (λ (o : Outcome). o.memory) e)
