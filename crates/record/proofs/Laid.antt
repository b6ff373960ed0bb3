-- The laws of fields laid over bytes: what they leave, and what they put.
-- Assumes nothing.
use mathlib.Core.Path.{◌≡◌, refl, sym, ap, ◌∙◌}
use mathlib.Core.Bool.{Bool, true, false, ◌&&◌, ◌||◌}
use mathlib.Core.List.{List, [], ◌∷◌}
use Prim.Native.Nat.{ℕ, ◌+◌, ◌-◌, ◌≤◌, ◌<◌}
use native.Mathlib.Omega.{arith}
use borrow.Author.Tests.{leb-true, leb-false}
use lib.Dec.{leb}
use lib.ListN.{length, get_or}
use lib.Seq.{ext_get_or}
use Rattle.field.specs.Bytes.{part, overlay, Bytes}
use Rattle.field.proofs.Bools.{both_left, both_right}
use Rattle.field.proofs.Numbers.{part_bytes}
use Rattle.field.proofs.Parts.{part_length, part_at, part-before, part-after, part-overlay, overlay-length}
use Rattle.message.specs.Layout.{Value, Row, value_in, bytes_in, holds, values, keeps_all, Fit}
use Rattle.message.proofs.Layouts.{value-back, bytes-length, bytes_back}
use Rattle.message.proofs.Typed.{inside}
use Rattle.record.specs.Record.{laid}

-- each field's bytes are as many as its place has
abbrev pub Wide : List Row → List Value → Type 0
Wide [] vs = Unit
Wide (r ∷ rs) [] = Unit
Wide (r ∷ rs) (v ∷ vs) = (length (bytes_in r.rule r.width v) ≡ r.width) × Wide rs vs

-- the n bytes from byte i on are outside of all the places
unfoldable pub outside : ℕ → ℕ → List Row → Bool
outside i n [] = true
outside i n (r ∷ rs) = (leb (i + n) r.at || leb (r.at + r.width) i) && outside i n rs

-- no place meets another
unfoldable pub apart : List Row → Bool
apart [] = true
apart (r ∷ rs) = outside r.at r.width rs && apart rs

either : (a b : Bool) {A : Type 0} → a || b ≡ true → (a ≡ true → A) → (b ≡ true → A) → A
either true b e f g = f refl
either false b e f g = g e

-- one field
module _ (r : Row) (rs : List Row) (b xs : List ℕ) (n : ℕ) (w : length b ≡ r.width) (long : n ≤ length xs) (fits : inside n (r ∷ rs) ≡ true) where
  here : r.at + length b ≤ length xs
  unfolding inside
  here = omega (arith, leb-true (r.at + r.width) n (both_left (leb (r.at + r.width) n) (inside n rs) fits))

  on : inside n rs ≡ true
  unfolding inside
  on = both_right (leb (r.at + r.width) n) (inside n rs) fits

  still-long : n ≤ length (overlay xs r.at b)
  still-long = omega (arith, overlay-length xs r.at b here)

  one_kept : (i m : ℕ) → leb (i + m) r.at || leb (r.at + r.width) i ≡ true → part (overlay xs r.at b) i m ≡ part xs i m
  one_kept i m o =
      either (leb (i + m) r.at) (leb (r.at + r.width) i) o
      (λ e. part-before xs r.at b here i m (leb-true (i + m) r.at e))
      (λ e. part-after xs r.at b here i m (omega (arith, leb-true (r.at + r.width) i e)))

  one-put : part (overlay xs r.at b) r.at r.width ≡ b
  one-put = rw w at (part-overlay xs r.at b here)

pub laid-length : (rs : List Row) (vs : List Value) (xs : List ℕ) (n : ℕ) → Wide rs vs → n ≤ length xs → inside n rs ≡ true → length (laid rs vs xs) ≡ length xs
unfolding laid
laid-length [] vs xs n w l f = refl
laid-length (r ∷ rs) [] xs n w l f = refl
laid-length (r ∷ rs) (v ∷ vs) xs n w l f =
    let b = bytes_in r.rule r.width v in
    laid-length rs vs (overlay xs r.at b) n w.1 (still-long r rs b xs n w.0 l f) (on r rs b xs n w.0 l f)
    ∙ overlay-length xs r.at b (here r rs b xs n w.0 l f)

-- THE BYTES OUTSIDE OF THE PLACES ARE AS THEY WERE
pub part-kept : (rs : List Row) (vs : List Value) (xs : List ℕ) (n i m : ℕ) → Wide rs vs → n ≤ length xs → inside n rs ≡ true → outside i m rs ≡ true
    → part (laid rs vs xs) i m ≡ part xs i m
unfolding laid outside
part-kept [] vs xs n i m w l f o = refl
part-kept (r ∷ rs) [] xs n i m w l f o = refl
part-kept (r ∷ rs) (v ∷ vs) xs n i m w l f o =
    let b = bytes_in r.rule r.width v in
    part-kept rs vs (overlay xs r.at b) n i m w.1 (still-long r rs b xs n w.0 l f) (on r rs b xs n w.0 l f)
    (both_right (leb (i + m) r.at || leb (r.at + r.width) i) (outside i m rs) o)
    ∙ one_kept r rs b xs n w.0 l f i m (both_left (leb (i + m) r.at || leb (r.at + r.width) i) (outside i m rs) o)

-- ---- read back

pub fit_wide : (rs : List Row) (vs : List Value) → Fit rs vs → Wide rs vs
fit_wide [] vs f = tt
fit_wide (r ∷ rs) [] f = tt
fit_wide (r ∷ rs) (v ∷ vs) f = (bytes-length r.rule r.width v f.0, fit_wide rs vs f.1)

-- VALUES THAT FIT AND KEEP THEIR RULES ARE READ BACK from places that do not meet
pub values-laid : (rs : List Row) (vs : List Value) (xs : List ℕ) (n : ℕ) → keeps_all rs vs ≡ true → Fit rs vs → n ≤ length xs → inside n rs ≡ true → apart rs ≡ true
    → values rs (laid rs vs xs) ≡ vs
unfolding laid values apart keeps_all
values-laid [] [] xs n k f l s a = refl
values-laid [] (v ∷ vs) xs n k f l s a = absurd f
values-laid (r ∷ rs) [] xs n k f l s a = absurd f
values-laid (r ∷ rs) (v ∷ vs) xs n k f l s a =
    let b = bytes_in r.rule r.width v in
    let ys = overlay xs r.at b in
    let w : length b ≡ r.width = bytes-length r.rule r.width v f.0 in
    let long : n ≤ length ys = still-long r rs b xs n w l s in
    let o : outside r.at r.width rs ≡ true = both_left (outside r.at r.width rs) (apart rs) a in
    let first : part (laid rs vs ys) r.at r.width ≡ b
    = part-kept rs vs ys n r.at r.width (fit_wide rs vs f.1) long (on r rs b xs n w l s) o ∙ one-put r rs b xs n w l s in
    let again : value_in r.rule b ≡ v = value-back r.rule r.width v f.0 (both_left (holds r.rule v) (keeps_all rs vs) k) in
    let rest : values rs (laid rs vs ys) ≡ vs
    = values-laid rs vs ys n (both_right (holds r.rule v) (keeps_all rs vs) k) f.1 long (on r rs b xs n w l s)
    (both_right (outside r.at r.width rs) (apart rs) a) in
    rw (first, again, rest)

-- ---- put back

-- one byte of two lists that have a part in common
byte-in : (xs ys : List ℕ) (at w i : ℕ) → part xs at w ≡ part ys at w → at ≤ i → i < at + w → get_or xs i 0 ≡ get_or ys i 0
byte-in xs ys at w i e h k =
    let q : at + (i - at) ≡ i = omega arith in
    sym (rw q at (part_at xs at w (i - at) (omega arith))) ∙ ap (λ (l : List ℕ). get_or l (i - at) 0) e ∙ rw q at (part_at ys at w (i - at) (omega arith))

both_true : (a b : Bool) → a ≡ true → b ≡ true → a && b ≡ true
both_true a b e f = rw (e, f)

inside_is : (n : ℕ) (r : Row) (rs : List Row) → inside n (r ∷ rs) ≡ true → leb (r.at + r.width) n && inside n rs ≡ true
unfolding inside
inside_is n r rs f = f

pub neither : (a b : Bool) → a || b ≡ false → (a ≡ false) × (b ≡ false)
neither true b e = absurd (let z : ◌≡◌ {A = ℕ} 0 1 = cc in omega arith)
neither false b e = (refl, e)

-- BYTES THAT AGREE OUTSIDE OF THE PLACES ARE PUT BACK by their own values, which keep their rules
pub laid-own : (rs : List Row) (bs xs : List ℕ) (n : ℕ) → keeps_all rs (values rs bs) ≡ true → Bytes bs → n ≤ length bs → length xs ≡ length bs → inside n rs ≡ true
    → ((i : ℕ) → outside i 1 rs ≡ true → get_or xs i 0 ≡ get_or bs i 0) → laid rs (values rs bs) xs ≡ bs
unfolding laid values outside keeps_all
laid-own [] bs xs n k s l e f h = ext_get_or 0 xs bs e (λ i q. h i refl)
laid-own (r ∷ rs) bs xs n k s l e f h =
    rw (bytes_back r.rule r.width b w (part_bytes bs r.at r.width s) (both_left (holds r.rule v) (keeps_all rs (values rs bs)) k))
    (laid-own rs bs (overlay xs r.at b) n (both_right (holds r.rule v) (keeps_all rs (values rs bs)) k) s l (overlay-length xs r.at b (here r rs b xs n w long f) ∙ e) (on r rs b xs n w long f)
    (λ i o. by i o (leb (i + 1) r.at || leb (r.at + r.width) i) refl))
  where
    b : List ℕ
    b = part bs r.at r.width

    v : Value
    v = value_in r.rule b

    room : r.at + r.width ≤ n
    room = leb-true (r.at + r.width) n (both_left (leb (r.at + r.width) n) (inside n rs) (inside_is n r rs f))

    w : length b ≡ r.width
    w = part_length bs r.at r.width (omega (arith, room))

    long : n ≤ length xs
    long = omega arith

    by : (i : ℕ) → outside i 1 rs ≡ true → (c : Bool) → leb (i + 1) r.at || leb (r.at + r.width) i ≡ c → get_or (overlay xs r.at b) i 0 ≡ get_or bs i 0
    by i o true q =
        byte-in (overlay xs r.at b) xs i 1 i (one_kept r rs b xs n w long f i 1 q) (omega arith) (omega arith)
        ∙ h i (both_true (leb (i + 1) r.at || leb (r.at + r.width) i) (outside i 1 rs) q o)
    by i o false q =
        let t = neither (leb (i + 1) r.at) (leb (r.at + r.width) i) q in
        byte-in (overlay xs r.at b) bs r.at r.width i (one-put r rs b xs n w long f) (omega (arith, leb-false (i + 1) r.at t.0))
        (omega (arith, leb-false (r.at + r.width) i t.1))
