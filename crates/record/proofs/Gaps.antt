-- Bytes are what their own fields lay over zeros exactly when every place between the fields is 0.
-- Assumes nothing.
use mathlib.Core.Path.{◌≡◌, refl, sym, ap, ◌∙◌}
use mathlib.Core.Bool.{Bool, true, false, ◌&&◌, ◌||◌, not, and_assoc, and-true}
use mathlib.Core.List.{List, [], ◌∷◌, ◌++◌}
use Prim.Native.Nat.{ℕ, zero, suc, ◌+◌, ◌-◌, ◌≤◌, ◌<◌}
use native.Mathlib.Decide.{dec_lt}
use native.Mathlib.Omega.{arith}
use borrow.Author.Tests.{leb-true, leb-false, not-true}
use lib.Dec.{leb}
use lib.ListN.{length, get_or, replicate, length-replicate, get_or-replicate, get_or-eq_default}
use Rattle.field.specs.Bytes.{part, same, Bytes}
use Rattle.field.specs.Text.{every, is_zero}
use Rattle.field.proofs.Bools.{both_left, both_right}
use Rattle.field.proofs.Numbers.{Lent, lent-bytes}
use Rattle.field.proofs.Parts.{part_length, part_at, part-replicate}
use Rattle.field.proofs.Runs.{every-at, every-replicate}
use Rattle.field.proofs.Same.{test-same, same_test}
use Rattle.message.specs.Layout.{Row, values, keeps_all}
use Rattle.message.specs.Letters.{letter_in}
use Rattle.message.proofs.Layouts.{never}
use Rattle.message.proofs.Typed.{inside, values-fit}
use Rattle.record.specs.Places.{record_size, letter_place, high_places, record_letters}
use Rattle.record.specs.Record.{laid, is_own, clear}
use Rattle.record.proofs.Laid.{outside, part-kept, fit_wide, laid-own, neither}
use Rattle.record.proofs.Typed.{record-kept}

-- every gap is outside of all the places
unfoldable pub between : List Row → List Row → Bool
between [] rs = true
between (g ∷ gs) rs = outside g.at g.width rs && between gs rs

-- each of the first n bytes is a place's or a gap's
unfoldable pub covered : ℕ → List Row → List Row → Bool
covered zero gs rs = true
covered (suc i) gs rs = (not (outside i 1 rs) || not (outside i 1 gs)) && covered i gs rs

in_one : (a b : Bool) → not a || not b ≡ true → a ≡ true → b ≡ false
in_one true b e f = not-true b e
in_one false b e f = never f

covered-at : (n : ℕ) (gs rs : List Row) → covered n gs rs ≡ true → (i : ℕ) → i < n → outside i 1 rs ≡ true → outside i 1 gs ≡ false
unfolding covered
covered-at zero gs rs k i h o = absurd (omega arith)
covered-at (suc n) gs rs k i h o =
    by (dec_lt i n) (λ l. covered-at n gs rs (both_right (not (outside n 1 rs) || not (outside n 1 gs)) (covered n gs rs) k) i l o)
  where
    by : Dec (i < n) → (i < n → outside i 1 gs ≡ false) → outside i 1 gs ≡ false
    by (yes l) below = below l
    by (no l) below =
        let e : i ≡ n = omega arith in
        in_one (outside i 1 rs) (outside i 1 gs) (rw e (both_left (not (outside n 1 rs) || not (outside n 1 gs)) (covered n gs rs) k)) o

-- a byte of a gap that is clear is 0
clear_at : (gs : List Row) (bs : List ℕ) (n i : ℕ) → n ≤ length bs → inside n gs ≡ true → clear gs bs ≡ true → outside i 1 gs ≡ false → get_or bs i 0 ≡ 0
unfolding clear outside inside
clear_at [] bs n i l f z o = never (sym o)
clear_at (g ∷ gs) bs n i l f z o =
    by (leb (i + 1) g.at || leb (g.at + g.width) i) refl o
    (clear_at gs bs n i l (both_right (leb (g.at + g.width) n) (inside n gs) f) (both_right (every is_zero (part bs g.at g.width)) (clear gs bs) z))
  where
    room : g.at + g.width ≤ n
    room = leb-true (g.at + g.width) n (both_left (leb (g.at + g.width) n) (inside n gs) f)

    by : (b : Bool) → leb (i + 1) g.at || leb (g.at + g.width) i ≡ b → b && outside i 1 gs ≡ false → (outside i 1 gs ≡ false → get_or bs i 0 ≡ 0)
        → get_or bs i 0 ≡ 0
    by true q k on = on k
    by false q k on =
        let t = neither (leb (i + 1) g.at) (leb (g.at + g.width) i) q in
        let low : g.at ≤ i = omega (arith, leb-false (i + 1) g.at t.0) in
        let high : i < g.at + g.width = leb-false (g.at + g.width) i t.1 in
        let e : g.at + (i - g.at) ≡ i = omega arith in
        let zero-there : is_zero (get_or (part bs g.at g.width) (i - g.at) 0) ≡ true
        = every-at is_zero (part bs g.at g.width) (both_left (every is_zero (part bs g.at g.width)) (clear gs bs) z) (i - g.at)
        (omega (arith, part_length bs g.at g.width (omega (arith, room)))) in
        let v : ℕ = get_or (part bs g.at g.width) (i - g.at) 0 in
        let same_byte : v ≡ get_or bs i 0 = rw e at (part_at bs g.at g.width (i - g.at) (omega arith)) in
        omega (arith, leb-true v 0 (both_right (leb 0 v) (leb v 0) zero-there))

-- gaps of bytes that are zeros outside of the places
clear-own : (gs rs : List Row) (bs : List ℕ) (n : ℕ) → between gs rs ≡ true → inside n gs ≡ true
    → ((i m : ℕ) → outside i m rs ≡ true → part bs i m ≡ part (replicate n 0) i m) → clear gs bs ≡ true
unfolding clear between inside
clear-own [] rs bs n b f h = refl
clear-own (g ∷ gs) rs bs n b f h =
    let room : g.at + g.width ≤ n = leb-true (g.at + g.width) n (both_left (leb (g.at + g.width) n) (inside n gs) f) in
    let e : part bs g.at g.width ≡ replicate g.width 0
    = h g.at g.width (both_left (outside g.at g.width rs) (between gs rs) b) ∙ part-replicate n g.at g.width 0 room in
    rw (
      e,
      every-replicate is_zero g.width 0 refl,
      clear-own gs rs bs n (both_right (outside g.at g.width rs) (between gs rs) b) (both_right (leb (g.at + g.width) n) (inside n gs) f) h,
    )

both_ways : (a b : Bool) → (a ≡ true → b ≡ true) → (b ≡ true → a ≡ true) → a ≡ b
both_ways true b f g = sym (f refl)
both_ways false true f g = g refl
both_ways false false f g = refl

-- THE LAW OF GAPS
module _ (rs gs : List Row) (bs : List ℕ) (p : keeps_all rs (values rs bs) ≡ true) (f : inside record_size rs ≡ true) (e : inside record_size gs ≡ true) (b : between gs rs ≡ true)
    (k : covered record_size gs rs ≡ true) (s : Bytes bs) (l : length bs ≡ record_size) where
  zeros : List ℕ
  zeros = replicate record_size 0

  zeros-long : length zeros ≡ record_size
  unfolding zeros
  zeros-long = length-replicate {A = ℕ} record_size 0

  zero-byte : clear gs bs ≡ true → (i : ℕ) → outside i 1 rs ≡ true → get_or zeros i 0 ≡ get_or bs i 0
  unfolding zeros
  zero-byte z i o = by (dec_lt i record_size)
    where
      by : Dec (i < record_size) → get_or {A = ℕ} (replicate record_size 0) i 0 ≡ get_or bs i 0
      by (yes h) =
          get_or-replicate {A = ℕ} record_size i 0 0 h
          ∙ sym (clear_at gs bs record_size i (omega arith) e z (covered-at record_size gs rs k i h o))
      by (no h) =
          get_or-eq_default {A = ℕ} (replicate record_size 0) 0 {n = i} (omega (arith, length-replicate {A = ℕ} record_size 0))
          ∙ sym (get_or-eq_default bs 0 {n = i} (omega arith))

  zero-part : laid rs (values rs bs) zeros ≡ bs → (i m : ℕ) → outside i m rs ≡ true → part bs i m ≡ part zeros i m
  zero-part q i m o =
      ap (λ (x : List ℕ). part x i m) (sym q)
      ∙ part-kept rs (values rs bs) zeros record_size i m (fit_wide rs (values rs bs) (values-fit rs bs record_size s (omega arith) f p)) (omega (arith, zeros-long)) f o

  pub clear-same : clear gs bs ≡ same (laid rs (values rs bs) (replicate record_size 0)) bs
  unfolding zeros
  clear-same =
      both_ways (clear gs bs) (same (laid rs (values rs bs) zeros) bs)
      (λ z. same_test (laid-own rs bs zeros record_size p s (omega arith) (zeros-long ∙ sym l) f (zero-byte z)))
      (λ q. clear-own gs rs bs record_size b e (zero-part (test-same (laid rs (values rs bs) zeros) bs q)))

-- ---- as the code tests them

clear-append : (gs hs : List Row) (bs : List ℕ) → clear (gs ++ hs) bs ≡ clear gs bs && clear hs bs
unfolding clear
clear-append [] hs bs = refl
clear-append (g ∷ gs) hs bs =
    rw (clear-append gs hs bs) (sym (and_assoc (every is_zero (part bs g.at g.width)) (clear gs bs) (clear hs bs)))

module _ (bs : List ℕ) where
  pub low_clear : (at : ℕ) {a b c d e : Bool} → a ≡ every is_zero (part bs at 2) → b ≡ every is_zero (part bs (at + 4) 2) → c ≡ every is_zero (part bs (at + 8) 2)
      → d ≡ every is_zero (part bs (at + 12) 2) → e ≡ every is_zero (part bs (at + 16) 2) → a && (b && (c && (d && e))) ≡ clear (high_places at) bs
  unfolding clear
  low_clear at p q r s t = rw (p, q, r, s, t) (simp and-true)

  pub one-clear : (g : Row) {a : Bool} → a ≡ every is_zero (part bs g.at g.width) → a ≡ clear (g ∷ []) bs
  unfolding clear
  one-clear g p = p ∙ simp and-true

  module _ (g h : Row) {a z : Bool} (p : a ≡ every is_zero (part bs g.at g.width)) (q : z ≡ every is_zero (part bs h.at h.width)) where
    pub two-clear : a && z ≡ clear (g ∷ h ∷ []) bs
    unfolding clear
    two-clear = rw (p, q) (simp and-true)

    pub side-clear : (gs : List Row) {b : Bool} → b ≡ clear gs bs → a && (b && z) ≡ clear (g ∷ (gs ++ (h ∷ []))) bs
    unfolding clear
    side-clear gs r = rw (clear-append gs (h ∷ []) bs, p, q, r) (simp and-true)

    pub sides-clear : (gs hs : List Row) {b c : Bool} → b ≡ clear gs bs → c ≡ clear hs bs → a && (b && (c && z)) ≡ clear (g ∷ (gs ++ (hs ++ (h ∷ [])))) bs
    unfolding clear
    sides-clear gs hs r s = rw (clear-append gs (hs ++ (h ∷ [])) bs, clear-append hs (h ∷ []) bs, p, q, r, s) (simp and-true)

-- the gaps of a letter's record
pub record Gaps (rs gs : List Row) : Type 0 where
  pub places : inside record_size rs ≡ true
  pub gaps : inside record_size gs ≡ true
  pub apart : between gs rs ≡ true
  pub all : covered record_size gs rs ≡ true

pub own-arm : (k c : ℕ) (gs : List Row) (bs : List ℕ) {r : Bool} → c ≡ k → Gaps (letter_place ∷ (letter_in record_letters k).rows) gs → Lent bs → length bs ≡ record_size
    → r ≡ clear gs bs → r ≡ is_own c bs
unfolding is_own values keeps_all
own-arm k c gs bs e g s l p =
    rw e
    (p ∙ clear-same (letter_place ∷ (letter_in record_letters k).rows) gs bs (record-kept k bs) g.places g.gaps g.apart g.all (lent-bytes bs s) l)
