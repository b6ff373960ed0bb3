-- What is carried from a message's bytes to a row is what the message that they say puts there.
-- Assumes nothing.
use mathlib.Core.Path.{◌≡◌, refl, sym, ap, ◌∙◌}
use mathlib.Core.Bool.{Bool, true, false, ◌&&◌, and-true}
use mathlib.Core.List.{List, [], ◌∷◌}
use Prim.Native.Nat.{ℕ, ◌+◌, ◌^◌, ◌≤◌, ◌<◌}
use native.Mathlib.Decide.{ℕ_discrete}
use native.Mathlib.Omega.{arith}
use borrow.Author.Tests.{eq-eqb, ne_eqb, eqb-true, eqb-false}
use lib.Dec.{eqb}
use lib.ListN.{length, get_or, replicate}
use Rattle.field.specs.Bytes.{part, overlay, digits, be, bytes_be, turned}
use Rattle.field.specs.Limits.{price_in_range, ten_thousandths}
use Rattle.field.proofs.Parts.{part_length, overlay-length, overlay-swap, part-after, part-before}
use Rattle.field.proofs.Numbers.{Lent, lent-bytes, rewrites, turned-twice}
use Rattle.field.proofs.Same.{same_fields, part-numbers, fields-same}
use Rattle.field.proofs.Writes.{carried-run}
use Rattle.message.specs.Layout.{price_from, bytes_for, values}
use Rattle.message.specs.Feed.{letter_among}
use Rattle.message.specs.Letters.{stamp_rows, stamp_fields, long_numbers_rows, numbers_fields, instrument_rows, instrument_fields, LongNumbers}
use Rattle.message.specs.Test.{quote_letters, quote_length}
use Rattle.message.specs.declared.Side.{Side}
use Rattle.message.specs.declared.Side.TheVariants.{Bid, Ask}
use Rattle.message.proofs.Amounts.{amount-from}
use Rattle.message.proofs.Layouts.{fields-run}
use Rattle.message.proofs.Tested.{quotes, quote-none}
use Rattle.message.proofs.Puts.{numbers-put}
use Rattle.row.specs.Fields.{row_size, side_at, side_time_at, sides_of, seen_with}
use Rattle.row.specs.Changes.{changed, purge, directory_changes, unchanged, new_row, action_changes, sides_changes, own_changes, quote_changes}
use Rattle.row.specs.Wire.{stamp_in, long_in, short_in, action_in, instrument_in, texts_in, directory_in, sides_in, quote_in}
use Rattle.row.specs.declared.Sides.{Sides}
use Rattle.row.specs.declared.Sides.TheVariants.{One, Both}
use Rattle.row.proofs.Quoted.{widened-amount}
use Rattle.row.proofs.Puts.{action-put, directory-put, directory-kept, new-put, one-timed, quote-put}

-- ---- fields side by side

pub stamp-carried : (xs bs : List ℕ) {us zs : List ℕ} → Lent bs → 11 ≤ length bs → row_size ≤ length xs
    → us ≡ overlay xs 96 (part bs 1 2) → zs ≡ overlay us 98 (part bs 3 8) → zs ≡ overlay xs 96 (bytes_for stamp_rows (stamp_fields (stamp_in bs)))
unfolding values
stamp-carried xs bs {us} {zs} k h g e f =
    carried-run bs 1 xs 96 2 (8 ∷ []) h (omega arith) e (zs, f, refl)
    ∙ ap (overlay xs 96) (sym (fields-run stamp_rows bs 1 (refl, refl, (refl, refl, tt)) (lent-bytes bs k) h))

-- the time by itself, at the place of a side's
pub time-carried : (xs bs : List ℕ) (side : Side) {at : ℕ} {zs : List ℕ} → Lent bs → 11 ≤ length bs → at ≡ side_time_at side
    → zs ≡ overlay xs at (part bs 3 8) → zs ≡ overlay xs (side_time_at side) (bytes_be 8 (stamp_in bs).time)
unfolding values
time-carried xs bs side k h e f = f ∙ ap (λ (i : ℕ). overlay xs i (part bs 3 8)) e ∙ ap (overlay xs (side_time_at side)) (sym (rewrites 8 bs 3 (lent-bytes bs k) h))

pub times-carried : (xs bs : List ℕ) {us zs : List ℕ} → us ≡ overlay xs 106 (bytes_be 8 (stamp_in bs).time) → zs ≡ overlay us 114 (bytes_be 8 (stamp_in bs).time)
    → zs ≡ overlay (overlay xs 106 (bytes_be 8 (stamp_in bs).time)) 114 (bytes_be 8 (stamp_in bs).time)
times-carried xs bs e f = f ∙ ap (λ (u : List ℕ). overlay u 114 (bytes_be 8 (stamp_in bs).time)) e

-- the bytes that a directory and a row share are those of the message
shared : (bs : List ℕ) → Lent bs → 63 ≤ length bs → bytes_for instrument_rows (instrument_fields (instrument_in bs) (texts_in bs)) ≡ part bs 11 52
unfolding values
shared bs k h =
    fields-run instrument_rows bs 11
    (refl, refl, (refl, refl, (refl, refl, (refl, refl, (refl, refl, (refl, refl, (refl, refl, (refl, refl, (refl, refl, (refl, refl, (refl, refl, (refl, refl, tt))))))))))))
    (lent-bytes bs k) h

pub entry-carried : (xs bs : List ℕ) {ts us vs zs : List ℕ} → Lent bs → 63 ≤ length bs → row_size ≤ length xs
    → ts ≡ overlay xs 0 (part bs 11 32) → us ≡ overlay ts 32 (part bs 43 8) → vs ≡ overlay us 40 (part bs 51 8) → zs ≡ overlay vs 48 (part bs 59 4)
    → zs ≡ overlay xs 0 (bytes_for instrument_rows (instrument_fields (instrument_in bs) (texts_in bs)))
entry-carried xs bs {ts} {us} {vs} {zs} k h g d e f i =
    carried-run bs 11 xs 0 32 (8 ∷ 8 ∷ 4 ∷ []) h (omega arith) d (us, e, (vs, f, (zs, i, refl))) ∙ ap (overlay xs 0) (sym (shared bs k h))

pub start-carried : (xs bs : List ℕ) {ts us vs zs : List ℕ} → 63 ≤ length bs → row_size ≤ length xs
    → ts ≡ overlay xs 0 (part bs 11 8) → us ≡ overlay ts 8 (part bs 19 8) → vs ≡ overlay us 16 (part bs 27 8) → zs ≡ overlay vs 24 (part bs 35 8)
    → zs ≡ overlay xs 0 (part bs 11 32)
start-carried xs bs {ts} {us} {vs} {zs} h g d e f i =
    carried-run bs 11 xs 0 8 (8 ∷ 8 ∷ 8 ∷ []) (omega arith) (omega arith) d (us, e, (vs, f, (zs, i, refl)))

-- five short numbers, each widened
pub short-wired : (xs bs : List ℕ) (at from : ℕ) {a b p d e f : ℕ} {us vs ws ys zs : List ℕ} → at + 20 ≤ length xs
    → a ≡ be (part bs from 2) → us ≡ overlay xs at (bytes_be 4 a)
    → b ≡ be (part bs (from + 2) 2) → p ≡ ten_thousandths b → vs ≡ overlay us (at + 4) (bytes_be 4 p)
    → d ≡ be (part bs (from + 4) 2) → ws ≡ overlay vs (at + 8) (bytes_be 4 d)
    → e ≡ be (part bs (from + 6) 2) → ys ≡ overlay ws (at + 12) (bytes_be 4 e)
    → f ≡ be (part bs (from + 8) 2) → zs ≡ overlay ys (at + 16) (bytes_be 4 f)
    → zs ≡ overlay xs at (bytes_for (long_numbers_rows at) (numbers_fields (short_in from bs)))
unfolding values
short-wired xs bs at from h i e j k f l g m o n q =
    numbers-put 4 price_in_range xs at (short_in from bs) refl (k ∙ ap ten_thousandths (j ∙ sym (amount-from (be (part bs (from + 2) 2)))) ∙ sym (widened-amount (price_from (be (part bs (from + 2) 2))))) h (rw i at e) f (rw l at g) (rw m at o) (rw n at q)

-- ---- a trading action, a directory

pub action-wired : (xs bs : List ℕ) {v : ℕ} {us zs : List ℕ} → v ≡ be (part bs 15 1) → us ≡ overlay xs 52 (bytes_be 1 v)
    → zs ≡ overlay us 96 (bytes_for stamp_rows (stamp_fields (stamp_in bs))) → zs ≡ changed (action_changes (action_in bs)) xs
unfolding values
action-wired xs bs i e f = action-put xs (action_in bs) (rw i at e) f

module _ (xs bs : List ℕ) {v : ℕ} {us vs : List ℕ} (e : us ≡ overlay xs 0 (bytes_for instrument_rows (instrument_fields (instrument_in bs) (texts_in bs))))
    (f : vs ≡ overlay us 96 (bytes_for stamp_rows (stamp_fields (stamp_in bs)))) (i : v ≡ be (part bs 45 1)) where
  pub directory-wired : {zs : List ℕ} → v ≡ 78 → zs ≡ changed purge vs → zs ≡ changed (directory_changes (directory_in bs) (texts_in bs)) xs
  unfolding values
  directory-wired n g = directory-put xs (directory_in bs) (texts_in bs) e f (sym i ∙ n) g

  pub directory-wired-kept : (v ≡ 78 → ⊥) → vs ≡ changed (directory_changes (directory_in bs) (texts_in bs)) xs
  unfolding values
  directory-wired-kept n = directory-kept xs (directory_in bs) (texts_in bs) e f (λ z. n (i ∙ z))

pub new-wired : (xs bs : List ℕ) {rest us vs zs : List ℕ} → Lent bs → length xs ≡ row_size → 63 ≤ length bs → rest ≡ overlay xs 52 (replicate 72 0)
    → us ≡ overlay rest 0 (bytes_for instrument_rows (instrument_fields (instrument_in bs) (texts_in bs))) → vs ≡ overlay us 53 (bytes_be 1 32)
    → zs ≡ overlay vs 96 (bytes_for stamp_rows (stamp_fields (stamp_in bs))) → zs ≡ new_row (directory_in bs) (texts_in bs)
unfolding values
new-wired xs bs k h g z e f i = new-put xs (directory_in bs) (texts_in bs) h (ap length (shared bs k g) ∙ part_length bs 11 52 (omega arith)) z e f i

-- two numbers read with the lowest byte first are the same where those of their bytes are
low_first : (u v : ℕ) {x y : ℕ} → u < 2 ^ 32 → v < 2 ^ 32 → turned u ≡ x → turned v ≡ y → eqb u v ≡ eqb x y
low_first u v {x} {y} h k e f = sym (by (eqb u v) refl)
  where
    by : (so : Bool) → eqb u v ≡ so → eqb x y ≡ so
    by true s = eq-eqb x y (sym e ∙ ap turned (eqb-true u v s) ∙ f)
    by false s = ne_eqb x y (λ p. eqb-false u v s (sym (turned-twice u h) ∙ ap turned (e ∙ p ∙ sym f) ∙ turned-twice v k))

-- of the 16 bytes, eight are the symbol, and eight the date, the strike and the type
module _ (xs bs : List ℕ) (k : Lent xs) (l : Lent bs) (h : row_size ≤ length xs) (g : 63 ≤ length bs) where
  fours-same : same_fields xs 4 bs 15 (4 ∷ 4 ∷ 4 ∷ 4 ∷ []) ≡ unchanged (instrument_in bs) (texts_in bs) xs
  unfolding unchanged values
  fours-same =
      sym (fields-same xs bs (lent-bytes xs k) (lent-bytes bs l) (4 ∷ 4 ∷ 4 ∷ 4 ∷ []) 4 15 (omega arith) (omega arith))
      ∙ fields-same xs bs (lent-bytes xs k) (lent-bytes bs l) (8 ∷ 1 ∷ 1 ∷ 1 ∷ 4 ∷ 1 ∷ []) 4 15 (omega arith) (omega arith)
      ∙ rw (part-numbers xs bs (lent-bytes xs k) (lent-bytes bs l) 8 4 15 (omega arith) (omega arith)) (simp and-true)

  pub fixed-wired : {a b d e f p q r : ℕ} → a < 2 ^ 32 → b < 2 ^ 32 → d < 2 ^ 32 → e < 2 ^ 32 → f < 2 ^ 32 → p < 2 ^ 32 → q < 2 ^ 32 → r < 2 ^ 32
      → turned a ≡ be (part xs 4 4) → turned b ≡ be (part bs 15 4) → turned d ≡ be (part xs 8 4) → turned e ≡ be (part bs 19 4)
      → turned f ≡ be (part xs 12 4) → turned p ≡ be (part bs 23 4) → turned q ≡ be (part xs 16 4) → turned r ≡ be (part bs 27 4)
      → eqb a b && (eqb d e && (eqb f p && eqb q r)) ≡ unchanged (instrument_in bs) (texts_in bs) xs
  fixed-wired {a} {b} {d} {e} {f} {p} {q} {r} a' b' d' e' f' p' q' r' s t u v w x y z =
      rw (low_first a b a' b' s t, low_first d e d' e' u v, low_first f p f' p' w x, low_first q r q' r' y z) (simp and-true at fours-same)

-- ---- the sides of a quote, the numbers first

module _ (xs : List ℕ) (h : row_size ≤ length xs) (n : LongNumbers) where
  numbers-length : (at : ℕ) → length (bytes_for (long_numbers_rows at) (numbers_fields n)) ≡ 20
  unfolding bytes_for digits
  numbers-length at = refl

  -- numbers at `at` and the sides seen may change places
  late : (at w : ℕ) → 55 ≤ at → at + 20 ≤ length xs
      → overlay (overlay xs at (bytes_for (long_numbers_rows at) (numbers_fields n))) 54 (bytes_be 1 w)
      ≡ overlay (overlay xs 54 (bytes_be 1 w)) at (bytes_for (long_numbers_rows at) (numbers_fields n))
  unfolding digits
  late at w a b = sym (overlay-swap xs 54 (bytes_be 1 w) at (bytes_for (long_numbers_rows at) (numbers_fields n)) a (rw (numbers-length at) b))

  still : (at : ℕ) → at + 20 ≤ length xs → length (overlay xs at (bytes_for (long_numbers_rows at) (numbers_fields n))) ≡ length xs
  still at b = overlay-length xs at (bytes_for (long_numbers_rows at) (numbers_fields n)) (rw (numbers-length at) b)

side-room : (side : Side) → (55 ≤ side_at side) × (side_at side ≤ 76)
side-room Bid = (omega arith, omega arith)
side-room Ask = (omega arith, omega arith)

pub side-late : (xs : List ℕ) (side : Side) (n : LongNumbers) (seen : ℕ) {w at : ℕ} {us zs : List ℕ} → row_size ≤ length xs → seen ≡ sides_of xs
    → at ≡ side_at side → us ≡ overlay xs at (bytes_for (long_numbers_rows at) (numbers_fields n)) → w ≡ seen_with side seen → zs ≡ overlay us 54 (bytes_be 1 w)
    → zs ≡ changed (sides_changes (One side n) (sides_of xs)) xs
unfolding changed sides_changes
side-late xs side n seen {w} {at} {us} {zs} h s q f p e =
    let r = side-room side in
    e ∙ ap (λ (u : List ℕ). overlay u 54 (bytes_be 1 w)) (f ∙ ap (λ (i : ℕ). overlay xs i (bytes_for (long_numbers_rows i) (numbers_fields n))) q)
    ∙ late xs h n (side_at side) w r.0 (omega (arith, r.1))
    ∙ ap (λ (v : ℕ). overlay (overlay xs 54 (bytes_be 1 v)) (side_at side) (bytes_for (long_numbers_rows (side_at side)) (numbers_fields n))) (p ∙ ap (seen_with side) s)

-- and the time between the two
time-room : (side : Side) → (55 ≤ side_time_at side) × (side_time_at side ≤ 114)
time-room Bid = (omega arith, omega arith)
time-room Ask = (omega arith, omega arith)

pub side-timed-late : (xs : List ℕ) (side : Side) (n : LongNumbers) (seen time : ℕ) {w at : ℕ} {us vs zs : List ℕ} → row_size ≤ length xs → seen ≡ sides_of xs
    → at ≡ side_at side → us ≡ overlay xs at (bytes_for (long_numbers_rows at) (numbers_fields n)) → vs ≡ overlay us (side_time_at side) (bytes_be 8 time)
    → w ≡ seen_with side seen → zs ≡ overlay vs 54 (bytes_be 1 w) → zs ≡ changed (own_changes (One side n) (sides_of xs) time) xs
unfolding digits
side-timed-late xs side n seen time {w} {at} {us} {vs} {zs} h s q f t p e =
    let r = side-room side in
    let i = time-room side in
    let l : length us ≡ length xs = ap length f ∙ still xs h n at (rw q (omega (arith, r.1))) in
    one-timed xs side n (sides_of xs) time (side-late xs side n seen h s q f p refl)
    (e ∙ ap (λ (u : List ℕ). overlay u 54 (bytes_be 1 w)) t ∙ sym (overlay-swap us 54 (bytes_be 1 w) (side_time_at side) (bytes_be 8 time) i.0 (rw l (omega (arith, i.1)))))

pub both-late : (xs : List ℕ) (bid ask : LongNumbers) (seen : ℕ) {v w : ℕ} {us vs zs : List ℕ} → row_size ≤ length xs → seen ≡ sides_of xs
    → us ≡ overlay xs 56 (bytes_for (long_numbers_rows 56) (numbers_fields bid)) → vs ≡ overlay us 76 (bytes_for (long_numbers_rows 76) (numbers_fields ask))
    → v ≡ seen_with Bid seen → w ≡ seen_with Ask v → zs ≡ overlay vs 54 (bytes_be 1 w)
    → zs ≡ changed (sides_changes (Both bid ask) (sides_of xs)) xs
unfolding changed sides_changes
both-late xs bid ask seen {v} {w} {us} {vs} {zs} h s e f p q g =
    let l : length us ≡ length xs = ap length e ∙ still xs h bid 56 (omega arith) in
    g ∙ ap (λ (u : List ℕ). overlay u 54 (bytes_be 1 w)) f
    ∙ late us (rw l h) ask 76 w (omega arith) (rw l (omega arith))
    ∙ ap (λ (u : List ℕ). overlay (overlay u 54 (bytes_be 1 w)) 76 (bytes_for (long_numbers_rows 76) (numbers_fields ask))) e
    ∙ ap (λ (u : List ℕ). overlay u 76 (bytes_for (long_numbers_rows 76) (numbers_fields ask))) (late xs h bid 56 w (omega arith) (omega arith))
    ∙ rw (q, p, s)

-- ---- a quote

-- neither condition nor stamp is among the sides seen
module _ (xs bs : List ℕ) {v : ℕ} {us vs : List ℕ} (h : row_size ≤ length xs) (i : v ≡ be (part bs 15 1)) (e : us ≡ overlay xs 53 (bytes_be 1 v))
    (f : vs ≡ overlay us 96 (bytes_for stamp_rows (stamp_fields (stamp_in bs)))) where
  seen-kept : sides_of vs ≡ sides_of xs
  unfolding digits bytes_for values
  seen-kept =
      let l : length us ≡ length xs = ap length e ∙ overlay-length xs 53 (bytes_be 1 v) (omega arith) in
      ap be (ap (λ (u : List ℕ). part u 54 1) f ∙ part-before us 96 (bytes_for stamp_rows (stamp_fields (stamp_in bs))) (rw l (omega arith)) 54 1 (omega arith)
      ∙ ap (λ (u : List ℕ). part u 54 1) e ∙ part-after xs 53 (bytes_be 1 v) (omega arith) 54 1 (omega arith))

  pub quote-wire : (sides : Sides) {zs : List ℕ} → sides_in (get_or bs 0 0) bs ≡ sides → zs ≡ changed (own_changes sides (sides_of vs) (stamp_in bs).time) vs → zs ≡ changed (quote_changes (quote_in bs) xs) xs
  quote-wire sides s g =
      quote-put xs (quote_in bs) (sym refl) (rw i at e) f (g ∙ ap (λ (n : ℕ). changed (own_changes sides n (stamp_in bs).time) vs) seen-kept ∙ ap (λ (x : Sides). changed (own_changes x (sides_of xs) (stamp_in bs).time) vs) (sym s))

module _ (bs : List ℕ) where
  pub arm-b : get_or bs 0 0 ≡ 98 → sides_in (get_or bs 0 0) bs ≡ One Bid (short_in 16 bs)
  unfolding sides_in
  arm-b e = rw e refl

  pub arm-a : get_or bs 0 0 ≡ 97 → sides_in (get_or bs 0 0) bs ≡ One Ask (short_in 16 bs)
  unfolding sides_in
  arm-a e = rw e refl

  pub arm-q : get_or bs 0 0 ≡ 113 → sides_in (get_or bs 0 0) bs ≡ Both (short_in 16 bs) (short_in 26 bs)
  unfolding sides_in
  arm-q e = rw e refl

  pub arm-B : get_or bs 0 0 ≡ 66 → sides_in (get_or bs 0 0) bs ≡ One Bid (long_in 16 bs)
  unfolding sides_in
  arm-B e = rw e refl

  pub arm-A : get_or bs 0 0 ≡ 65 → sides_in (get_or bs 0 0) bs ≡ One Ask (long_in 16 bs)
  unfolding sides_in
  arm-A e = rw e refl

  pub arm-Q : (get_or bs 0 0 ≡ 98 → ⊥) → (get_or bs 0 0 ≡ 97 → ⊥) → (get_or bs 0 0 ≡ 113 → ⊥) → (get_or bs 0 0 ≡ 66 → ⊥) → (get_or bs 0 0 ≡ 65 → ⊥)
      → sides_in (get_or bs 0 0) bs ≡ Both (long_in 16 bs) (long_in 36 bs)
  unfolding sides_in
  arm-Q b a q B A = rw (ne_eqb (get_or bs 0 0) 98 b, ne_eqb (get_or bs 0 0) 97 a, ne_eqb (get_or bs 0 0) 113 q, ne_eqb (get_or bs 0 0) 66 B, ne_eqb (get_or bs 0 0) 65 A)

-- ---- room for a quote

pub head-room : (bs : List ℕ) → (quote_length (get_or bs 0 0) ≡ 0 → ⊥) → length bs ≡ quote_length (get_or bs 0 0) → 16 ≤ length bs
unfolding quote_length
head-room bs h e = rw e (quotes bs (get_or bs 0 0) h).head

pub arm-room : (k n : ℕ) (bs : List ℕ) → get_or bs 0 0 ≡ k → length bs ≡ quote_length (get_or bs 0 0) → quote_length k ≡ n → n ≤ length bs
arm-room k n bs e h q = let f : length bs ≡ n = h ∙ ap quote_length e ∙ q in omega arith

pub last-room : (bs : List ℕ) → (get_or bs 0 0 ≡ 98 → ⊥) → (get_or bs 0 0 ≡ 97 → ⊥) → (get_or bs 0 0 ≡ 113 → ⊥) → (get_or bs 0 0 ≡ 66 → ⊥) → (get_or bs 0 0 ≡ 65 → ⊥)
    → (quote_length (get_or bs 0 0) ≡ 0 → ⊥) → length bs ≡ quote_length (get_or bs 0 0) → 56 ≤ length bs
unfolding quote_length quote_letters letter_among
last-room bs b a q B A some e = by (ℕ_discrete (get_or bs 0 0) 81)
  where
    by : Dec (get_or bs 0 0 ≡ 81) → 56 ≤ length bs
    by (yes is) = arm-room 81 56 bs is e refl
    by (no not) = absurd (some (sym (quote-none (get_or bs 0 0) q not b a B A)))
