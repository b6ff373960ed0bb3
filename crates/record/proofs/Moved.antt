-- Fields moved from the places of a message's layout to those of a record are the fields laid there.
-- Assumes nothing.
use mathlib.Core.Path.{◌≡◌, refl, sym, ap, ◌∙◌}
use mathlib.Core.Bool.{Bool, true, ◌&&◌}
use mathlib.Core.List.{List, [], ◌∷◌, ◌++◌, append-nil}
use Prim.Native.Nat.{ℕ, ◌+◌, ◌*◌, ◌≤◌}
use native.Mathlib.Nat.{add-zero}
use native.Mathlib.Numerals.{unary_clauses}
use native.Mathlib.Omega.{arith}
use borrow.Author.Tests.{leb-true, eqb-true}
use lib.Dec.{leb, eqb}
use lib.ListN.{length, take, drop, get_or}
use Rattle.field.specs.Bytes.{part, overlay, be, bytes_be, Bytes}
use Rattle.field.specs.Limits.{price_in_range}
use Rattle.field.specs.Decimal.{chars_then_spaces}
use Rattle.field.proofs.Bools.{both_left, both_right}
use Rattle.field.proofs.Numbers.{Lent, lent-bytes, rewrites, carried}
use Rattle.field.proofs.Writes.{carried-run}
use Rattle.message.specs.Layout.{Value, num, raw, priced, Rule, binary, decimal, text, bytes, price, Row, value_in, bytes_in, values, bytes_for}
use Rattle.message.specs.Letters.{letters, letter_in, end_of_replay_rows, end_of_replay_of, stamp_rows, instrument_rows, directory_rows, quote_rows, system_event_rows, numbers_rows, numbers_fields, numbers_of, long_numbers_rows}
use Rattle.message.specs.declared.SideNumbers.{SideNumbers}
use Rattle.message.proofs.Layouts.{never, plain, fields-run}
use Rattle.message.proofs.Puts.{numbers-put}
use Rattle.record.specs.Places.{record_size, letter_place, stamp_places, instrument_places, directory_places, end_of_replay_places, record_letters, head_places, system_event_places, low_places, side_places}
use Rattle.record.specs.Record.{laid, laid_from, laid_back}

-- a rule writes a value as it is, but for numbers in characters
as-it-is : (r : Rule) (w : ℕ) (v : Value) → plain r ≡ true → bytes_in r w v ≡ bytes_in bytes w v
as-it-is (binary p) w (num n) h = refl
as-it-is (binary p) w (raw b) h = refl
as-it-is (binary p) w (priced x) h = refl
as-it-is decimal w v h = never h
as-it-is text w (num n) h = refl
as-it-is text w (raw b) h = refl
as-it-is text w (priced x) h = refl
as-it-is bytes w v h = refl
as-it-is (price p) w (num n) h = refl
as-it-is (price p) w (raw b) h = refl
as-it-is (price p) w (priced x) h = refl

-- so bytes that one rule reads, another writes again
again : (r p : Row) (bs : List ℕ) → plain r.rule ≡ true → plain p.rule ≡ true → p.width ≡ r.width → Bytes bs → r.at + r.width ≤ length bs
    → bytes_in p.rule p.width (value_in r.rule (part bs r.at r.width)) ≡ part bs r.at r.width
unfolding values bytes_for
again r p bs h k e s l =
    let v = value_in r.rule (part bs r.at r.width) in
    let own : bytes_in r.rule r.width v ≡ part bs r.at r.width
    = simp (append-nil, unary_clauses) at (fields-run (r ∷ []) bs r.at (refl, h, tt) s (omega arith)) in
    rw e (as-it-is p.rule r.width v k ∙ sym (as-it-is r.rule r.width v h) ∙ own)

-- the fields of a layout and their places elsewhere, of the same widths; the fields lie in n bytes
abbrev pub Pairs : ℕ → List Row → List Row → Type 0
Pairs n [] ps = Unit
Pairs n (r ∷ rs) [] = Unit
Pairs n (r ∷ rs) (p ∷ ps) = (r.at + r.width ≤ n) × (p.width ≡ r.width) × (plain r.rule ≡ true) × (plain p.rule ≡ true) × Pairs n rs ps

-- the moves, as a function's calls show them
abbrev pub Moves : List ℕ → List Row → List Row → List ℕ → List ℕ → Type 0
Moves bs [] ps xs zs = zs ≡ xs
Moves bs (r ∷ rs) [] xs zs = zs ≡ xs
Moves bs (r ∷ rs) (p ∷ ps) xs zs = (ys : List ℕ) × (ys ≡ overlay xs p.at (part bs r.at r.width)) × Moves bs rs ps ys zs

-- THE LAW OF MOVES
pub laid-moved : (rs ps : List Row) (bs xs zs : List ℕ) → Pairs (length bs) rs ps → Bytes bs → Moves bs rs ps xs zs → zs ≡ laid ps (values rs bs) xs
unfolding laid values
laid-moved [] [] bs xs zs t s m = m
laid-moved [] (p ∷ ps) bs xs zs t s m = m
laid-moved (r ∷ rs) [] bs xs zs t s m = m
laid-moved (r ∷ rs) (p ∷ ps) bs xs zs t s m =
    laid-moved rs ps bs m.0 zs t.4 s m.2
    ∙ ap (laid ps (values rs bs)) (m.1 ∙ ap (overlay xs p.at) (sym (again r p bs t.2 t.3 t.1 s t.0)))

-- the rule of pairs as one computed test
unfoldable pub paired : ℕ → List Row → List Row → Bool
paired n [] ps = true
paired n (r ∷ rs) [] = true
paired n (r ∷ rs) (p ∷ ps) = leb (r.at + r.width) n && (eqb p.width r.width && (plain r.rule && (plain p.rule && paired n rs ps)))

pairs-are : (n m : ℕ) (rs ps : List Row) → n ≤ m → paired n rs ps ≡ true → Pairs m rs ps
unfolding paired
pairs-are n m [] ps l t = tt
pairs-are n m (r ∷ rs) [] l t = tt
pairs-are n m (r ∷ rs) (p ∷ ps) l t =
    let room : Bool = leb (r.at + r.width) n in
    let wide : Bool = eqb p.width r.width in
    let rest : Bool = paired n rs ps in
    let t1 = both_right room (wide && (plain r.rule && (plain p.rule && rest))) t in
    let t2 = both_right wide (plain r.rule && (plain p.rule && rest)) t1 in
    let t3 = both_right (plain r.rule) (plain p.rule && rest) t2 in (
      omega (arith, leb-true (r.at + r.width) n (both_left room (wide && (plain r.rule && (plain p.rule && rest))) t)),
      eqb-true p.width r.width (both_left wide (plain r.rule && (plain p.rule && rest)) t1),
      both_left (plain r.rule) (plain p.rule && rest) t2,
      both_left (plain p.rule) rest t3,
      pairs-are n m rs ps l (both_right (plain p.rule) rest t3),
    )

pub moved : (n : ℕ) (rs ps : List Row) (bs xs : List ℕ) {zs : List ℕ} → paired n rs ps ≡ true → n ≤ length bs → Lent bs → Moves bs rs ps xs zs
    → zs ≡ laid ps (values rs bs) xs
moved n rs ps bs xs {zs} t h k m = laid-moved rs ps bs xs zs (pairs-are n (length bs) rs ps h t) (lent-bytes bs k) m

-- moves after moves
laid-join : (rs ps rs' ps' : List Row) (bs xs : List ℕ) → length rs ≡ length ps
    → laid (ps ++ ps') (values (rs ++ rs') bs) xs ≡ laid ps' (values rs' bs) (laid ps (values rs bs) xs)
unfolding laid values
laid-join [] [] rs' ps' bs xs e = refl
laid-join [] (p ∷ ps) rs' ps' bs xs e = absurd (omega arith)
laid-join (r ∷ rs) [] rs' ps' bs xs e = absurd (omega arith)
laid-join (r ∷ rs) (p ∷ ps) rs' ps' bs xs e =
    laid-join rs ps rs' ps' bs (overlay xs p.at (bytes_in p.rule p.width (value_in r.rule (part bs r.at r.width)))) (omega arith)

pub after : (rs ps rs' ps' : List Row) (bs xs : List ℕ) {us zs : List ℕ} → length rs ≡ length ps → us ≡ laid ps (values rs bs) xs → zs ≡ laid ps' (values rs' bs) us
    → zs ≡ laid (ps ++ ps') (values (rs ++ rs') bs) xs
after rs ps rs' ps' bs xs l e f = f ∙ ap (laid ps' (values rs' bs)) e ∙ sym (laid-join rs ps rs' ps' bs xs l)

-- ---- each run of moves

pub stamp-moved : (xs bs : List ℕ) {us vs zs : List ℕ} → Lent bs → 11 ≤ length bs → us ≡ overlay xs 0 (part bs 0 1) → vs ≡ overlay us 2 (part bs 1 2)
    → zs ≡ overlay vs 8 (part bs 3 8) → zs ≡ laid (letter_place ∷ stamp_places) (values (letter_place ∷ stamp_rows) bs) xs
unfolding paired
stamp-moved xs bs {us} {vs} {zs} k h e f g = moved 11 (letter_place ∷ stamp_rows) (letter_place ∷ stamp_places) bs xs refl h k (us, e, (vs, f, (zs, g, refl)))

pub head-moved : (xs bs : List ℕ) {us vs zs : List ℕ} → Lent bs → 16 ≤ length bs → us ≡ laid (letter_place ∷ stamp_places) (values (letter_place ∷ stamp_rows) bs) xs
    → vs ≡ overlay us 4 (part bs 11 4) → zs ≡ overlay vs 1 (part bs 15 1) → zs ≡ laid (letter_place ∷ head_places) (values (letter_place ∷ quote_rows) bs) xs
unfolding laid values paired
head-moved xs bs {us} {vs} {zs} k h e f g = moved 16 (drop 2 quote_rows) (drop 2 head_places) bs us refl h k (vs, f, (zs, g, refl)) ∙ rw e

pub event-moved : (xs bs : List ℕ) {us zs : List ℕ} → Lent bs → 12 ≤ length bs → us ≡ laid (letter_place ∷ stamp_places) (values (letter_place ∷ stamp_rows) bs) xs
    → zs ≡ overlay us 1 (part bs 11 1) → zs ≡ laid (letter_place ∷ system_event_places) (values (letter_place ∷ system_event_rows) bs) xs
unfolding laid values paired
event-moved xs bs {us} {zs} k h e f = moved 12 (drop 2 system_event_rows) (drop 2 system_event_places) bs us refl h k (zs, f, refl) ∙ rw e

-- ---- the numbers of a side, of w bytes each, which the code counts as k

module _ (w : ℕ) (keeps : ℕ → Bool) (xs bs : List ℕ) (lent : Lent bs) {k : ℕ} (wide : k ≡ w) where
  pub numbers-moved : (low from : ℕ) {a b c d e : ℕ} {us vs ws ys zs : List ℕ} → from + 5 * w ≤ length bs
      → a ≡ be (part bs from w) → us ≡ overlay xs low (bytes_be w a) → b ≡ be (part bs (from + k) w) → vs ≡ overlay us (low + 4) (bytes_be w b)
      → c ≡ be (part bs (from + 2 * k) w) → ws ≡ overlay vs (low + 8) (bytes_be w c) → d ≡ be (part bs (from + 3 * k) w) → ys ≡ overlay ws (low + 12) (bytes_be w d)
      → e ≡ be (part bs (from + 4 * k) w) → zs ≡ overlay ys (low + 16) (bytes_be w e)
      → zs ≡ laid (low_places w low) (values (numbers_rows w keeps from) bs) xs
  numbers-moved low from {us = us} {vs = vs} {ws = ws} {ys = ys} {zs = zs} h a f b g c i d j e l =
      laid-moved (numbers_rows w keeps from) (low_places w low) bs xs zs
      (omega arith, refl, refl, refl, (omega arith, refl, refl, refl, (omega arith, refl, refl, refl, (omega arith, refl, refl, refl, (omega arith, refl, refl, refl, tt)))))
      (lent-bytes bs lent) (
        us,
        carried w xs low bs from lent (omega arith) a f,
        (
          vs,
          carried w us (low + 4) bs (from + w) lent (omega arith) (rw wide at b) g,
          (
            ws,
            carried w vs (low + 8) bs (from + 2 * w) lent (omega arith) (rw wide at c) i,
            (ys, carried w ws (low + 12) bs (from + 3 * w) lent (omega arith) (rw wide at d) j, (zs, carried w ys (low + 16) bs (from + 4 * w) lent (omega arith) (rw wide at e) l, refl)),
          ),
        ),
      )

  -- and back
  pub numbers-back : (low to : ℕ) {a b c d e : ℕ} {us vs ws ys zs : List ℕ} → low + 16 + w ≤ length bs
      → a ≡ be (part bs low w) → us ≡ overlay xs to (bytes_be w a) → b ≡ be (part bs (low + 4) w) → vs ≡ overlay us (to + k) (bytes_be w b)
      → c ≡ be (part bs (low + 8) w) → ws ≡ overlay vs (to + 2 * k) (bytes_be w c) → d ≡ be (part bs (low + 12) w) → ys ≡ overlay ws (to + 3 * k) (bytes_be w d)
      → e ≡ be (part bs (low + 16) w) → zs ≡ overlay ys (to + 4 * k) (bytes_be w e)
      → zs ≡ laid (numbers_rows w keeps to) (values (low_places w low) bs) xs
  numbers-back low to {us = us} {vs = vs} {ws = ws} {ys = ys} {zs = zs} h a f b g c i d j e l =
      laid-moved (low_places w low) (numbers_rows w keeps to) bs xs zs
      (omega arith, refl, refl, refl, (omega arith, refl, refl, refl, (omega arith, refl, refl, refl, (omega arith, refl, refl, refl, (omega arith, refl, refl, refl, tt)))))
      (lent-bytes bs lent) (
        us,
        carried w xs to bs low lent (omega arith) a f,
        (
          vs,
          carried w us (to + w) bs (low + 4) lent (omega arith) b (rw wide at g),
          (
            ws,
            carried w vs (to + 2 * w) bs (low + 8) lent (omega arith) c (rw wide at i),
            (ys, carried w ws (to + 3 * w) bs (low + 12) lent (omega arith) d (rw wide at j), (zs, carried w ys (to + 4 * w) bs (low + 16) lent (omega arith) e (rw wide at l), refl)),
          ),
        ),
      )

-- those of four bytes side by side
long-laid : (xs : List ℕ) (at : ℕ) (n : SideNumbers ℕ) → at + 20 ≤ length xs
    → overlay xs at (bytes_for (long_numbers_rows at) (numbers_fields n)) ≡ laid (low_places 4 at) (numbers_fields n) xs
unfolding laid
long-laid xs at n h = sym (numbers-put 4 price_in_range xs at n refl refl h refl refl refl refl refl)

module _ (w : ℕ) (keeps : ℕ → Bool) (four : w ≡ 4) (bs xs : List ℕ) {zs : List ℕ} where
  pub long-moved : (at from : ℕ) → at + 20 ≤ length xs
      → zs ≡ overlay xs at (bytes_for (long_numbers_rows at) (numbers_fields (numbers_of (values (long_numbers_rows from) bs))))
      → zs ≡ laid (side_places w at) (values (numbers_rows w keeps from) bs) xs
  unfolding laid values
  long-moved at from h e = rw (four, add-zero at) (e ∙ long-laid xs at (numbers_of (values (long_numbers_rows from) bs)) h)

  pub long-back : (at to : ℕ) → to + 20 ≤ length xs
      → zs ≡ overlay xs to (bytes_for (long_numbers_rows to) (numbers_fields (numbers_of (values (long_numbers_rows at) bs))))
      → zs ≡ laid (numbers_rows w keeps to) (values (side_places w at) bs) xs
  unfolding laid values
  long-back at to h e = rw (four, add-zero at) (e ∙ long-laid xs to (numbers_of (values (long_numbers_rows at) bs)) h)

-- those of a side at places that are known to be the same by arithmetic alone
pub moved-at : (w : ℕ) (keeps : ℕ → Bool) (bs xs : List ℕ) {zs : List ℕ} {low low' from from' : ℕ}
    → zs ≡ laid (low_places w low) (values (numbers_rows w keeps from) bs) xs → low ≡ low' → from ≡ from'
    → zs ≡ laid (low_places w low') (values (numbers_rows w keeps from') bs) xs
moved-at w keeps bs xs {low' = low'} {from = from} h e f =
    h ∙ ap (λ (k : ℕ). laid (low_places w k) (values (numbers_rows w keeps from) bs) xs) e
    ∙ ap (λ (k : ℕ). laid (low_places w low') (values (numbers_rows w keeps k) bs) xs) f

-- ---- a directory

-- two bytes that are copied at once
pair : (xs bs : List ℕ) (at from : ℕ) {zs : List ℕ} → at + 2 ≤ length xs → from + 2 ≤ length bs → zs ≡ overlay xs at (part bs from 2)
    → zs ≡ overlay (overlay xs at (part bs from 1)) (at + 1) (part bs (from + 1) 1)
pair xs bs at from h g e = e ∙ sym (carried-run bs from xs at 1 (1 ∷ []) g h refl (_, refl, refl))

pub terms-moved : (xs bs : List ℕ) {us vs ys zs : List ℕ} → Lent bs → 63 ≤ length bs → record_size ≤ length vs → us ≡ overlay xs 4 (part bs 11 4)
    → vs ≡ overlay us 75 (part bs 15 8) → ys ≡ overlay vs 68 (part bs 23 2) → zs ≡ overlay ys 70 (part bs 25 1)
    → zs ≡ laid (take 5 instrument_places) (values (take 5 instrument_rows) bs) xs
unfolding paired
terms-moved xs bs {us} {vs} {ys} {zs} k h l e f g j =
    moved 63 (take 5 instrument_rows) (take 5 instrument_places) bs xs refl h k
    (us, e, (vs, f, (overlay vs 68 (part bs 23 1), refl, (ys, pair vs bs 68 23 (omega arith) (omega arith) g, (zs, j, refl)))))

pub middle-moved : (xs bs : List ℕ) {us vs zs : List ℕ} → Lent bs → 63 ≤ length bs → us ≡ overlay xs 64 (part bs 26 4) → vs ≡ overlay us 71 (part bs 30 1)
    → zs ≡ overlay vs 83 (part bs 31 13) → zs ≡ laid (take 3 (drop 5 instrument_places)) (values (take 3 (drop 5 instrument_rows)) bs) xs
unfolding paired
middle-moved xs bs {us} {vs} {zs} k h e f g =
    moved 63 (take 3 (drop 5 instrument_rows)) (take 3 (drop 5 instrument_places)) bs xs refl h k (us, e, (vs, f, (zs, g, refl)))

pub marks-moved : (xs bs : List ℕ) {vs ws zs : List ℕ} → Lent bs → 63 ≤ length bs → record_size ≤ length xs → vs ≡ overlay xs 72 (part bs 44 2)
    → ws ≡ overlay vs 74 (part bs 46 1) → zs ≡ overlay ws 96 (part bs 47 16) → zs ≡ laid (drop 8 instrument_places) (values (drop 8 instrument_rows) bs) xs
unfolding paired
marks-moved xs bs {vs} {ws} {zs} k h l f g i =
    moved 63 (drop 8 instrument_rows) (drop 8 instrument_places) bs xs refl h k
    (overlay xs 72 (part bs 44 1), refl, (vs, pair xs bs 72 44 (omega arith) (omega arith) f, (ws, g, (zs, i, refl))))

pub directory-moved : (xs bs : List ℕ) {us vs ws zs : List ℕ} → us ≡ laid (letter_place ∷ stamp_places) (values (letter_place ∷ stamp_rows) bs) xs
    → vs ≡ laid (take 5 instrument_places) (values (take 5 instrument_rows) bs) us → ws ≡ laid (take 3 (drop 5 instrument_places)) (values (take 3 (drop 5 instrument_rows)) bs) vs
    → zs ≡ laid (drop 8 instrument_places) (values (drop 8 instrument_rows) bs) ws → zs ≡ laid (letter_place ∷ directory_places) (values (letter_place ∷ directory_rows) bs) xs
unfolding laid values
directory-moved xs bs e f g h = rw (h, g, f, e)

-- ---- any letter

pub end_moved : (xs bs : List ℕ) {v : ℕ} {us zs : List ℕ} → Lent bs → 21 ≤ length bs → us ≡ overlay xs 0 (part bs 0 1) → v ≡ (end_of_replay_of (values end_of_replay_rows bs)).number
    → zs ≡ overlay us 16 (bytes_be 8 v) → zs ≡ laid (letter_place ∷ end_of_replay_places) (values (letter_place ∷ end_of_replay_rows) bs) xs
unfolding laid values
end_moved xs bs k h e i f = f ∙ rw (i, e, rewrites 1 bs 0 (lent-bytes bs k) (omega arith))

pub lay-arm : (k : ℕ) (bs xs : List ℕ) {zs : List ℕ} → get_or bs 0 0 ≡ k
    → zs ≡ laid (letter_place ∷ (letter_in record_letters k).rows) (values (letter_place ∷ (letter_in letters k).rows) bs) xs → zs ≡ laid_from bs xs
unfolding laid_from
lay-arm k bs xs e p = rw e p

-- ---- and back, from a record's places to a message's

pub end_back : (bs xs : List ℕ) {v : ℕ} {us zs : List ℕ} → Lent bs → length bs ≡ record_size → us ≡ overlay xs 0 (part bs 0 1) → v ≡ be (part bs 16 8)
    → zs ≡ overlay us 1 (chars_then_spaces 20 v) → zs ≡ laid (letter_place ∷ end_of_replay_rows) (values (letter_place ∷ end_of_replay_places) bs) xs
unfolding laid values
end_back bs xs k h e i f = f ∙ rw (i, e, rewrites 1 bs 0 (lent-bytes bs k) (omega arith))

pub back-arm : (k c : ℕ) (bs xs : List ℕ) {zs : List ℕ} → c ≡ k
    → zs ≡ laid (letter_place ∷ (letter_in letters k).rows) (values (letter_place ∷ (letter_in record_letters k).rows) bs) xs → zs ≡ laid_back c bs xs
unfolding laid_back
back-arm k c bs xs e p = rw e p

pub back-room : (k c n : ℕ) → c ≡ k → (letter_in letters c).size ≤ n → (letter_in letters k).size ≤ n
back-room k c n e h = rw e at h
