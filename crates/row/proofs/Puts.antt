-- The ways through the code: what it tests and writes is what the definitions say.
-- Assumes nothing.
use mathlib.Core.Path.{◌≡◌, refl, sym, ap, ◌∙◌}
use mathlib.Core.Bool.{Bool, true, false, cond, ◌&&◌, ◌||◌, not}
use mathlib.Core.List.{List, [], ◌∷◌, ◌++◌}
use Prim.Native.Nat.{ℕ, ◌+◌, ◌/◌, ◌%◌, ◌≤◌}
use native.Mathlib.Omega.{arith}
use borrow.Author.Tests.{eq-eqb, ne_eqb}
use lib.Dec.{eqb, leb}
use lib.ListN.{length, replicate, length-append, length-replicate}
use Rattle.field.specs.Bytes.{part, overlay, value, digits, be, bytes_be}
use Rattle.field.specs.Limits.{time_in_range, price_in_range}
use Rattle.field.specs.Text.{every, is_zero}
use Rattle.field.proofs.Parts.{part_length, part-part, part-replicate, overlay-own, overlay-whole, overlay-next, overlay-swap}
use Rattle.field.proofs.Runs.{zeros-are}
use Rattle.field.proofs.Writes.{piece, run-joined}
use Rattle.message.specs.Layout.{price_from, bytes_for, values}
use Rattle.message.specs.Letters.{listed, states, conditions, stamp_rows, stamp_fields, long_numbers_rows, numbers_fields, instrument_rows, instrument_fields, LongNumbers}
use Rattle.std.specs.Prelude.{Option}
use Rattle.message.specs.declared.Side.{Side}
use Rattle.message.specs.declared.Side.TheVariants.{Bid, Ask}
use Rattle.message.specs.declared.Directory.{Directory}
use Rattle.message.specs.declared.TradingAction.{TradingAction}
use Rattle.message.specs.declared.Texts.{Texts}
use Rattle.row.specs.Fields.{row_size, id_of, tradable_of, side_at, sides_of, price_of, side_time_at, side_time_of, unknown_time, has_seen, weight, seen_with, state_takes_quote, takes_quote}
use Rattle.row.specs.Changes.{changed, purge, directory_changes, new_row, action_changes, sides_changes, times_changes, own_changes, quote_changes}
use Rattle.row.specs.Rules.{marks_keep, side_keeps, newest, side_time_keeps, times_keep}
use Rattle.row.specs.Moves.{mark_of, marks_of, forward_row, back_row}
use Rattle.row.specs.declared.Sides.TheVariants.{One, Both}
use Rattle.row.specs.declared.Quote.{Quote}

not-true : (b : Bool) → not b ≡ true → b ≡ false
not-true true n = sym n
not-true false n = refl

not-false : (b : Bool) → not b ≡ false → b ≡ true
not-false true n = refl
not-false false n = sym n

-- ---- the fields of a row

-- the sides seen, with one more
module _ (side : Side) (sides : ℕ) where
  seen-there : has_seen side sides ≡ true → sides ≡ seen_with side sides
  unfolding seen_with
  seen-there e = rw e

  seen-added : has_seen side sides ≡ false → sides + weight side ≡ seen_with side sides
  unfolding seen_with
  seen-added e = rw e

module _ (sides : ℕ) {side : Side} where
  pub bid-there : side ≡ Bid → sides % 2 ≡ 1 → sides ≡ seen_with side sides
  bid-there i e = rw i (seen-there Bid sides (eq-eqb (sides % 2) 1 e))

  pub bid-added : side ≡ Bid → (sides % 2 ≡ 1 → ⊥) → sides + 1 ≡ seen_with side sides
  bid-added i e = rw i (seen-added Bid sides (ne_eqb (sides % 2) 1 e))

  pub ask-there : side ≡ Ask → sides / 2 % 2 ≡ 1 → sides ≡ seen_with side sides
  ask-there i e = rw i (seen-there Ask sides (eq-eqb (sides / 2 % 2) 1 e))

  pub ask-added : side ≡ Ask → (sides / 2 % 2 ≡ 1 → ⊥) → sides + 2 ≡ seen_with side sides
  ask-added i e = rw i (seen-added Ask sides (ne_eqb (sides / 2 % 2) 1 e))

-- what is seen, by the side that is asked for
pub bid-told : {side : Side} (sides : ℕ) → side ≡ Bid → eqb (sides % 2) 1 ≡ has_seen side sides
bid-told sides i = rw i

pub ask-told : {side : Side} (sides : ℕ) → side ≡ Ask → eqb (sides / 2 % 2) 1 ≡ has_seen side sides
ask-told sides i = rw i

-- ---- the messages

-- each change is laid over what the changes before it left
over : (at : ℕ) (bytes : List ℕ) {xs us : List ℕ} → us ≡ xs → overlay us at bytes ≡ overlay xs at bytes
over at bytes e = ap (λ (l : List ℕ). overlay l at bytes) e

pub purge-put : (xs : List ℕ) {us vs zs : List ℕ} → us ≡ overlay xs 53 (bytes_be 1 32) → vs ≡ overlay us 54 (replicate 42 0)
    → zs ≡ overlay vs 106 (replicate 16 0) → zs ≡ changed purge xs
unfolding changed
purge-put xs e f g = g ∙ over 106 (replicate 16 0) (f ∙ over 54 (replicate 42 0) e)

pub action-put : (xs : List ℕ) (a : TradingAction) {us zs : List ℕ} → us ≡ overlay xs 52 (bytes_be 1 a.state)
    → zs ≡ overlay us 96 (bytes_for stamp_rows (stamp_fields a.stamp)) → zs ≡ changed (action_changes a) xs
unfolding changed action_changes
action-put xs a e f = f ∙ over 96 (bytes_for stamp_rows (stamp_fields a.stamp)) e

pub side-put : (xs : List ℕ) (side : Side) (n : LongNumbers) (seen : ℕ) {w at : ℕ} {us zs : List ℕ} → seen ≡ sides_of xs
    → w ≡ seen_with side seen → us ≡ overlay xs 54 (bytes_be 1 w) → at ≡ side_at side
    → zs ≡ overlay us at (bytes_for (long_numbers_rows at) (numbers_fields n))
    → zs ≡ changed (sides_changes (One side n) (sides_of xs)) xs
unfolding changed sides_changes
side-put xs side n seen s p e q f = cc

pub both-put : (xs : List ℕ) (bid ask : LongNumbers) (seen : ℕ) {v w : ℕ} {us vs zs : List ℕ} → seen ≡ sides_of xs
    → v ≡ seen_with Bid seen → w ≡ seen_with Ask v → us ≡ overlay xs 54 (bytes_be 1 w)
    → vs ≡ overlay us 56 (bytes_for (long_numbers_rows 56) (numbers_fields bid))
    → zs ≡ overlay vs 76 (bytes_for (long_numbers_rows 76) (numbers_fields ask))
    → zs ≡ changed (sides_changes (Both bid ask) (sides_of xs)) xs
unfolding changed sides_changes
both-put xs bid ask seen s p q e f g = cc

-- and the times of the sides behind their numbers
pub one-timed : (xs : List ℕ) (side : Side) (n : LongNumbers) (seen time : ℕ) {us zs : List ℕ} → us ≡ changed (sides_changes (One side n) seen) xs
    → zs ≡ overlay us (side_time_at side) (bytes_be 8 time) → zs ≡ changed (own_changes (One side n) seen time) xs
unfolding changed sides_changes times_changes
one-timed xs side n seen time e f = f ∙ over (side_time_at side) (bytes_be 8 time) e

pub both-timed : (xs : List ℕ) (bid ask : LongNumbers) (seen time : ℕ) {us zs : List ℕ} → us ≡ changed (sides_changes (Both bid ask) seen) xs
    → zs ≡ overlay (overlay us 106 (bytes_be 8 time)) 114 (bytes_be 8 time) → zs ≡ changed (own_changes (Both bid ask) seen time) xs
unfolding changed sides_changes times_changes
both-timed xs bid ask seen time e f = f ∙ over 114 (bytes_be 8 time) (over 106 (bytes_be 8 time) e)

pub quote-put : (xs : List ℕ) (q : Quote) {seen : ℕ} {us vs zs : List ℕ} → seen ≡ be (part xs 54 1)
    → us ≡ overlay xs 53 (bytes_be 1 q.condition) → vs ≡ overlay us 96 (bytes_for stamp_rows (stamp_fields q.stamp))
    → zs ≡ changed (own_changes q.sides seen q.stamp.time) vs → zs ≡ changed (quote_changes q xs) xs
unfolding changed quote_changes
quote-put xs q i e f g = cc

module _ (xs : List ℕ) (d : Directory) (t : Texts) {us vs : List ℕ} (e : us ≡ overlay xs 0 (bytes_for instrument_rows (instrument_fields d.instrument t)))
    (f : vs ≡ overlay us 96 (bytes_for stamp_rows (stamp_fields d.stamp))) where
  pub directory-put : {zs : List ℕ} → d.instrument.tradable ≡ 78 → zs ≡ changed purge vs → zs ≡ changed (directory_changes d t) xs
  unfolding changed directory_changes
  directory-put n g = rw (eq-eqb d.instrument.tradable 78 n, ← e, ← f) g

  pub directory-kept : (d.instrument.tradable ≡ 78 → ⊥) → vs ≡ changed (directory_changes d t) xs
  unfolding changed directory_changes
  directory-kept n = rw (ne_eqb d.instrument.tradable 78 n, ← e) f

-- 52 bytes and 72 zeros are all of a new row, so that it does not matter what lay there
module _ (ys : List ℕ) (k : length ys ≡ 52) where
  all-put : (xs : List ℕ) → length xs ≡ row_size → overlay (overlay xs 52 (replicate 72 0)) 0 ys ≡ ys ++ replicate 72 0
  all-put xs h =
      let l : length {A = ℕ} (replicate 72 0) ≡ 72 = length-replicate {A = ℕ} 72 0 in
      sym (overlay-swap xs 0 ys 52 (replicate 72 0) (omega arith) (omega arith))
      ∙ rw k at (overlay-next xs 0 ys (replicate 72 0) (omega arith))
      ∙ overlay-whole xs (ys ++ replicate 72 0) (length-append ys (replicate 72 0) ∙ omega arith)

  over_zeros : (xs : List ℕ) → length xs ≡ row_size → overlay (overlay xs 52 (replicate 72 0)) 0 ys ≡ overlay (replicate row_size 0) 0 ys
  over_zeros xs h =
      let l : length {A = ℕ} (replicate row_size 0) ≡ row_size = length-replicate {A = ℕ} row_size 0 in
      let own : overlay (replicate row_size 0) 52 (replicate 72 0) ≡ replicate row_size 0
      = ap (overlay (replicate row_size 0) 52) (sym (part-replicate row_size 52 72 0 (omega arith))) ∙ overlay-own (replicate row_size 0) 52 72 (omega arith) in
      all-put xs h ∙ sym (all-put (replicate row_size 0) l) ∙ ap (λ (x : List ℕ). overlay x 0 ys) own

pub new-put : (xs : List ℕ) (d : Directory) (t : Texts) {rest us vs zs : List ℕ} → length xs ≡ row_size
    → length (bytes_for instrument_rows (instrument_fields d.instrument t)) ≡ 52 → rest ≡ overlay xs 52 (replicate 72 0)
    → us ≡ overlay rest 0 (bytes_for instrument_rows (instrument_fields d.instrument t)) → vs ≡ overlay us 53 (bytes_be 1 32)
    → zs ≡ overlay vs 96 (bytes_for stamp_rows (stamp_fields d.stamp)) → zs ≡ new_row d t
unfolding changed new_row
new-put xs d t h k z e f g =
    let i = over_zeros (bytes_for instrument_rows (instrument_fields d.instrument t)) k xs h in
    cc

-- ---- the tests

-- the id is read where the layout has it
pub id-read : (xs : List ℕ) {id : ℕ} → id ≡ be (part xs 0 4) → id ≡ id_of xs
unfolding id_of values
id-read xs e = e

-- a quote is taken where the state takes one and tradable is Y
module _ (xs : List ℕ) {state : ℕ} {quoting : Bool} (e : state ≡ be (part xs 52 1)) (f : quoting ≡ state_takes_quote state) where
  pub state-denies : quoting ≡ false → false ≡ takes_quote xs
  unfolding takes_quote
  state-denies g = rw (← e, ← f, g)

  pub state-allows : {tradable : Bool} → quoting ≡ true → tradable ≡ eqb (be (part xs 34 1)) 89 → tradable ≡ takes_quote xs
  unfolding takes_quote tradable_of values
  state-allows g h = rw (← e, ← f, g, h)

pub price-read : (xs : List ℕ) (side : Side) {at n : ℕ} {price : Option ℕ} → at ≡ side_at side → n ≡ be (part xs (at + 4) 4) → price ≡ price_from n
    → price ≡ price_of side xs
price-read xs side e f g = g ∙ ap price_from (rw e at f)

-- a side that is all zero has a price in range
zeros-low : (xs : List ℕ) (at : ℕ) → at + 20 ≤ length xs → every is_zero (part xs at 20) ≡ true → price_in_range (be (part xs (at + 4) 4)) ≡ true
unfolding part value
zeros-low xs at h e =
    let l : length (part xs at 20) ≡ 20 = part_length xs at 20 h in
    let z : part xs at 20 ≡ replicate 20 0 = zeros-are (part xs at 20) e ∙ ap (λ (n : ℕ). replicate n 0) l in
    ap (λ (x : List ℕ). price_in_range (be x)) (sym (part-part xs at 20 4 4 (omega arith)) ∙ ap (λ (x : List ℕ). part x 4 4) z)

module _ (xs : List ℕ) (side : Side) {at sides : ℕ} {seen : Bool} (e : at ≡ side_at side) (f : sides ≡ be (part xs 54 1)) (g : seen ≡ has_seen side sides) where
  told : has_seen side (be (part xs 54 1)) ≡ seen
  told = rw (g, f)

  pub side-unseen : row_size ≤ length xs → at ≤ 76 → not seen ≡ true → {zero : Bool} → zero ≡ every is_zero (part xs at 20) → zero ≡ side_keeps side xs
  unfolding side_keeps
  side-unseen l m n {zero} h = rw (told ∙ not-true seen n, ← e) (by (every is_zero (part xs at 20)) refl)
    where
      by : (b : Bool) → every is_zero (part xs at 20) ≡ b → zero ≡ every is_zero (part xs at 20) && price_in_range (be (part xs (at + 4) 4))
      by true i = rw (i, zeros-low xs at (omega arith) i) (h ∙ i)
      by false i = rw i (h ∙ i)

  pub side-seen : not seen ≡ false → {low : Bool} → low ≡ price_in_range (be (part xs (at + 4) 4)) → low ≡ side_keeps side xs
  unfolding side_keeps
  side-seen n h = rw (told ∙ not-false seen n, ← e) h

first-or : (a b : Bool) → a || b ≡ cond a true b
first-or true b = refl
first-or false b = refl

pub marks-keep : (xs : List ℕ) {state condition sides : ℕ} {known fine : Bool} → state ≡ be (part xs 52 1) → known ≡ listed states state
    → condition ≡ be (part xs 53 1) → fine ≡ listed conditions condition → sides ≡ be (part xs 54 1)
    → (eqb 0 state || known) && (fine && leb sides 3) ≡ marks_keep xs
unfolding marks_keep listed
marks-keep xs e f g h i = rw (f, h, g, i, e, first-or)

-- ---- the times of the sides

pub time-read : (xs : List ℕ) (side : Side) {at time : ℕ} → at ≡ side_time_at side → time ≡ be (part xs at 8) → time ≡ side_time_of side xs
time-read xs side e f = rw e at f

module _ (xs : List ℕ) (side : Side) {time sides : ℕ} {seen : Bool} (et : time ≡ side_time_of side xs) (es : sides ≡ be (part xs 54 1))
    (e : seen ≡ has_seen side sides) where
  was : has_seen side (be (part xs 54 1)) ≡ seen
  was = rw (e, es)

  pub time-seen : {low : Bool} → seen ≡ true → low ≡ time_in_range time → low || eqb time unknown_time ≡ side_time_keeps side xs
  unfolding side_time_keeps
  time-seen f g = rw (was ∙ f, g, et)

  pub time-unseen : seen ≡ false → eqb time 0 ≡ side_time_keeps side xs
  unfolding side_time_keeps
  time-unseen f = rw (was ∙ f, et)

module _ (xs : List ℕ) (version : ℕ) where
  pub times-newest : {bid ask : Bool} → version ≡ newest → bid ≡ side_time_keeps Bid xs → ask ≡ side_time_keeps Ask xs → bid && ask ≡ times_keep version xs
  unfolding times_keep
  times-newest e f g = rw (eq-eqb version newest e, f, g)

  pub times-older : {zero : Bool} → (version ≡ newest → ⊥) → zero ≡ every is_zero (part xs 106 16) → zero ≡ times_keep version xs
  unfolding times_keep
  times-older e f = rw (ne_eqb version newest e) f

-- ---- the moves

pub forward-put : (xs : List ℕ) {sides bid ask : ℕ} {us zs : List ℕ} → row_size ≤ length xs → sides ≡ be (part xs 54 1)
    → bid ≡ mark_of Bid sides → us ≡ overlay xs 106 (bytes_be 8 bid) → ask ≡ mark_of Ask sides → zs ≡ overlay us 114 (bytes_be 8 ask)
    → zs ≡ forward_row xs
unfolding forward_row marks_of digits
forward-put xs {sides} {bid} {ask} {us} {zs} h s b e a f =
    run-joined xs 106 (piece 8 (bytes_be 8 bid)) (piece 8 (bytes_be 8 ask) ∷ []) (refl, (refl, tt)) (omega arith) e (zs, f, refl)
    ∙ rw (b, a, s)

pub back-put : (xs : List ℕ) {zs : List ℕ} → zs ≡ overlay xs 106 (replicate 16 0) → zs ≡ back_row xs
unfolding back_row
back-put xs e = e
