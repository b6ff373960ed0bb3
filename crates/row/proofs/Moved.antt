-- A ROW MOVED FORWARD AND BACK: what the moves leave, the rules that they keep, and when one undoes the other.
-- Assumes nothing.
use mathlib.Core.Path.{◌≡◌, refl, sym, ap, ◌∙◌}
use mathlib.Core.Bool.{Bool, true, false, cond, ◌&&◌, ◌||◌, not}
use mathlib.Core.List.{List, ◌++◌}
use Prim.Native.Nat.{ℕ, ◌+◌, ◌^◌, ◌≤◌, ◌<◌}
use native.Mathlib.Omega.{arith}
use borrow.Author.Tests.{eq-eqb, ne_eqb, eqb-true}
use lib.Dec.{eqb, lit<}
use lib.ListN.{length, replicate, length-append}
use Rattle.field.specs.Bytes.{part, overlay, digits, be, bytes_be, Bytes}
use Rattle.field.specs.Limits.{time_in_range}
use Rattle.field.specs.Text.{every, is_zero}
use Rattle.field.proofs.Bools.{both_left, both_right}
use Rattle.field.proofs.Parts.{part_length, part-split, overlay-length, part-before, part-after, part-inside, part-overlay, overlay-own, overlay-again}
use Rattle.field.proofs.Numbers.{value-digits, digits-length, digits_value, part_bytes}
use Rattle.field.proofs.Runs.{every-replicate, zeros-are}
use Rattle.message.specs.Layout.{values}
use Rattle.message.specs.declared.Side.{Side}
use Rattle.message.specs.declared.Side.TheVariants.{Bid, Ask}
use Rattle.row.specs.Fields.{row_size, id_of, sides_of, side_time_at, side_time_of, unknown_time, has_seen}
use Rattle.row.specs.Rules.{marks_keep, stamp_keeps, common_keeps, newest, side_time_keeps, times_keep, row_keeps}
use Rattle.row.specs.Moves.{mark_of, marks_of, forward_row, back_row, TimesUnknown, knows_time, count_of, known_times}
use Rattle.row.proofs.Kept.{entry-same, side_same, bare-same, spare-same}

marks-length : (sides : ℕ) → length (marks_of sides) ≡ 16
unfolding marks_of
marks-length sides = rw (length-append, digits-length, digits-length)

mark-below : (b : Bool) → cond b unknown_time 0 < 256 ^ 8
mark-below true = lit< tt
mark-below false = lit< tt

-- ---- other times in a row leave all that every version asks

common-same : (r r' : List ℕ) → ((i n : ℕ) → i + n ≤ 106 → part r' i n ≡ part r i n) → part r' 122 2 ≡ part r 122 2 → common_keeps r' ≡ common_keeps r
unfolding common_keeps marks_keep stamp_keeps
common-same r r' left past =
    let s : sides_of r' ≡ sides_of r = ap be (left 54 1 (omega arith)) in
    rw (
      entry-same r r' (left 0 52 (omega arith)),
      side_same r r' Bid (ap (has_seen Bid) s) (left 56 20 (omega arith)),
      side_same r r' Ask (ap (has_seen Ask) s) (left 76 20 (omega arith)),
      bare-same r r' (left 53 1 (omega arith)) (left 54 1 (omega arith)),
      spare-same r r' (left 55 1 (omega arith)) past,
      left 98 8 (omega arith),
      left 52 1 (omega arith),
      left 53 1 (omega arith),
      left 54 1 (omega arith),
    )

module _ (r : List ℕ) (long : row_size ≤ length r) where
  module _ (ys : List ℕ) (e : length ys ≡ 16) where
    room : 106 + length ys ≤ length r
    room = omega arith

    times-left : (i n : ℕ) → i + n ≤ 106 → part (overlay r 106 ys) i n ≡ part r i n
    times-left i n h = part-before r 106 ys room i n h

    times-common : common_keeps (overlay r 106 ys) ≡ common_keeps r
    times-common = common-same r (overlay r 106 ys) times-left (part-after r 106 ys room 122 2 (omega arith))

  -- ---- what the moves leave

  pub forward-size : length (forward_row r) ≡ length r
  unfolding forward_row
  forward-size = overlay-length r 106 (marks_of (sides_of r)) (room (marks_of (sides_of r)) (marks-length (sides_of r)))

  pub back-size : length (back_row r) ≡ length r
  unfolding back_row
  back-size = overlay-length r 106 (replicate 16 0) (room (replicate 16 0) refl)

  -- THEOREM: nothing before byte 106, and so not the id
  pub forward-left : (i n : ℕ) → i + n ≤ 106 → part (forward_row r) i n ≡ part r i n
  unfolding forward_row
  forward-left = times-left (marks_of (sides_of r)) (marks-length (sides_of r))

  pub back-left : (i n : ℕ) → i + n ≤ 106 → part (back_row r) i n ≡ part r i n
  unfolding back_row
  back-left = times-left (replicate 16 0) refl

  pub forward-id : id_of (forward_row r) ≡ id_of r
  unfolding id_of values
  forward-id = ap be (forward-left 0 4 (omega arith))

  pub back-id : id_of (back_row r) ≡ id_of r
  unfolding id_of values
  back-id = ap be (back-left 0 4 (omega arith))

  forward-sides : sides_of (forward_row r) ≡ sides_of r
  forward-sides = ap be (forward-left 54 1 (omega arith))

  back-sides : sides_of (back_row r) ≡ sides_of r
  back-sides = ap be (back-left 54 1 (omega arith))

  -- THEOREM: forward, the time of a side is its mark
  forward-part : (side : Side) → part (forward_row r) (side_time_at side) 8 ≡ bytes_be 8 (mark_of side (sides_of r))
  unfolding forward_row marks_of part digits
  forward-part Bid = part-inside r 106 (marks_of (sides_of r)) (room (marks_of (sides_of r)) (marks-length (sides_of r))) 0 8 (omega (arith, marks-length (sides_of r)))
  forward-part Ask = part-inside r 106 (marks_of (sides_of r)) (room (marks_of (sides_of r)) (marks-length (sides_of r))) 8 8 (omega (arith, marks-length (sides_of r)))

  pub forward-time : (side : Side) → side_time_of side (forward_row r) ≡ mark_of side (sides_of r)
  forward-time side = ap be (forward-part side) ∙ value-digits 256 (lit< tt) 8 (mark_of side (sides_of r)) (mark-below (has_seen side (sides_of r)))

  -- ---- the rules

  forward-side : (side : Side) → side_time_keeps side (forward_row r) ≡ true
  unfolding side_time_keeps
  forward-side side = rw (forward-time side, forward-sides) (by (has_seen side (sides_of r)))
    where
      by : (b : Bool) → cond b (time_in_range (cond b unknown_time 0) || eqb (cond b unknown_time 0) unknown_time) (eqb (cond b unknown_time 0) 0) ≡ true
      by true = refl
      by false = refl

  forward-common : common_keeps (forward_row r) ≡ common_keeps r
  unfolding forward_row
  forward-common = times-common (marks_of (sides_of r)) (marks-length (sides_of r))

  -- THEOREM: a row of any version, moved forward, keeps the rules of version 3
  pub forward-keeps : (v : ℕ) → row_keeps v r ≡ true → row_keeps newest (forward_row r) ≡ true
  unfolding row_keeps times_keep
  forward-keeps v k =
      let c : common_keeps (forward_row r) ≡ true = forward-common ∙ both_left (common_keeps r) (times_keep v r) k in
      rw (c, forward-side Bid) (forward-side Ask)

  -- THEOREM: and moved back, those of every other
  pub back-keeps : (v w : ℕ) → (w ≡ newest → ⊥) → row_keeps v r ≡ true → row_keeps w (back_row r) ≡ true
  unfolding row_keeps times_keep back_row
  back-keeps v w n k =
      let c : common_keeps (overlay r 106 (replicate 16 0)) ≡ true = times-common (replicate 16 0) refl ∙ both_left (common_keeps r) (times_keep v r) k in
      let z : part (overlay r 106 (replicate 16 0)) 106 16 ≡ replicate 16 0 = part-overlay r 106 (replicate 16 0) (room (replicate 16 0) refl) in
      rw (c, ne_eqb w newest n, z) (every-replicate is_zero 16 0 refl)

  -- ---- one after the other

  -- THEOREM: FORWARD THEN BACK is the row, for a row of a version before 3
  pub back-forward : (v : ℕ) → (v ≡ newest → ⊥) → row_keeps v r ≡ true → back_row (forward_row r) ≡ r
  unfolding row_keeps times_keep back_row forward_row
  back-forward v n k =
      let t : every is_zero (part r 106 16) ≡ true = rw (ne_eqb v newest n) at (both_right (common_keeps r) (times_keep v r) k) in
      let z : part r 106 16 ≡ replicate 16 0 = zeros-are (part r 106 16) t ∙ ap (λ (m : ℕ). replicate m 0) (part_length r 106 16 (omega arith)) in
      overlay-again r 106 (marks_of (sides_of r)) (replicate 16 0) (marks-length (sides_of r)) (room (marks_of (sides_of r)) (marks-length (sides_of r)))
      ∙ ap (overlay r 106) (sym z) ∙ overlay-own r 106 16 (omega arith)

  -- back then forward is forward
  pub forward-back : forward_row (back_row r) ≡ forward_row r
  unfolding forward_row back_row
  forward-back =
      ap (λ (s : ℕ). overlay (overlay r 106 (replicate 16 0)) 106 (marks_of s)) back-sides
      ∙ overlay-again r 106 (replicate 16 0) (marks_of (sides_of r)) (sym (marks-length (sides_of r))) (room (replicate 16 0) refl)

  -- THEOREM: BACK THEN FORWARD is the row EXACTLY WHEN the time of every seen side was unknown
  pub was-unknown : forward_row (back_row r) ≡ r → TimesUnknown r
  was-unknown e side s =
      ap (side_time_of side) (sym e ∙ forward-back) ∙ forward-time side ∙ ap (λ (b : Bool). cond b unknown_time 0) s

  forward-own : marks_of (sides_of r) ≡ part r 106 16 → forward_row r ≡ r
  unfolding forward_row
  forward-own e = ap (overlay r 106) e ∙ overlay-own r 106 16 (omega arith)

  inside : (side : Side) → side_time_at side + 8 ≤ length r
  inside Bid = omega arith
  inside Ask = omega arith

  module _ (u : TimesUnknown r) (side : Side) (f : side_time_keeps side r ≡ true) where
    value-is : (b : Bool) → has_seen side (sides_of r) ≡ b → side_time_of side r ≡ cond b unknown_time 0
    unfolding side_time_keeps
    value-is true s = u side s
    value-is false s = eqb-true (side_time_of side r) 0 (rw s at f)

    part-is : Bytes r → part r (side_time_at side) 8 ≡ bytes_be 8 (mark_of side (sides_of r))
    part-is bytes =
        let l : length (part r (side_time_at side) 8) ≡ 8 = part_length r (side_time_at side) 8 (inside side) in
        sym (rw l at (digits_value 256 (lit< tt) (part r (side_time_at side) 8) (part_bytes r (side_time_at side) 8 bytes)))
        ∙ ap (bytes_be 8) (value-is (has_seen side (sides_of r)) refl)

  pub then_same : row_keeps newest r ≡ true → Bytes r → TimesUnknown r → forward_row (back_row r) ≡ r
  unfolding row_keeps times_keep marks_of
  then_same k bytes u =
      let t = both_right (common_keeps r) (side_time_keeps Bid r && side_time_keeps Ask r) k in
      let b = part-is u Bid (both_left (side_time_keeps Bid r) (side_time_keeps Ask r) t) bytes in
      let a = part-is u Ask (both_right (side_time_keeps Bid r) (side_time_keeps Ask r) t) bytes in
      forward-back ∙ forward-own
      (sym (part-split r 106 8 8 ∙ ap (λ (x : List ℕ). x ++ part r 114 8) b ∙ ap (λ (x : List ℕ). bytes_be 8 (mark_of Bid (sides_of r)) ++ x) a))

-- ---- how many times are known

-- a side that is seen and whose time is not known is of unknown time
unknown-if : (side : Side) (r : List ℕ) → knows_time side r ≡ false → has_seen side (sides_of r) ≡ true → side_time_of side r ≡ unknown_time
unfolding knows_time
unknown-if side r e s = by (eqb (side_time_of side r) unknown_time) refl (rw s at e)
  where
    by : (b : Bool) → eqb (side_time_of side r) unknown_time ≡ b → not b ≡ false → side_time_of side r ≡ unknown_time
    by true f g = eqb-true (side_time_of side r) unknown_time f
    by false f g = let z : ◌≡◌ {A = ℕ} 1 0 = ap count_of g in absurd (omega arith)

known-not : (side : Side) (r : List ℕ) → (has_seen side (sides_of r) ≡ true → side_time_of side r ≡ unknown_time) → knows_time side r ≡ false
unfolding knows_time
known-not side r u = by (has_seen side (sides_of r)) refl
  where
    by : (b : Bool) → has_seen side (sides_of r) ≡ b → b && not (eqb (side_time_of side r) unknown_time) ≡ false
    by true s = rw (eq-eqb (side_time_of side r) unknown_time (u s))
    by false s = refl

none-counted : (b : Bool) → count_of b ≡ 0 → b ≡ false
none-counted true e = absurd (omega arith)
none-counted false e = refl

-- THEOREM: none is known EXACTLY WHEN the time of every seen side is unknown
pub none-known : (r : List ℕ) → known_times r ≡ 0 → TimesUnknown r
unfolding known_times
none-known r e Bid s = unknown-if Bid r (none-counted (knows_time Bid r) (omega arith)) s
none-known r e Ask s = unknown-if Ask r (none-counted (knows_time Ask r) (omega arith)) s

pub unknown-none : (r : List ℕ) → TimesUnknown r → known_times r ≡ 0
unfolding known_times
unknown-none r u = rw (known-not Bid r (u Bid), known-not Ask r (u Ask))
