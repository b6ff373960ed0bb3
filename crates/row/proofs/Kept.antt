-- THE ROW RULES ARE KEPT by every message that keeps its own field rules.
-- Assumes nothing.
use mathlib.Core.Path.{◌≡◌, refl, sym, ap, ◌∙◌}
use mathlib.Core.Bool.{Bool, true, false, cond, ◌&&◌, ◌||◌}
use mathlib.Core.List.{List, [], ◌∷◌, ◌++◌}
use Prim.Native.Nat.{ℕ, zero, suc, ◌+◌, ◌≤◌, ◌<◌}
use native.Mathlib.Omega.{arith}
use borrow.Author.Tests.{leb-true, le-leb}
use lib.Dec.{eqb, leb, lit<}
use lib.ListN.{length, replicate, length-replicate}
use Rattle.field.specs.Bytes.{part, value, digits, be, bytes_be}
use Rattle.field.specs.Limits.{time_in_range, latest_time, price_in_range}
use Rattle.field.specs.Text.{within, every, is_zero}
use Rattle.field.proofs.Bools.{both_left, both_right}
use Rattle.field.proofs.Parts.{part-part}
use Rattle.field.proofs.Numbers.{value-digits}
use Rattle.message.specs.Layout.{amount, values, keeps_all, bytes_for, tiled, from, Fit}
use Rattle.message.specs.Letters.{listed, states, conditions, stamp_rows, stamp_fields, instrument_rows, instrument_fields, entry_rows, entry_size, LongNumbers}
use Rattle.message.specs.declared.Stamp.{Stamp}
use Rattle.message.specs.declared.Side.{Side}
use Rattle.message.specs.declared.Side.TheVariants.{Bid, Ask}
use Rattle.message.specs.declared.Directory.{Directory}
use Rattle.message.specs.declared.TradingAction.{TradingAction}
use Rattle.message.specs.declared.Texts.{Texts}
use Rattle.message.proofs.Layouts.{values-back, values-in-part, rows_in}
use Rattle.message.proofs.Typed.{listed_below}
use Rattle.row.specs.Fields.{row_size, entry_of, other, state_of, condition_of, sides_of, side_at, numbers_of, amount_of, time_of, side_time_at, unknown_time, has_seen, seen_with}
use Rattle.row.specs.Changes.{Change, change, changed, places, outside, entry_change, state_change, condition_change, seen_change, numbers_change, stamp_change, times_changes, own_changes, purge, purge_for, sides_changes, directory_changes, new_row, action_changes, quoted_by}
use Rattle.row.specs.Changes as changes
use Rattle.row.specs.Rules.{entry_keeps, marks_keep, side_keeps, bare_keeps, stamp_keeps, spare_keeps, common_keeps, newest, side_time_keeps, times_keep, row_keeps}
use Rattle.row.specs.declared.Sides.{Sides}
use Rattle.row.specs.declared.Sides.TheVariants.{One, Both}
use Rattle.row.proofs.Changed.{Wide, inside, part-kept, part-put}
use Rattle.row.proofs.Exactly.{entry-wide}
use Rattle.row.proofs.Quoted.{Stands, put-amount, unquoted-clash, quoted-stands, TimeStands, put-time, quoted-timed}

-- ---- the rules one by one

-- what every version asks
pub record Common (r : List ℕ) : Type 0 where
  pub entry : entry_keeps r ≡ true
  pub state : listed (0 ∷ states) (state_of r) ≡ true
  pub condition : listed conditions (condition_of r) ≡ true
  pub sides : leb (sides_of r) 3 ≡ true
  pub bid : side_keeps Bid r ≡ true
  pub ask : side_keeps Ask r ≡ true
  pub bare : bare_keeps r ≡ true
  pub stamp : stamp_keeps r ≡ true
  pub spare : spare_keeps r ≡ true

pub common-of : (r : List ℕ) → Common r → common_keeps r ≡ true
unfolding common_keeps marks_keep
common-of r k = rw (k.entry, k.state, k.condition, k.sides, k.bid, k.ask, k.bare, k.stamp) k.spare

pub of-common : (r : List ℕ) → common_keeps r ≡ true → Common r
unfolding common_keeps marks_keep
of-common r k =
    let a = entry_keeps r in
    let s = listed (0 ∷ states) (state_of r) in
    let c = listed conditions (condition_of r) in
    let l = leb (sides_of r) 3 in
    let t2 = both_right a (s && (c && l) && (side_keeps Bid r && (side_keeps Ask r && (bare_keeps r && (stamp_keeps r && spare_keeps r))))) k in
    let m : s && (c && l) ≡ true = both_left (s && (c && l)) (side_keeps Bid r && (side_keeps Ask r && (bare_keeps r && (stamp_keeps r && spare_keeps r)))) t2 in
    let t3 = both_right (s && (c && l)) (side_keeps Bid r && (side_keeps Ask r && (bare_keeps r && (stamp_keeps r && spare_keeps r)))) t2 in
    let t4 = both_right (side_keeps Bid r) (side_keeps Ask r && (bare_keeps r && (stamp_keeps r && spare_keeps r))) t3 in
    let t5 = both_right (side_keeps Ask r) (bare_keeps r && (stamp_keeps r && spare_keeps r)) t4 in
    let t6 = both_right (bare_keeps r) (stamp_keeps r && spare_keeps r) t5 in
    record {
      entry = both_left a (s && (c && l) && (side_keeps Bid r && (side_keeps Ask r && (bare_keeps r && (stamp_keeps r && spare_keeps r))))) k;
      state = both_left s (c && l) m;
      condition = both_left c l (both_right s (c && l) m);
      sides = both_right c l (both_right s (c && l) m);
      bid = both_left (side_keeps Bid r) (side_keeps Ask r && (bare_keeps r && (stamp_keeps r && spare_keeps r))) t3;
      ask = both_left (side_keeps Ask r) (bare_keeps r && (stamp_keeps r && spare_keeps r)) t4;
      bare = both_left (bare_keeps r) (stamp_keeps r && spare_keeps r) t5;
      stamp = both_left (stamp_keeps r) (spare_keeps r) t6;
      spare = both_right (stamp_keeps r) (spare_keeps r) t6;
    }

-- and the rules of a row of version 3: a row of a table
pub record RowKept (r : List ℕ) : Type 0 where
  pub common : Common r
  pub bid-time : side_time_keeps Bid r ≡ true
  pub ask-time : side_time_keeps Ask r ≡ true

pub keeps-of : (r : List ℕ) → RowKept r → row_keeps newest r ≡ true
unfolding row_keeps times_keep
keeps-of r k = rw (common-of r k.common, k.bid-time) k.ask-time

pub kept_of : (r : List ℕ) → row_keeps newest r ≡ true → RowKept r
unfolding row_keeps times_keep
kept_of r k =
    let t = both_right (common_keeps r) (side_time_keeps Bid r && side_time_keeps Ask r) k in
    record {
      common = of-common r (both_left (common_keeps r) (side_time_keeps Bid r && side_time_keeps Ask r) k);
      bid-time = both_left (side_time_keeps Bid r) (side_time_keeps Ask r) t;
      ask-time = both_right (side_time_keeps Bid r) (side_time_keeps Ask r) t;
    }

-- ---- what each rule looks at

-- a byte that is put is read back
pub one-back : (r : List ℕ) (at v : ℕ) → v < 256 → part r at 1 ≡ bytes_be 1 v → be (part r at 1) ≡ v
one-back r at v h e = ap be e ∙ value-digits 256 (lit< tt) 1 v h

module _ (r r' : List ℕ) where
  pub entry-same : entry_of r' ≡ entry_of r → entry_keeps r' ≡ entry_keeps r
  unfolding entry_keeps rows_in
  entry-same e =
      ap (keeps_all entry_rows)
      (sym (values-in-part 0 entry_size entry_rows r' refl) ∙ ap (values (from 0 entry_rows)) e ∙ values-in-part 0 entry_size entry_rows r refl)

  pub side_same : (side : Side) → has_seen side (sides_of r') ≡ has_seen side (sides_of r) → numbers_of side r' ≡ numbers_of side r → side_keeps side r' ≡ side_keeps side r
  unfolding side_keeps
  side_same side e f =
      let p : amount_of side r' ≡ amount_of side r
      = ap be (sym (part-part r' (side_at side) 20 4 4 (omega arith)) ∙ ap (λ (x : List ℕ). part x 4 4) f ∙ part-part r (side_at side) 20 4 4 (omega arith)) in
      rw (e, f, p)

  pub spare-same : part r' 55 1 ≡ part r 55 1 → part r' 122 2 ≡ part r 122 2 → spare_keeps r' ≡ spare_keeps r
  unfolding spare_keeps
  spare-same e f = rw (e, f)

  time-same : (side : Side) → has_seen side (sides_of r') ≡ has_seen side (sides_of r) → part r' (side_time_at side) 8 ≡ part r (side_time_at side) 8
      → side_time_keeps side r' ≡ side_time_keeps side r
  unfolding side_time_keeps
  time-same side e f = rw (e, f)

  pub bare-same : part r' 53 1 ≡ part r 53 1 → part r' 54 1 ≡ part r 54 1 → bare_keeps r' ≡ bare_keeps r
  unfolding bare_keeps
  bare-same e f = rw (e, f)

-- a side that is put is seen, and its price is in range
side-put : (r : List ℕ) (side : Side) (n : LongNumbers) → has_seen side (sides_of r) ≡ true → price_in_range (amount n.price) ≡ true
    → Stands r side n → side_keeps side r ≡ true
unfolding side_keeps
side-put r side n s p e = rw (s, put-amount r side n p e) p

-- an unseen side that is zero
side-zero : (r : List ℕ) (side : Side) → numbers_of side r ≡ replicate 20 0 → side_keeps side r ≡ true
unfolding side_keeps part value every
side-zero r side e =
    let g : amount_of side r ≡ 0 = ap be (sym (part-part r (side_at side) 20 4 4 (omega arith)) ∙ ap (λ (x : List ℕ). part x 4 4) e) in
    rw (e, g) (or-true (has_seen side (sides_of r)))
  where
    or-true : (b : Bool) → (b || true) && true ≡ true
    or-true true = refl
    or-true false = refl

stamp-put : (r : List ℕ) (s : Stamp) → time_in_range s.time ≡ true → part r 96 10 ≡ bytes_for stamp_rows (stamp_fields s) → stamp_keeps r ≡ true
unfolding stamp_keeps digits bytes_for part
stamp-put r s t e =
    let f : part r 98 8 ≡ bytes_be 8 s.time = sym (part-part r 96 10 2 8 (omega arith)) ∙ ap (λ (x : List ℕ). part x 2 8) e in
    let g : time_of r ≡ s.time = ap be f ∙ value-digits 256 (lit< tt) 8 s.time (omega (arith, leb-true s.time latest_time t)) in
    rw g t

-- the time of a side that is seen is put, or is zero with that of a side that is not
or-first : (a b : Bool) → a ≡ true → a || b ≡ true
or-first a b e = rw e

time-put : (r : List ℕ) (side : Side) (time : ℕ) → has_seen side (sides_of r) ≡ true → time_in_range time ≡ true → TimeStands r side time → side_time_keeps side r ≡ true
unfolding side_time_keeps
time-put r side time s t e = rw (s, put-time r side time t e) (or-first (time_in_range time) (eqb time unknown_time) t)

time-zero : (r : List ℕ) (side : Side) → part r (side_time_at side) 8 ≡ replicate 8 0 → side_time_keeps side r ≡ true
unfolding side_time_keeps value
time-zero r side e = rw (ap be e) (either (has_seen side (sides_of r)))
  where
    either : (b : Bool) → cond b (time_in_range 0 || eqb 0 unknown_time) (eqb 0 0) ≡ true
    either true = refl
    either false = refl

-- the sides seen, and one more of them
module _ where
  record Seen (side : Side) (s : ℕ) : Type 0 where
    few : seen_with side s ≤ 3
    some : eqb (seen_with side s) 0 ≡ false
    own : has_seen side (seen_with side s) ≡ true
    rest : has_seen (other side) (seen_with side s) ≡ has_seen (other side) s

  seen : (side : Side) (s : ℕ) → s ≤ 3 → Seen side s
  unfolding seen_with
  seen Bid zero h = record { few = omega arith; some = refl; own = refl; rest = refl }
  seen Bid (suc zero) h = record { few = omega arith; some = refl; own = refl; rest = refl }
  seen Bid (suc (suc zero)) h = record { few = omega arith; some = refl; own = refl; rest = refl }
  seen Bid (suc (suc (suc zero))) h = record { few = omega arith; some = refl; own = refl; rest = refl }
  seen Bid (suc (suc (suc (suc s)))) h = absurd (omega arith)
  seen Ask zero h = record { few = omega arith; some = refl; own = refl; rest = refl }
  seen Ask (suc zero) h = record { few = omega arith; some = refl; own = refl; rest = refl }
  seen Ask (suc (suc zero)) h = record { few = omega arith; some = refl; own = refl; rest = refl }
  seen Ask (suc (suc (suc zero))) h = record { few = omega arith; some = refl; own = refl; rest = refl }
  seen Ask (suc (suc (suc (suc s)))) h = absurd (omega arith)

-- ---- a quote

-- the prices of a quote's own side or sides are in range
abbrev pub PricesIn : Sides → Type 0
PricesIn (One side n) = price_in_range (amount n.price) ≡ true
PricesIn (Both bid ask) = (price_in_range (amount bid.price) ≡ true) × (price_in_range (amount ask.price) ≡ true)

module _ (c : ℕ) (s : Stamp) (r : List ℕ) (long : row_size ≤ length r) (hc : listed conditions c ≡ true) (ht : time_in_range s.time ≡ true) (k : RowKept r) where
  few : sides_of r ≤ 3
  few = leb-true (sides_of r) 3 k.common.sides

  -- what every quote's changes leave and put
  record Quoted (r' : List ℕ) (sides : ℕ) : Type 0 where
    entry : entry_of r' ≡ entry_of r
    state : part r' 52 1 ≡ part r 52 1
    condition : part r' 53 1 ≡ bytes_be 1 c
    seen : part r' 54 1 ≡ bytes_be 1 sides
    gap : part r' 55 1 ≡ part r 55 1
    stamp : part r' 96 10 ≡ bytes_for stamp_rows (stamp_fields s)
    tail : part r' 122 2 ≡ part r 122 2

  quoted-sides : {r' : List ℕ} {sides : ℕ} → Quoted r' sides → sides ≤ 3 → sides_of r' ≡ sides
  quoted-sides {r'} {sides} q h = one-back r' 54 sides (omega arith) q.seen

  quoted-kept : (r' : List ℕ) (sides : ℕ) → Quoted r' sides → sides ≤ 3 → eqb sides 0 ≡ false → side_keeps Bid r' ≡ true → side_keeps Ask r' ≡ true
      → side_time_keeps Bid r' ≡ true → side_time_keeps Ask r' ≡ true → RowKept r'
  unfolding bare_keeps every
  quoted-kept r' sides q h n b a bt at =
      let w : sides_of r' ≡ sides = quoted-sides q h in
      record {
        common = record {
          entry = entry-same r r' q.entry ∙ k.common.entry;
          state = ap (λ (x : List ℕ). listed (0 ∷ states) (be x)) q.state ∙ k.common.state;
          condition = ap (listed conditions) (one-back r' 53 c (listed_below conditions c refl hc) q.condition) ∙ hc;
          sides = ap (λ (x : ℕ). leb x 3) w ∙ le-leb sides 3 h;
          bid = b;
          ask = a;
          bare = rw (w, n);
          stamp = stamp-put r' s ht q.stamp;
          spare = spare-same r r' q.gap q.tail ∙ k.common.spare;
        };
        bid-time = bt;
        ask-time = at;
      }

  -- the changes of a quote, with the numbers of its own side or sides last
  abbrev quotes : ℕ → List Change → List Change
  quotes sides nums = condition_change c ∷ stamp_change s ∷ seen_change sides ∷ nums

  -- the numbers stand where nothing else of a row does
  abbrev Clear : List Change → Type 0
  Clear nums =
      (outside 0 entry_size (places nums) ≡ true) × (outside 52 1 (places nums) ≡ true) × (outside 53 1 (places nums) ≡ true) × (outside 54 1 (places nums) ≡ true)
      × (outside 55 1 (places nums) ≡ true) × (outside 96 10 (places nums) ≡ true) × (outside 122 2 (places nums) ≡ true)

  module _ (sides : ℕ) (nums : List Change) (wide : Wide nums) (within : inside row_size nums ≡ true) (clear : Clear nums) where
    all-wide : Wide (quotes sides nums)
    unfolding digits bytes_for
    all-wide = (refl, (refl, (refl, wide)))

    all-inside : inside row_size (quotes sides nums) ≡ true
    unfolding inside
    all-inside = within

    quoted : Quoted (changed (quotes sides nums) r) sides
    unfolding outside
    quoted =
        let cs : List Change = quotes sides nums in
        record {
          entry = part-kept cs r row_size 0 entry_size all-wide long all-inside clear.0;
          state = part-kept cs r row_size 52 1 all-wide long all-inside clear.1;
          condition = part-put [] (condition_change c) (stamp_change s ∷ seen_change sides ∷ nums) r row_size all-wide long all-inside clear.2;
          seen = part-put (condition_change c ∷ stamp_change s ∷ []) (seen_change sides) nums r row_size all-wide long all-inside clear.3;
          gap = part-kept cs r row_size 55 1 all-wide long all-inside clear.4;
          stamp = part-put (condition_change c ∷ []) (stamp_change s) (seen_change sides ∷ nums) r row_size all-wide long all-inside clear.5;
          tail = part-kept cs r row_size 122 2 all-wide long all-inside clear.6;
        }

    -- of a side that is left
    left_there : (at n : ℕ) → outside at n (places (quotes sides nums)) ≡ true → part (changed (quotes sides nums) r) at n ≡ part r at n
    left_there at n o = part-kept (quotes sides nums) r row_size at n all-wide long all-inside o

  -- THEOREM: a quote keeps the row rules
  pub quote-keeps : (sides : Sides) → PricesIn sides → RowKept (changed (condition_change c ∷ stamp_change s ∷ own_changes sides (sides_of r) s.time) r)
  unfolding sides_changes times_changes digits bytes_for inside outside
  quote-keeps (One Bid n) p =
      let e = seen Bid (sides_of r) few in
      let nums : List Change = numbers_change 56 n ∷ times_changes (One Bid n) s.time in
      let sides = seen_with Bid (sides_of r) in
      let r' : List ℕ = changed (quotes sides nums) r in
      let w : Wide nums = (refl, (refl, tt)) in
      let clear : Clear nums = (refl, refl, refl, refl, refl, refl, refl) in
      let q = quoted sides nums w refl clear in
      let v = quoted-sides q e.few in
      quoted-kept r' sides q e.few e.some
      (side-put r' Bid n (ap (has_seen Bid) v ∙ e.own) p (quoted-stands c s r long (One Bid n) Bid n refl))
      (side_same r r' Ask (ap (has_seen Ask) v ∙ e.rest) (left_there sides nums w refl clear 76 20 refl) ∙ k.common.ask)
      (time-put r' Bid s.time (ap (has_seen Bid) v ∙ e.own) ht (quoted-timed c s r long (One Bid n) Bid n refl))
      (time-same r r' Ask (ap (has_seen Ask) v ∙ e.rest) (left_there sides nums w refl clear 114 8 refl) ∙ k.ask-time)
  quote-keeps (One Ask n) p =
      let e = seen Ask (sides_of r) few in
      let nums : List Change = numbers_change 76 n ∷ times_changes (One Ask n) s.time in
      let sides = seen_with Ask (sides_of r) in
      let r' : List ℕ = changed (quotes sides nums) r in
      let w : Wide nums = (refl, (refl, tt)) in
      let clear : Clear nums = (refl, refl, refl, refl, refl, refl, refl) in
      let q = quoted sides nums w refl clear in
      let v = quoted-sides q e.few in
      quoted-kept r' sides q e.few e.some
      (side_same r r' Bid (ap (has_seen Bid) v ∙ e.rest) (left_there sides nums w refl clear 56 20 refl) ∙ k.common.bid)
      (side-put r' Ask n (ap (has_seen Ask) v ∙ e.own) p (quoted-stands c s r long (One Ask n) Ask n refl))
      (time-same r r' Bid (ap (has_seen Bid) v ∙ e.rest) (left_there sides nums w refl clear 106 8 refl) ∙ k.bid-time)
      (time-put r' Ask s.time (ap (has_seen Ask) v ∙ e.own) ht (quoted-timed c s r long (One Ask n) Ask n refl))
  quote-keeps (Both bid ask) p =
      let d = seen Bid (sides_of r) few in
      let e = seen Ask (seen_with Bid (sides_of r)) d.few in
      let nums : List Change = numbers_change 56 bid ∷ numbers_change 76 ask ∷ times_changes (Both bid ask) s.time in
      let sides = seen_with Ask (seen_with Bid (sides_of r)) in
      let r' : List ℕ = changed (quotes sides nums) r in
      let w : Wide nums = (refl, (refl, (refl, (refl, tt)))) in
      let clear : Clear nums = (refl, refl, refl, refl, refl, refl, refl) in
      let q = quoted sides nums w refl clear in
      let v = quoted-sides q e.few in
      let own-bid : has_seen Bid (sides_of r') ≡ true = ap (has_seen Bid) v ∙ e.rest ∙ d.own in
      let own-ask : has_seen Ask (sides_of r') ≡ true = ap (has_seen Ask) v ∙ e.own in
      quoted-kept r' sides q e.few e.some
      (side-put r' Bid bid own-bid p.0 (quoted-stands c s r long (Both bid ask) Bid bid refl))
      (side-put r' Ask ask own-ask p.1 (quoted-stands c s r long (Both bid ask) Ask ask refl))
      (time-put r' Bid s.time own-bid ht (quoted-timed c s r long (Both bid ask) Bid bid refl))
      (time-put r' Ask s.time own-ask ht (quoted-timed c s r long (Both bid ask) Ask ask refl))

  -- the sum of the sides seen, after changes that clear it
  sum-after : (sides : ℕ) (nums : List Change) → Wide nums → inside row_size nums ≡ true → Clear nums → sides ≤ 3
      → sides_of (changed (quotes sides nums) r) ≡ sides
  sum-after sides nums wide within clear h = quoted-sides (quoted sides nums wide within clear) h

  -- THEOREM: a side that a quote sets is seen after it
  pub quote-seen : (sides : Sides) (side : Side) (n : LongNumbers) → quoted_by sides side ≡ changes.quoted n
      → has_seen side (sides_of (changed (condition_change c ∷ stamp_change s ∷ own_changes sides (sides_of r) s.time) r)) ≡ true
  unfolding sides_changes times_changes digits bytes_for inside outside
  quote-seen (One Bid m) Bid n e =
      let d = seen Bid (sides_of r) few in
      ap (has_seen Bid) (sum-after (seen_with Bid (sides_of r)) (numbers_change 56 m ∷ times_changes (One Bid m) s.time) (refl, (refl, tt)) refl (refl, refl, refl, refl, refl, refl, refl) d.few) ∙ d.own
  quote-seen (One Bid m) Ask n e = unquoted-clash e
  quote-seen (One Ask m) Bid n e = unquoted-clash e
  quote-seen (One Ask m) Ask n e =
      let d = seen Ask (sides_of r) few in
      ap (has_seen Ask) (sum-after (seen_with Ask (sides_of r)) (numbers_change 76 m ∷ times_changes (One Ask m) s.time) (refl, (refl, tt)) refl (refl, refl, refl, refl, refl, refl, refl) d.few) ∙ d.own
  quote-seen (Both bid ask) side n e =
      let d = seen Bid (sides_of r) few in
      let f = seen Ask (seen_with Bid (sides_of r)) d.few in
      ap (has_seen side)
      (sum-after (seen_with Ask (seen_with Bid (sides_of r))) (numbers_change 56 bid ∷ numbers_change 76 ask ∷ times_changes (Both bid ask) s.time) (refl, (refl, (refl, (refl, tt)))) refl (refl, refl, refl, refl, refl, refl, refl) f.few)
      ∙ by side
    where
      by : (x : Side) → has_seen x (seen_with Ask (seen_with Bid (sides_of r))) ≡ true
      by Bid = (seen Ask (seen_with Bid (sides_of r)) (seen Bid (sides_of r) few).few).rest ∙ (seen Bid (sides_of r) few).own
      by Ask = (seen Ask (seen_with Bid (sides_of r)) (seen Bid (sides_of r) few).few).own

-- ---- a trading action

pub first-true : (b : Bool) → cond b true true ≡ true
first-true true = refl
first-true false = refl

-- THEOREM: a trading action keeps the row rules
pub action-keeps : (a : TradingAction) (r : List ℕ) → row_size ≤ length r → listed states a.state ≡ true → time_in_range a.stamp.time ≡ true → RowKept r
    → RowKept (changed (action_changes a) r)
unfolding action_changes digits bytes_for inside outside listed every
action-keeps a r long hs ht k =
    let cs : List Change = state_change a.state ∷ stamp_change a.stamp ∷ [] in
    let w : Wide cs = (refl, (refl, tt)) in
    let r' : List ℕ = changed cs r in
    let left : (i m : ℕ) → outside i m (places cs) ≡ true → part r' i m ≡ part r i m = λ i m o. part-kept cs r row_size i m w long refl o in
    let v : sides_of r' ≡ sides_of r = ap be (left 54 1 refl) in
    let s : state_of r' ≡ a.state = one-back r' 52 a.state (listed_below states a.state refl hs) (part-put [] (state_change a.state) (stamp_change a.stamp ∷ []) r row_size w long refl refl) in
    record {
      common = record {
        entry = entry-same r r' (left 0 entry_size refl) ∙ k.common.entry;
        state = ap (listed (0 ∷ states)) s ∙ ap (λ (b : Bool). cond (eqb 0 a.state) true b) hs ∙ first-true (eqb 0 a.state);
        condition = ap (λ (x : List ℕ). listed conditions (be x)) (left 53 1 refl) ∙ k.common.condition;
        sides = ap (λ (x : ℕ). leb x 3) v ∙ k.common.sides;
        bid = side_same r r' Bid (ap (has_seen Bid) v) (left 56 20 refl) ∙ k.common.bid;
        ask = side_same r r' Ask (ap (has_seen Ask) v) (left 76 20 refl) ∙ k.common.ask;
        bare = bare-same r r' (left 53 1 refl) (left 54 1 refl) ∙ k.common.bare;
        stamp = stamp-put r' a.stamp ht (part-put (state_change a.state ∷ []) (stamp_change a.stamp) [] r row_size w long refl refl);
        spare = spare-same r r' (left 55 1 refl) (left 122 2 refl) ∙ k.common.spare;
      };
      bid-time = time-same r r' Bid (ap (has_seen Bid) v) (left 106 8 refl) ∙ k.bid-time;
      ask-time = time-same r r' Ask (ap (has_seen Ask) v) (left 114 8 refl) ∙ k.ask-time;
    }

-- ---- a directory

module _ (d : Directory) (t : Texts) (fit : Fit instrument_rows (instrument_fields d.instrument t))
    (fine : keeps_all instrument_rows (instrument_fields d.instrument t) ≡ true) (ht : time_in_range d.stamp.time ≡ true) where
  abbrev entry_bytes : List ℕ
  entry_bytes = bytes_for instrument_rows (instrument_fields d.instrument t)

  entry-values : (r : List ℕ) → entry_of r ≡ entry_bytes → values entry_rows r ≡ instrument_fields d.instrument t
  unfolding rows_in tiled keeps_all bytes_for
  entry-values r e =
      sym (values-in-part 0 entry_size entry_rows r refl) ∙ ap (values entry_rows) e
      ∙ values-back entry_rows (instrument_fields d.instrument t) [] 0 entry_size refl fit fine refl

  entry-put : (r : List ℕ) → entry_of r ≡ entry_bytes → entry_keeps r ≡ true
  unfolding entry_keeps keeps_all
  entry-put r e = ap (keeps_all entry_rows) (entry-values r e) ∙ fine

  -- a row with no quotes
  bare-kept : (r : List ℕ) → entry_of r ≡ entry_bytes → listed (0 ∷ states) (state_of r) ≡ true → part r 53 1 ≡ bytes_be 1 32
      → part r 54 42 ≡ replicate 42 0 → part r 96 10 ≡ bytes_for stamp_rows (stamp_fields d.stamp) → part r 106 16 ≡ replicate 16 0
      → every is_zero (part r 122 2) ≡ true → RowKept r
  unfolding bare_keeps spare_keeps listed every part value
  bare-kept r e s c z m y f =
      let v : condition_of r ≡ 32 = one-back r 53 32 (lit< tt) c in
      let inner : (i n : ℕ) → i + n ≤ 42 → part r (54 + i) n ≡ part (replicate 42 0) i n = λ i n h. sym (part-part r 54 42 i n h) ∙ ap (λ (x : List ℕ). part x i n) z in
      let u : sides_of r ≡ 0 = ap be (inner 0 1 (omega arith)) in
      let g : every is_zero (part r 55 1) ≡ true = ap (every is_zero) (inner 1 1 (omega arith)) in
      let time : (i : ℕ) → i + 8 ≤ 16 → part r (106 + i) 8 ≡ part (replicate 16 0) i 8 = λ i h. sym (part-part r 106 16 i 8 h) ∙ ap (λ (x : List ℕ). part x i 8) y in
      record {
        common = record {
          entry = entry-put r e;
          state = s;
          condition = ap (listed conditions) v;
          sides = ap (λ (x : ℕ). leb x 3) u;
          bid = side-zero r Bid (inner 2 20 (omega arith));
          ask = side-zero r Ask (inner 22 20 (omega arith));
          bare = rw (u, v);
          stamp = stamp-put r d.stamp ht m;
          spare = rw (g, f);
        };
        bid-time = time-zero r Bid (time 0 (omega arith));
        ask-time = time-zero r Ask (time 8 (omega arith));
      }

  abbrev known : List Change
  known = entry_change d.instrument t ∷ stamp_change d.stamp ∷ []

  module _ (r : List ℕ) (long : row_size ≤ length r) (k : RowKept r) where
    -- tradable Y: the quotes are left
    kept-quotes : RowKept (changed known r)
    unfolding digits bytes_for inside outside
    kept-quotes =
        let w : Wide known = (entry-wide d t fit, (refl, tt)) in
        let r' : List ℕ = changed known r in
        let left : (i m : ℕ) → outside i m (places known) ≡ true → part r' i m ≡ part r i m = λ i m o. part-kept known r row_size i m w long refl o in
        let v : sides_of r' ≡ sides_of r = ap be (left 54 1 refl) in
        record {
          common = record {
            entry = entry-put r' (part-put [] (entry_change d.instrument t) (stamp_change d.stamp ∷ []) r row_size w long refl refl);
            state = ap (λ (x : List ℕ). listed (0 ∷ states) (be x)) (left 52 1 refl) ∙ k.common.state;
            condition = ap (λ (x : List ℕ). listed conditions (be x)) (left 53 1 refl) ∙ k.common.condition;
            sides = ap (λ (x : ℕ). leb x 3) v ∙ k.common.sides;
            bid = side_same r r' Bid (ap (has_seen Bid) v) (left 56 20 refl) ∙ k.common.bid;
            ask = side_same r r' Ask (ap (has_seen Ask) v) (left 76 20 refl) ∙ k.common.ask;
            bare = bare-same r r' (left 53 1 refl) (left 54 1 refl) ∙ k.common.bare;
            stamp = stamp-put r' d.stamp ht (part-put (entry_change d.instrument t ∷ []) (stamp_change d.stamp) [] r row_size w long refl refl);
            spare = spare-same r r' (left 55 1 refl) (left 122 2 refl) ∙ k.common.spare;
          };
          bid-time = time-same r r' Bid (ap (has_seen Bid) v) (left 106 8 refl) ∙ k.bid-time;
          ask-time = time-same r r' Ask (ap (has_seen Ask) v) (left 114 8 refl) ∙ k.ask-time;
        }

    -- tradable N: the quotes are purged
    purged-quotes : RowKept (changed (known ++ purge) r)
    unfolding digits bytes_for inside outside spare_keeps
    purged-quotes =
        let cs : List Change = known ++ purge in
        let w : Wide cs = (entry-wide d t fit, (refl, (refl, (refl, (refl, tt))))) in
        let r' : List ℕ = changed cs r in
        let space : Change = change 53 1 (bytes_be 1 32) in
        let sides : Change = change 54 42 (replicate 42 0) in
        let times : Change = change 106 16 (replicate 16 0) in
        bare-kept r' (part-put [] (entry_change d.instrument t) (stamp_change d.stamp ∷ purge) r row_size w long refl refl)
        (ap (λ (x : List ℕ). listed (0 ∷ states) (be x)) (part-kept cs r row_size 52 1 w long refl refl) ∙ k.common.state)
        (part-put known space (sides ∷ times ∷ []) r row_size w long refl refl)
        (part-put (known ++ (space ∷ [])) sides (times ∷ []) r row_size w long refl refl)
        (part-put (entry_change d.instrument t ∷ []) (stamp_change d.stamp) purge r row_size w long refl refl)
        (part-put (known ++ (space ∷ sides ∷ [])) times [] r row_size w long refl refl)
        (ap (every is_zero) (part-kept cs r row_size 122 2 w long refl refl) ∙ both_right (every is_zero (part r 55 1)) (every is_zero (part r 122 2)) k.common.spare)

    -- THEOREM: a directory for a known id keeps the row rules
    pub directory-keeps : RowKept (changed (directory_changes d t) r)
    unfolding directory_changes
    directory-keeps = by (eqb d.instrument.tradable 78)
      where
        by : (n : Bool) → RowKept (changed (entry_change d.instrument t ∷ stamp_change d.stamp ∷ purge_for n) r)
        by true = purged-quotes
        by false = kept-quotes

  -- THEOREM: a new row keeps the row rules
  pub new-keeps : RowKept (new_row d t)
  unfolding new_row digits bytes_for inside outside part value listed every
  new-keeps =
      let cs : List Change = entry_change d.instrument t ∷ condition_change 32 ∷ stamp_change d.stamp ∷ [] in
      let w : Wide cs = (entry-wide d t fit, (refl, (refl, tt))) in
      let zeros : List ℕ = replicate row_size 0 in
      let long : row_size ≤ length zeros = omega (arith, length-replicate {A = ℕ} row_size 0) in
      bare-kept (changed cs zeros) (part-put [] (entry_change d.instrument t) (condition_change 32 ∷ stamp_change d.stamp ∷ []) zeros row_size w long refl refl)
      (ap (λ (x : List ℕ). listed (0 ∷ states) (be x)) (part-kept cs zeros row_size 52 1 w long refl refl))
      (part-put (entry_change d.instrument t ∷ []) (condition_change 32) (stamp_change d.stamp ∷ []) zeros row_size w long refl refl)
      (part-kept cs zeros row_size 54 42 w long refl refl)
      (part-put (entry_change d.instrument t ∷ condition_change 32 ∷ []) (stamp_change d.stamp) [] zeros row_size w long refl refl)
      (part-kept cs zeros row_size 106 16 w long refl refl)
      (ap (every is_zero) (part-kept cs zeros row_size 122 2 w long refl refl))
