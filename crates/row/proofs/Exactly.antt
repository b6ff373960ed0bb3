-- EXACTLY THE FIELDS: each message changes the places that document 01 gives it, and every other byte of the row is as it was.
-- Assumes nothing.
use mathlib.Core.Path.{◌≡◌, refl, sym, ap, ◌∙◌}
use mathlib.Core.Bool.{Bool, true, false, cond}
use mathlib.Core.List.{List, [], ◌∷◌}
use Prim.Native.Nat.{ℕ, ◌≤◌}
use native.Mathlib.Omega.{arith}
use lib.Dec.{eqb, lit<}
use lib.ListN.{length, replicate, length-replicate}
use Rattle.field.specs.Bytes.{part, digits, be}
use Rattle.field.proofs.Parts.{part-part}
use Rattle.field.proofs.Numbers.{value-digits}
use Rattle.message.specs.Layout.{values, tiled, bytes_for, Fit}
use Rattle.message.specs.Letters.{instrument_rows, instrument_fields, entry_size, LongNumbers}
use Rattle.message.specs.declared.Side.{Side}
use Rattle.message.specs.declared.Side.TheVariants.{Bid, Ask}
use Rattle.message.specs.declared.Stamp.{Stamp}
use Rattle.message.specs.declared.Directory.{Directory}
use Rattle.message.specs.declared.TradingAction.{TradingAction}
use Rattle.message.specs.declared.Texts.{Texts}
use Rattle.message.proofs.Layouts.{fields-length}
use Rattle.row.specs.Fields.{row_size, entry_of, id_of, sides_of, side_at, side_time_at, side_time_of, other, numbers_of}
use Rattle.row.specs.Changes.{Change, changed, Place, place, places, outside, entry_change, condition_change, stamp_change, purge_for, sides_changes, times_changes, own_changes, directory_changes, new_row, action_changes, quote_changes, directory_places, action_places, quote_places}
use Rattle.row.specs.declared.Sides.{Sides}
use Rattle.row.specs.declared.Sides.TheVariants.{One, Both}
use Rattle.row.specs.declared.Quote.{Quote}
use Rattle.row.proofs.Changed.{Wide, inside, changed-length, part-kept, part-put}

-- changes of so many bytes each, at these places of a row
pub record Fitting (cs : List Change) (ps : List Place) : Type 0 where
  pub wide : Wide cs
  pub within : inside row_size cs ≡ true
  pub there : places cs ≡ ps

module _ {cs : List Change} {ps : List Place} (f : Fitting cs ps) (r : List ℕ) (long : length r ≡ row_size) where
  least : row_size ≤ length r
  least = omega arith

  -- THEOREM: what lies outside of the places is as it was
  pub left_alone : (i n : ℕ) → outside i n ps ≡ true → part (changed cs r) i n ≡ part r i n
  left_alone i n o = part-kept cs r row_size i n f.wide least f.within (ap (outside i n) f.there ∙ o)

  pub same_size : length (changed cs r) ≡ row_size
  same_size = changed-length cs r row_size f.wide least f.within ∙ long

-- ---- the places of each kind

pub quote-sides : (c : ℕ) (s : Stamp) (r : List ℕ) (sides : Sides)
    → Fitting (condition_change c ∷ stamp_change s ∷ own_changes sides (sides_of r) s.time) (quote_places sides)
unfolding sides_changes times_changes digits bytes_for inside
quote-sides c s r (One Bid n) = record { wide = (refl, (refl, (refl, (refl, (refl, tt))))); within = refl; there = refl }
quote-sides c s r (One Ask n) = record { wide = (refl, (refl, (refl, (refl, (refl, tt))))); within = refl; there = refl }
quote-sides c s r (Both bid ask) = record { wide = (refl, (refl, (refl, (refl, (refl, (refl, (refl, tt))))))); within = refl; there = refl }

pub quote-fitting : (q : Quote) (r : List ℕ) → Fitting (quote_changes q r) (quote_places q.sides)
unfolding quote_changes
quote-fitting q r = quote-sides q.condition q.stamp r q.sides

pub action-fitting : (a : TradingAction) → Fitting (action_changes a) action_places
unfolding action_changes digits bytes_for inside
action-fitting a = record { wide = (refl, (refl, tt)); within = refl; there = refl }

module _ (d : Directory) (t : Texts) (fit : Fit instrument_rows (instrument_fields d.instrument t)) where
  -- an entry's bytes are so many: its layout goes from byte 11 to byte 63 of a directory
  pub entry-wide : length (entry_change d.instrument t).bytes ≡ entry_size
  unfolding tiled
  entry-wide = omega (arith, fields-length instrument_rows (instrument_fields d.instrument t) 11 63 refl fit)

  relisted : (n : Bool)
      → Fitting (entry_change d.instrument t ∷ stamp_change d.stamp ∷ purge_for n) (place 0 entry_size ∷ place 96 10 ∷ cond n (place 53 1 ∷ place 54 42 ∷ place 106 16 ∷ []) [])
  unfolding digits bytes_for inside
  relisted true = record { wide = (entry-wide, (refl, (refl, (refl, (refl, tt))))); within = refl; there = refl }
  relisted false = record { wide = (entry-wide, (refl, tt)); within = refl; there = refl }

  pub directory-fitting : Fitting (directory_changes d t) (directory_places d)
  unfolding directory_changes
  directory-fitting = relisted (eqb d.instrument.tradable 78)

  pub new-size : length (new_row d t) ≡ row_size
  unfolding new_row digits bytes_for inside
  new-size =
      changed-length (entry_change d.instrument t ∷ condition_change 32 ∷ stamp_change d.stamp ∷ []) (replicate row_size 0) row_size (entry-wide, (refl, (refl, tt)))
      (omega (arith, length-replicate {A = ℕ} row_size 0)) refl
      ∙ length-replicate {A = ℕ} row_size 0

quote-clear : (sides : Sides) → outside 0 4 (quote_places sides) ≡ true
unfolding outside
quote-clear (One Bid n) = refl
quote-clear (One Ask n) = refl
quote-clear (Both bid ask) = refl

sides_apart : (side : Side) (n : LongNumbers) → outside (side_at (other side)) 20 (quote_places (One side n)) ≡ true
unfolding outside
sides_apart Bid n = refl
sides_apart Ask n = refl

times-apart : (side : Side) (n : LongNumbers) → outside (side_time_at (other side)) 8 (quote_places (One side n)) ≡ true
unfolding outside
times-apart Bid n = refl
times-apart Ask n = refl

purge-clear : (s : Stamp) (n : Bool) → outside 0 entry_size (places (stamp_change s ∷ purge_for n)) ≡ true
unfolding outside
purge-clear s true = refl
purge-clear s false = refl

-- ---- the id

-- the id that an instrument's bytes begin with
entry-id : (d : Directory) (t : Texts) (r : List ℕ) → Fit instrument_rows (instrument_fields d.instrument t)
    → entry_of r ≡ bytes_for instrument_rows (instrument_fields d.instrument t) → id_of r ≡ d.instrument.id
unfolding id_of values digits bytes_for part
entry-id d t r fit e =
    ap be (sym (part-part r 0 entry_size 0 4 (omega arith)) ∙ ap (λ (x : List ℕ). part x 0 4) e) ∙ value-digits 256 (lit< tt) 4 d.instrument.id fit.0

module _ (d : Directory) (t : Texts) (fit : Fit instrument_rows (instrument_fields d.instrument t)) where
  pub directory-id : (r : List ℕ) → length r ≡ row_size → id_of (changed (directory_changes d t) r) ≡ d.instrument.id
  unfolding directory_changes inside
  directory-id r long = by (eqb d.instrument.tradable 78)
    where
      by : (n : Bool) → id_of (changed (entry_change d.instrument t ∷ stamp_change d.stamp ∷ purge_for n) r) ≡ d.instrument.id
      by n =
          let f = relisted d t fit n in
          entry-id d t (changed (entry_change d.instrument t ∷ stamp_change d.stamp ∷ purge_for n) r) fit
          (part-put [] (entry_change d.instrument t) (stamp_change d.stamp ∷ purge_for n) r row_size f.wide (omega arith) f.within (purge-clear d.stamp n))

  pub new-id : id_of (new_row d t) ≡ d.instrument.id
  unfolding new_row digits bytes_for inside outside
  new-id =
      entry-id d t (new_row d t) fit
      (part-put [] (entry_change d.instrument t) (condition_change 32 ∷ stamp_change d.stamp ∷ []) (replicate row_size 0) row_size (entry-wide d t fit, (refl, (refl, tt)))
      (omega (arith, length-replicate {A = ℕ} row_size 0)) refl refl)

module _ (r : List ℕ) (long : length r ≡ row_size) where
  -- a quote and a state leave it
  pub quote-id : (q : Quote) → id_of (changed (quote_changes q r) r) ≡ id_of r
  unfolding id_of values
  quote-id q = ap be (left_alone (quote-fitting q r) r long 0 4 (quote-clear q.sides))

  pub action-id : (a : TradingAction) → id_of (changed (action_changes a) r) ≡ id_of r
  unfolding id_of values outside
  action-id a = ap be (left_alone (action-fitting a) r long 0 4 refl)

  -- THEOREM: the other side keeps every byte on a one-sided quote
  pub other-side : (q : Quote) (side : Side) (n : LongNumbers) → q.sides ≡ One side n → numbers_of (other side) (changed (quote_changes q r) r) ≡ numbers_of (other side) r
  other-side q side n e = left_alone (quote-fitting q r) r long (side_at (other side)) 20 (ap (λ (x : Sides). outside (side_at (other side)) 20 (quote_places x)) e ∙ sides_apart side n)

  -- THEOREM: and its time
  pub other-time : (q : Quote) (side : Side) (n : LongNumbers) → q.sides ≡ One side n → side_time_of (other side) (changed (quote_changes q r) r) ≡ side_time_of (other side) r
  other-time q side n e =
      ap be (left_alone (quote-fitting q r) r long (side_time_at (other side)) 8 (ap (λ (x : Sides). outside (side_time_at (other side)) 8 (quote_places x)) e ∙ times-apart side n))
