-- W-207. ON AN INDEX THAT IS TRUE OF THE TABLE every message does what it did by the walk, and leaves the index true; and so does a start.
-- Assumes nothing.
use mathlib.Core.Path.{◌≡◌, refl, sym, ap, subst, ◌∙◌}
use mathlib.Core.Bool.{Bool, true, false, cond}
use mathlib.Core.List.{List}
use Prim.Native.Nat.{ℕ, ◌+◌, ◌*◌, ◌≤◌, ◌<◌}
use native.Mathlib.Omega.{arith}
use borrow.Author.Tests.{leb-false, lt-ltb, le-ltb, eqb-true}
use lib.Dec.{leb, ltb}
use lib.ListN.{length, replicate}
use Rattle.field.proofs.Bools.{both_right}
use Rattle.message.specs.Layout.{Fit}
use Rattle.message.specs.Letters.{instrument_rows, instrument_fields}
use Rattle.message.specs.Message.{Typed}
use Rattle.message.specs.declared.Message.{Message}
use Rattle.message.specs.declared.Message.TheVariants as message
use Rattle.message.specs.declared.Directory.{Directory}
use Rattle.message.specs.declared.TradingAction.{TradingAction}
use Rattle.message.specs.declared.Texts.{Texts}
use Rattle.message.proofs.Layouts.{never}
use Rattle.row.specs.Fields.{row_size, id_of, takes_quote}
use Rattle.row.specs.Changes.{changed, unchanged, new_row, directory_changes, action_changes, quote_changes}
use Rattle.row.specs.declared.Quote.{Quote}
use Rattle.row.proofs.Exactly.{same_size, quote-fitting, action-fitting, directory-fitting, new-size, quote-id, action-id, directory-id, new-id}
use Rattle.table.specs.Memory.{most_rows, table_size, is_table, Memories, memories, row, with_row, At, Nothing}
use Rattle.table.specs.Index.{index_size, is_index, is_lent, lent_fit, sought, found_of, entered}
use Rattle.table.specs.Sorted.{Sorted}
use Rattle.table.specs.Board.{Outcome, accepted, refused, beside, refused_beside, fresh_board, one_more, start_of, directory_at, action_at, quote_at, of_short_quote, of_long_quote, of_short_side, of_long_side, Wanted, an_id, no_id, wanted_by, look_for, look, effect_at, entering, effect_by, effect, apply_of, walk_for, walked_effect}
use Rattle.table.specs.declared.index.Sought.{Sought}
use Rattle.table.specs.declared.index.Sought.TheVariants.{Here, Absent, Astray}
use Rattle.table.specs.declared.Board.{Board}
use Rattle.table.specs.declared.Refusal.TheVariants.{Unfit, TableFull}
use Rattle.table.proofs.Search.{Has}
use Rattle.table.proofs.Ways.{fitting-lent}
use Rattle.table.proofs.Rows.{row-length}
use Rattle.table.proofs.IndexPlaces.{here-has}
use Rattle.table.proofs.IndexTruth.{same-as-walk, sought-never-astray}
use Rattle.table.proofs.IndexKept.{clear-sorted, add-sorted, change-sorted}
use Rattle.table.proofs.Exactly.{none, either_way, LeftBy, apply-leaves}
use Rattle.std.specs.Prelude.{Err, Ok, Result}
use Rattle.table.specs.declared.Refusal.{Refusal}

-- ---- THE ANSWER EQUALS THE OLD WALK'S

no-place-astray : Absent 0 ≡ Astray → ⊥
no-place-astray e = let z : ◌≡◌ {A = ℕ} 0 1 = cc in omega arith

module _ (b : Board) (l : Memories) (s : Sorted b.rows l.index l.table) where
  wanted-walks : (w : Wanted) → found_of (look_for w b l) ≡ walk_for w b l.table
  unfolding look_for walk_for
  wanted-walks (an_id id) = sym (same-as-walk b.rows l.index l.table s id)
  wanted-walks no_id = refl

  wanted-never-astray : (w : Wanted) → look_for w b l ≡ Astray → ⊥
  unfolding look_for
  wanted-never-astray (an_id id) e = sought-never-astray b.rows l.index l.table s id e
  wanted-never-astray no_id e = no-place-astray e

-- the row for a message is the one that the walk finds
pub look-walks : (b : Board) (m : Message) (l : Memories) → Sorted b.rows l.index l.table → found_of (look b m l) ≡ walk_for (wanted_by m) b l.table
look-walks b m l s = wanted-walks b l s (wanted_by m)

-- no place that is visited names a row that is not in use
pub never-astray : (b : Board) (m : Message) (l : Memories) → Sorted b.rows l.index l.table → look b m l ≡ Astray → ⊥
never-astray b m l s e = wanted-never-astray b l s (wanted_by m) e

sought-walks : (b : Board) (m : Message) (t : Texts) (l : Memories) → Sorted b.rows l.index l.table → (a : Sought) → look b m l ≡ a
    → (effect_by b m t l a).outcome ≡ walked_effect b m t l.table
unfolding effect_by walked_effect
sought-walks b m t l s (Here k) e = ap (effect_at b m t l.table) (sym (ap found_of e) ∙ look-walks b m l s)
sought-walks b m t l s (Absent p) e = ap (effect_at b m t l.table) (sym (ap found_of e) ∙ look-walks b m l s)
sought-walks b m t l s Astray e = absurd (never-astray b m l s e)

-- and so is what it does
pub effect-walks : (b : Board) (m : Message) (t : Texts) (l : Memories) → Sorted b.rows l.index l.table → (effect b m t l).outcome ≡ walked_effect b m t l.table
unfolding effect
effect-walks b m t l s = sought-walks b m t l s (look b m l) refl

pub apply-walks : (b : Board) (m : Message) (t : Texts) (l : Memories) → Sorted b.rows l.index l.table → length l.table ≡ table_size
    → (apply_of b m t l).outcome ≡ walked_effect b m t l.table
unfolding apply_of
apply-walks b m t l s long = rw (fitting-lent b.rows l ((long, s.few), s.sized)) (effect-walks b m t l s)

-- a true index never gives 20
pub apply-fits : (b : Board) (m : Message) (t : Texts) (l : Memories) → Sorted b.rows l.index l.table → length l.table ≡ table_size
    → (apply_of b m t l).outcome.applied.verdict ≡ Err Unfit → ⊥
apply-fits b m t l s long e =
    let i = apply_of b m t l in
    let k : LeftBy b m l (Err Unfit) i.outcome.applied.board (memories i.outcome.memory i.index)
    = subst (λ (v : Result (Unit {0}) Refusal). LeftBy b m l v i.outcome.applied.board (memories i.outcome.memory i.index)) e (apply-leaves b m t l) in
    never (sym (k.2 (fitting-lent b.rows l ((long, s.few), s.sized)) (never-astray b m l s)))

-- ---- THE INDEX STAYS TRUE

-- what is wanted of an outcome with an index beside it: the index is true of the table
abbrev Stays : List ℕ → Outcome → Type 0
Stays ix o = Sorted o.applied.board.rows ix o.memory

module _ (b : Board) (mem ix : List ℕ) (s : Sorted b.rows ix mem) (sized : length mem ≡ table_size) where
  long : b.rows * row_size ≤ length mem
  long = omega (arith, s.few)

  row-long : (k : ℕ) → k < b.rows → length (row k mem) ≡ row_size
  row-long k h = row-length k mem (omega (arith, long))

  -- a row in use is changed, and has the id that it had
  changes : (k : ℕ) (r : List ℕ) → k < b.rows → length r ≡ row_size → id_of r ≡ id_of (row k mem) → Stays ix (accepted b (with_row k r mem))
  changes k r h e i = change-sorted b.rows ix mem r k s h long e i

  quote-stays : (q : Quote) (k : ℕ) → k < b.rows → Stays ix (quote_at b q mem (At k))
  unfolding quote_at
  quote-stays q k h =
      let r : List ℕ = row k mem in
      let x : List ℕ = changed (quote_changes q r) r in
      either_way (Stays ix) (takes_quote r)
      (changes k x h (same_size (quote-fitting q r) r (row-long k h)) (quote-id r (row-long k h) q))
      s

  action-stays : (a : TradingAction) (k : ℕ) → k < b.rows → Stays ix (action_at b a mem (At k))
  unfolding action_at
  action-stays a k h =
      let r : List ℕ = row k mem in
      changes k (changed (action_changes a) r) h (same_size (action-fitting a) r (row-long k h)) (action-id r (row-long k h) a)

  module _ (d : Directory) (t : Texts) (fit : Fit instrument_rows (instrument_fields d.instrument t)) where
    -- the id that it puts in the row is the one that the row has
    directory-stays : (k : ℕ) → Has mem d.instrument.id 0 b.rows k → Stays ix (directory_at b d t mem (At k))
    unfolding directory_at
    directory-stays k h =
        let r : List ℕ = row k mem in
        let x : List ℕ = changed (directory_changes d t) r in
        let l : length r ≡ row_size = row-long k h.below in
        either_way (Stays ix) (unchanged d.instrument t r)
        (changes k x h.below (same_size (directory-fitting d t fit) r l) (directory-id d t fit r l ∙ sym h.has))
        s

  effect-stays : (m : Message) (t : Texts) → Typed m t → (k : ℕ) → ((id : ℕ) → wanted_by m ≡ an_id id → Has mem id 0 b.rows k)
      → Stays ix (effect_at b m t mem (At k))
  unfolding effect_at
  effect-stays (message.SystemEvent m) t f k h = s
  effect-stays (message.Directory m) t f k h = directory-stays m t f.1.1 k (h m.instrument.id refl)
  effect-stays (message.TradingAction m) t f k h = action-stays m k (h m.id refl).below
  effect-stays (message.ShortQuote m) t f k h = quote-stays (of_short_quote m) k (h m.id refl).below
  effect-stays (message.LongQuote m) t f k h = quote-stays (of_long_quote m) k (h m.id refl).below
  effect-stays (message.ShortSide m) t f k h = quote-stays (of_short_side m) k (h m.id refl).below
  effect-stays (message.LongSide m) t f k h = quote-stays (of_long_side m) k (h m.id refl).below
  effect-stays (message.EndOfReplay m) t f k h = s

  -- where no row has the id, only a directory adds one, which enters at the place that the search left
  module _ (p : ℕ) where
    as_many : (o : Outcome) → o.applied.board.rows ≡ b.rows → Stays ix o → Stays (entering ix b p o) o
    as_many o e g = rw (ap (λ (n : ℕ). cond (ltb b.rows n) (entered ix b.rows p b.rows) ix) e, le-ltb b.rows b.rows (omega arith)) g

    new-stays : (d : Directory) (t : Texts) → Fit instrument_rows (instrument_fields d.instrument t) → sought ix mem b.rows d.instrument.id ≡ Absent p
        → Stays (entering ix b p (directory_at b d t mem Nothing)) (directory_at b d t mem Nothing)
    unfolding directory_at
    new-stays d t fit e = by (leb most_rows b.rows) refl
      where
        x : Outcome
        x = accepted (one_more b) (with_row b.rows (new_row d t) mem)

        by : (y : Bool) → leb most_rows b.rows ≡ y → Stays (entering ix b p (cond y (refused TableFull b mem) x)) (cond y (refused TableFull b mem) x)
        by true g = as_many (refused TableFull b mem) refl s
        by false g =
            let room : b.rows < most_rows = leb-false most_rows b.rows g in
            rw (lt-ltb b.rows (b.rows + 1) (omega arith))
            (add-sorted b.rows ix mem (new_row d t) p s room (omega arith) (new-size d t fit) (ap (sought ix mem b.rows) (new-id d t fit) ∙ e))

    absent-stays : (m : Message) (t : Texts) → Typed m t → ((id : ℕ) → wanted_by m ≡ an_id id → sought ix mem b.rows id ≡ Absent p)
        → Stays (entering ix b p (effect_at b m t mem Nothing)) (effect_at b m t mem Nothing)
    unfolding effect_at action_at quote_at
    absent-stays (message.SystemEvent m) t f h = as_many (effect_at b (message.SystemEvent m) t mem Nothing) refl s
    absent-stays (message.Directory m) t f h = new-stays m t f.1.1 (h m.instrument.id refl)
    absent-stays (message.TradingAction m) t f h = as_many (action_at b m mem Nothing) refl s
    absent-stays (message.ShortQuote m) t f h = as_many (quote_at b (of_short_quote m) mem Nothing) refl s
    absent-stays (message.LongQuote m) t f h = as_many (quote_at b (of_long_quote m) mem Nothing) refl s
    absent-stays (message.ShortSide m) t f h = as_many (quote_at b (of_short_side m) mem Nothing) refl s
    absent-stays (message.LongSide m) t f h = as_many (quote_at b (of_long_side m) mem Nothing) refl s
    absent-stays (message.EndOfReplay m) t f h = as_many (effect_at b (message.EndOfReplay m) t mem Nothing) refl s

module _ (b : Board) (m : Message) (t : Texts) (l : Memories) (s : Sorted b.rows l.index l.table) (sized : length l.table ≡ table_size) (f : Typed m t) where
  looks : (id : ℕ) → wanted_by m ≡ an_id id → sought l.index l.table b.rows id ≡ look b m l
  unfolding look_for
  looks id e = sym (ap (λ (w : Wanted). look_for w b l) e)

  sought-stays : (a : Sought) → look b m l ≡ a → Stays (effect_by b m t l a).index (effect_by b m t l a).outcome
  unfolding effect_by
  sought-stays (Here k) e =
      effect-stays b l.table l.index s sized m t f k (λ id w. here-has l.index l.table b.rows id k (looks id w ∙ e))
  sought-stays (Absent p) e = absent-stays b l.table l.index s sized p m t f (λ id w. looks id w ∙ e)
  sought-stays Astray e = s

  -- every message leaves the index true, accepted or refused
  pub apply-sorted : let o = apply_of b m t l in Sorted o.outcome.applied.board.rows o.index o.outcome.memory
  unfolding apply_of effect
  apply-sorted = by (lent_fit b.rows l)
    where
      by : (y : Bool) → let o = cond y (effect b m t l) (refused_beside Unfit b l) in Stays o.index o.outcome
      by true = sought-stays (look b m l) refl
      by false = s

-- a start that is not refused leaves it true
pub start-sorted : (l : Memories) → let o = start_of l in o.outcome.applied.verdict ≡ Ok (tt {0}) → Sorted o.outcome.applied.board.rows o.index o.outcome.memory
unfolding start_of
start-sorted l = by (is_lent l) refl
  where
    by : (y : Bool) → is_lent l ≡ y
        → let o = cond y (beside (replicate (length l.index) 0) (accepted fresh_board (replicate (length l.table) 0))) (refused_beside Unfit fresh_board l) in
        o.outcome.applied.verdict ≡ Ok (tt {0}) → Stays o.index o.outcome
    by true g a =
        let n : length l.index ≡ index_size = eqb-true (length l.index) index_size (both_right (is_table l.table) (is_index l.index) g) in
        rw n (clear-sorted (replicate (length l.table) 0))
    by false g a = none a
