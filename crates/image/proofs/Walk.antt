-- The rules of rows where they lie: the rows' own, and no id twice among the ids that are entered one by one.
-- Assumes nothing.
use mathlib.Core.Path.{◌≡◌, refl, sym, ap, subst, ◌∙◌}
use mathlib.Core.Bool.{Bool, true, false, ◌&&◌, not, and-false}
use mathlib.Core.List.{List}
use Prim.Native.Nat.{ℕ, zero, suc, ◌+◌, ◌-◌, ◌≤◌, ◌<◌}
use native.Mathlib.Nat.{add-zero, not-suc-le-zero}
use native.Mathlib.Decide.{ℕ_discrete}
use native.Mathlib.Omega.{arith}
use lib.Dec.{eqb}
use lib.ListN.{length, take, drop}
use borrow.Author.Tests.{eq-eqb, ne_eqb}
use Rattle.field.specs.Bytes.{part, be}
use Rattle.field.proofs.Parts.{part_length, part-part}
use Rattle.message.proofs.Layouts.{never}
use Rattle.row.specs.Fields.{row_size, id_of}
use Rattle.row.specs.Rules.{row_keeps}
use Rattle.table.specs.Memory.{row}
use Rattle.table.specs.Rules.{lacks, new_id, rows_keep}
use Rattle.table.proofs.Search.{row-id}
use Rattle.table.proofs.Rows.{lacks-same}
use Rattle.image.specs.Shape.{pages_for, place_of, all_below}
use Rattle.image.specs.Ids.{good_row, own_id, Rising, Among, With, Entered}
use Rattle.image.proofs.Below.{was-no, was-yes, below-turn, below-stop, below_all}
use Rattle.image.specs.Held.{rows_in, row_in}
use Rattle.image.specs.declared.rows.Pages.{Pages}
use Rattle.image.proofs.Laid.{row_fits, row-page, place-row, place-id}

-- ---- the rules look at the rows alone

new-equal : (k : ℕ) (a b : List ℕ) → ((j : ℕ) → j < suc k → row j a ≡ row j b) → new_id k a ≡ new_id k b
unfolding new_id
new-equal k a b s =
    rw (s k (omega arith), lacks-same k b a (id_of (row k b)) (λ j h. ap id_of (s j (omega arith))))

pub rows-equal : (v rows : ℕ) (a b : List ℕ) → ((j : ℕ) → j < rows → row j a ≡ row j b) → rows_keep v rows a ≡ rows_keep v rows b
unfolding rows_keep
rows-equal v zero a b s = refl
rows-equal v (suc n) a b s =
    rw (rows-equal v n a b (λ j h. s j (omega arith)), s n (omega arith), new-equal n a b (λ j h. s j (omega arith)))

-- ---- and they are tests of every row, and of every id

lacks-below : (n : ℕ) (mem : List ℕ) (id : ℕ) → all_below (λ j. not (eqb (id_of (row j mem)) id)) n ≡ lacks n mem id
unfolding all_below lacks
lacks-below zero mem id = refl
lacks-below (suc n) mem id = rw (lacks-below n mem id)

and-turn : (a b p q : Bool) → (a && b) && (p && q) ≡ (a && p) && (b && q)
and-turn true true p q = refl
and-turn true false p q = sym (and-false p)
and-turn false b p q = refl

keep-below : (v n : ℕ) (mem : List ℕ) → rows_keep v n mem ≡ all_below (good_row v mem) n && all_below (λ k. new_id k mem) n
unfolding all_below rows_keep
keep-below v zero mem = refl
keep-below v (suc n) mem = rw (keep-below v n mem)
    (and-turn (all_below (good_row v mem) n) (all_below (λ k. new_id k mem) n) (row_keeps v (row n mem)) (new_id n mem))

-- ---- the ids, entered one by one

-- one of the first n rows has the id
pub record RowWith (n : ℕ) (mem : List ℕ) (id : ℕ) : Type 0 where
  pub place : ℕ
  pub in_use : place < n
  pub is : id_of (row place mem) ≡ id

-- the first n numbers are the ids of the first n rows, in rising order
pub record Gathered (n : ℕ) (mem xs : List ℕ) : Type 0 where
  pub rising : Rising n xs
  pub each : (k : ℕ) → k < n → Among n xs (id_of (row k mem))
  pub only : (id : ℕ) → Among n xs id → RowWith n mem id

pub gathered_none : (mem xs : List ℕ) → Gathered 0 mem xs
gathered_none mem xs =
    record {
      rising = λ p q h l. absurd (not-suc-le-zero l);
      each = λ k h. absurd (not-suc-le-zero h);
      only = λ id a. absurd (not-suc-le-zero a.in_use);
    }

module _ (k : ℕ) (mem xs ys : List ℕ) (id : ℕ) (r : Bool) (here : Gathered k mem xs) (own : id ≡ id_of (row k mem)) (e : Entered k id xs ys r) where
  twice : Among k xs id → own_id mem k ≡ false
  unfolding new_id
  twice a =
      let j : RowWith k mem id = here.only id a in
      let same : not (eqb (id_of (row j.place mem)) (id_of (row k mem))) ≡ false = ap not (eq-eqb _ _ (j.is ∙ own)) in
      sym (lacks-below k mem (id_of (row k mem))) ∙ sym (below-stop (λ j. not (eqb (id_of (row j mem)) (id_of (row k mem)))) j.place k j.in_use same)

  once : With k id xs ys → own_id mem k ≡ true
  unfolding new_id
  once w =
      sym (lacks-below k mem (id_of (row k mem)))
      ∙ below_all (λ j. not (eqb (id_of (row j mem)) (id_of (row k mem)))) k
      (λ j h. ap not (ne_eqb (id_of (row j mem)) (id_of (row k mem)) (λ q. w.new (subst (Among k xs) (q ∙ sym own) (here.each j h)))))

  added : With k id xs ys → Gathered (k + 1) mem ys
  added w =
      record {
        rising = w.rising;
        each = λ j h. row_in j h (ℕ_discrete j k);
        only = λ v a. of_row v a (ℕ_discrete v id);
      }
    where
      row_in : (j : ℕ) → j < k + 1 → Dec (j ≡ k) → Among (k + 1) ys (id_of (row j mem))
      row_in j h (yes q) = subst (Among (k + 1) ys) (own ∙ ap (λ (i : ℕ). id_of (row i mem)) (sym q)) w.there
      row_in j h (no q) = w.kept (id_of (row j mem)) (here.each j (omega (arith, q)))

      of_row : (v : ℕ) → Among (k + 1) ys v → Dec (v ≡ id) → RowWith (k + 1) mem v
      of_row v a (yes q) = record { place = k; in_use = omega arith; is = sym own ∙ sym q }
      of_row v a (no q) =
          let j : RowWith k mem v = here.only v (w.only v a q) in
          record { place = j.place; in_use = omega (arith, j.in_use); is = j.is }

  was-there : not r ≡ true → Among k xs id
  was-there f = by r e f
    where
      by : (r : Bool) → Entered k id xs ys r → not r ≡ true → Among k xs id
      by false a g = a.0
      by true w g = never g

  was-new : not r ≡ false → With k id xs ys
  was-new f = by r e f
    where
      by : (r : Bool) → Entered k id xs ys r → not r ≡ false → With k id xs ys
      by true w g = w
      by false a g = never (sym g)

  -- the id is there twice, or is one more
  pub id-twice : (rows : ℕ) → k < rows → not r ≡ true → false ≡ all_below (own_id mem) rows
  id-twice rows h f = below-stop (own_id mem) k rows h (twice (was-there f))

  pub id-gathered : not r ≡ false → Gathered (k + 1) mem ys
  id-gathered f = added (was-new f)

  pub id-once : not r ≡ false → all_below (own_id mem) k ≡ true → all_below (own_id mem) (k + 1) ≡ true
  id-once f g = below-turn (own_id mem) k g (once (was-new f))

-- ---- the ways through the walk

module _ (v : ℕ) (mem : List ℕ) (rows : ℕ) {r : Bool} (er : r ≡ all_below (good_row v mem) rows) where
  pub rows-broken : not r ≡ true → false ≡ rows_keep v rows mem
  rows-broken e = sym (rw (keep-below v rows mem, was-no er e))

  pub rows-kept : not r ≡ false → {q : Bool} → q ≡ all_below (own_id mem) rows → q ≡ rows_keep v rows mem
  rows-kept e eq = eq ∙ sym (rw (keep-below v rows mem, was-yes er e))

pub lent : (s : List ℕ) (at : ℕ) → take (at + row_size - at) (drop at s) ≡ part s at row_size
unfolding part
lent s at = let e : at + row_size - at ≡ row_size = omega arith in rw e

-- a row in pages lies within the bytes
pub row-room : (p : Pages) (k : ℕ) → k < p.rows → place_of p.base p.stride k + row_size ≤ length p.bytes.now
row-room p k h = row_fits p.bytes.now p.base p.stride p.rows k p.inside h

pub lent-whole : (s : List ℕ) (at : ℕ) → at + row_size ≤ length s → length (take (at + row_size - at) (drop at s)) ≡ row_size
lent-whole s at h = ap length (lent s at) ∙ part_length s at row_size h

module _ (p : Pages) (k : ℕ) (h : k < p.rows) {bytes : List ℕ} (its : bytes ≡ row_in p k) where
  is-row : bytes ≡ row k (rows_in p)
  is-row = its ∙ sym (place-row p.bytes.now p.base p.stride (pages_for p.rows) k p.inside (row-page p.rows k h))

  pub id-there : {id : ℕ} → id ≡ be (part bytes 0 4) → id ≡ id_of (row k (rows_in p))
  id-there e =
      let f : part (row_in p k) 0 4 ≡ part p.bytes.now (place_of p.base p.stride k) 4 = rw add-zero at (part-part p.bytes.now (place_of p.base p.stride k) row_size 0 4 (omega arith)) in
      e ∙ ap (λ (b : List ℕ). be (part b 0 4)) its ∙ ap be f
      ∙ place-id p.bytes.now p.base p.stride (pages_for p.rows) k p.inside (row-page p.rows k h) ∙ row-id k _

  module _ (v : ℕ) (r : Bool) (er : r ≡ row_keeps v bytes) where
    row-k : r ≡ good_row v (rows_in p) k
    row-k = er ∙ ap (row_keeps v) is-row

    pub row-breaks : not r ≡ true → false ≡ all_below (good_row v (rows_in p)) p.rows
    row-breaks e = below-stop (good_row v (rows_in p)) k p.rows h (was-no row-k e)

    pub row-good : not r ≡ false → all_below (good_row v (rows_in p)) k ≡ true → all_below (good_row v (rows_in p)) (k + 1) ≡ true
    row-good e g = below-turn (good_row v (rows_in p)) k g (was-yes row-k e)
