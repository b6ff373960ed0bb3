-- Each row of a table changed in the same way.
-- Assumes nothing.
use mathlib.Core.Path.{◌≡◌, refl, sym, ap, ◌∙◌}
use mathlib.Core.List.{List, ◌++◌}
use Prim.Native.Nat.{ℕ, zero, suc, ◌+◌, ◌-◌, ◌*◌, ◌≤◌, ◌<◌}
use native.Mathlib.Nat.{zero-add, not-suc-le-zero}
use native.Mathlib.Numerals.{add-one}
use native.Mathlib.Decide.{ℕ_discrete}
use native.Mathlib.Omega.{arith}
use lib.ListN.{length}
use Rattle.field.specs.Bytes.{part}
use Rattle.field.proofs.Parts.{part-split, part_none, part-all}
use Rattle.row.specs.Fields.{row_size}
use Rattle.table.specs.Memory.{row_at, row, with_row, each_row}
use Rattle.table.proofs.Rows.{row-length, with-length, row-own, row_other, behind}

-- memory with the same rows and the same bytes past them is the same

rows-part : (n : ℕ) (a b : List ℕ) → ((j : ℕ) → j < n → row j a ≡ row j b) → part a 0 (row_at n) ≡ part b 0 (row_at n)
unfolding row
rows-part zero a b s = part_none a 0 ∙ sym (part_none b 0)
rows-part (suc n) a b s =
    let e : suc n * row_size ≡ n * row_size + row_size = omega arith in
    rw (e, part-split a 0 (n * row_size) row_size, part-split b 0 (n * row_size) row_size, zero-add, rows-part n a b (λ j h. s j (omega arith)), s n (omega arith))

pub rows_whole : (n : ℕ) (a b : List ℕ) → length a ≡ length b → row_at n ≤ length b → ((j : ℕ) → j < n → row j a ≡ row j b)
    → part a (row_at n) (length b - row_at n) ≡ part b (row_at n) (length b - row_at n) → a ≡ b
rows_whole n a b l f s t =
    let e : n * row_size + (length b - n * row_size) ≡ length b = omega arith in
    sym (part-all a) ∙ ap (part a 0) (l ∙ sym e) ∙ part-split a 0 (n * row_size) (length b - n * row_size)
    ∙ join ∙ sym (part-split b 0 (n * row_size) (length b - n * row_size)) ∙ ap (part b 0) e ∙ part-all b
  where
    join : part a 0 (n * row_size) ++ part a (0 + n * row_size) (length b - n * row_size) ≡ part b 0 (n * row_size) ++ part b (0 + n * row_size) (length b - n * row_size)
    join = rw (rows-part n a b s, zero-add, t)

module _ (f : List ℕ → List ℕ) (sized : (r : List ℕ) → length r ≡ row_size → length (f r) ≡ row_size) (mem : List ℕ) where
  pub each-length : (n : ℕ) → row_at n ≤ length mem → length (each_row f n mem) ≡ length mem
  unfolding each_row
  each-length zero h = refl
  each-length (suc n) h =
      let l : length (each_row f n mem) ≡ length mem = each-length n (omega arith) in
      with-length n (f (row n (each_row f n mem))) (each_row f n mem) (omega arith) (sized (row n (each_row f n mem)) (row-length n (each_row f n mem) (omega arith))) ∙ l

  module _ (n : ℕ) (h : row_at (suc n) ≤ length mem) where
    room : n * row_size + row_size ≤ length (each_row f n mem)
    room = omega (arith, each-length n (omega arith))

    put-size : length (f (row n (each_row f n mem))) ≡ row_size
    put-size = sized (row n (each_row f n mem)) (row-length n (each_row f n mem) room)

  -- the rows from row n on are as they were
  pub each-past : (n at m : ℕ) → row_at n ≤ length mem → row_at n ≤ at → part (each_row f n mem) at m ≡ part mem at m
  unfolding each_row
  each-past zero at m h g = refl
  each-past (suc n) at m h g =
      behind n (f (row n (each_row f n mem))) (each_row f n mem) (room n h) (put-size n h) at m (omega arith) ∙ each-past n at m (omega arith) (omega arith)

  each_last : (n : ℕ) → row_at n ≤ length mem → row n (each_row f n mem) ≡ row n mem
  unfolding row
  each_last n h = each-past n (n * row_size) row_size h (omega arith)

  -- THE ROWS BEFORE IT ARE CHANGED
  pub each_row_lem : (n j : ℕ) → row_at n ≤ length mem → j < n → row j (each_row f n mem) ≡ f (row j mem)
  unfolding each_row
  each_row_lem zero j h g = absurd (not-suc-le-zero g)
  each_row_lem (suc n) j h g = by (ℕ_discrete j n) (λ d. each_row_lem n j (omega arith) d)
    where
      by : Dec (j ≡ n) → (j < n → row j (each_row f n mem) ≡ f (row j mem)) → row j (with_row n (f (row n (each_row f n mem))) (each_row f n mem)) ≡ f (row j mem)
      by (yes e) rec =
          ap (λ (i : ℕ). row i (with_row n (f (row n (each_row f n mem))) (each_row f n mem))) e
          ∙ row-own n (f (row n (each_row f n mem))) (each_row f n mem) (room n h) (put-size n h)
          ∙ ap f (each_last n (omega arith) ∙ ap (λ (i : ℕ). row i mem) (sym e))
      by (no d) rec =
          row_other n (f (row n (each_row f n mem))) (each_row f n mem) (room n h) (put-size n h) j d ∙ rec (omega (arith, d))

-- ---- the loop

pub each_none : (f : List ℕ → List ℕ) (mem : List ℕ) → mem ≡ each_row f 0 mem
unfolding each_row
each_none f mem = refl

pub each_turn : (f : List ℕ → List ℕ) (mem : List ℕ) (k : ℕ) {a z : List ℕ} → a ≡ each_row f k mem → z ≡ with_row k (f (row k a)) a → z ≡ each_row f (k + 1) mem
unfolding each_row
each_turn f mem k e g = g ∙ rw (e, add-one)
