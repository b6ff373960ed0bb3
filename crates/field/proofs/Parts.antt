-- The laws of `part` and `overlay`.
-- Assumes nothing.
use mathlib.Core.Path.{◌≡◌, refl, sym, ap, ◌∙◌}
use mathlib.Core.List.{List, [], ◌∷◌, ◌++◌, append_assoc, append-nil}
use Prim.Native.Nat.{ℕ, zero, suc, ◌+◌, ◌-◌, ◌≤◌, ◌<◌}
use native.Mathlib.Nat.{add-zero, zero-add, suc-add, add_assoc}
use native.Mathlib.Numerals.{add-one}
use native.Mathlib.Omega.{arith}
use lib.ListN.{length, take, drop, get_or, set, length-append, length-take, length-drop, take-append-drop, replicate, length-replicate, replicate-append-replicate}
use lib.Seq.{length-take-le, take-take, drop-drop, take-add, drop-cons, get_or-take, get_or-drop, take-append-le, drop-append-le, take_at, drop_at, drop-append-add, set_split, take-nil, take-length, drop-length}
use borrow.Rule.Slice.PartMut.{put_mid, Post-is}
use Rattle.field.specs.Bytes.{part, overlay}

-- ---- parts

pub part_length : (xs : List ℕ) (at n : ℕ) → at + n ≤ length xs → length (part xs at n) ≡ n
unfolding part
part_length xs at n h = simp (length-take, length-drop) (omega arith)

pub part_at : (xs : List ℕ) (at n i : ℕ) → i < n → get_or (part xs at n) i 0 ≡ get_or xs (at + i) 0
unfolding part
part_at xs at n i h = rw (get_or-take, get_or-drop)

pub part_none : (xs : List ℕ) (at : ℕ) → part xs at 0 ≡ []
unfolding part
part_none xs at = refl

pub part-all : (xs : List ℕ) → part xs 0 (length xs) ≡ xs
unfolding part
part-all xs = take-length xs

pub part-whole : (xs : List ℕ) (n : ℕ) → length xs ≡ n → part xs 0 n ≡ xs
part-whole xs n e = rw (← e) (part-all xs)

-- of one value
pub part-replicate : (m at n b : ℕ) → at + n ≤ m → part (replicate m b) at n ≡ replicate n b
unfolding part
part-replicate m at n b h =
    let e : at + (n + (m - at - n)) ≡ m = omega arith in
    let f : replicate m b ≡ replicate at b ++ (replicate n b ++ replicate (m - at - n) b)
    = ap (λ (x : ℕ). replicate x b) (sym e) ∙ sym (replicate-append-replicate at (n + (m - at - n)) b)
    ∙ ap (λ (x : List ℕ). replicate at b ++ x) (sym (replicate-append-replicate n (m - at - n) b)) in
    ap (λ (x : List ℕ). take n (drop at x)) f
    ∙ ap (take n) (drop_at (replicate at b) (replicate n b ++ replicate (m - at - n) b) at (length-replicate at b))
    ∙ take_at (replicate n b) (replicate (m - at - n) b) n (length-replicate n b)

pub part-split : (xs : List ℕ) (at m n : ℕ) → part xs at (m + n) ≡ part xs at m ++ part xs (at + m) n
unfolding part
part-split xs at m n = rw (take-add, drop-drop)

pub part-one : (xs : List ℕ) (at : ℕ) → at < length xs → part xs at 1 ≡ get_or xs at 0 ∷ []
unfolding part
part-one xs at h = rw (drop-cons xs at 0)

pub part-more : (xs : List ℕ) (at n : ℕ) → at + n < length xs → part xs at (n + 1) ≡ part xs at n ++ (get_or xs (at + n) 0 ∷ [])
part-more xs at n h = part-split xs at n 1 ∙ ap (λ (l : List ℕ). part xs at n ++ l) (part-one xs (at + n) h)

-- a part is what is left of a longer start
drop-take : (i k : ℕ) (l : List ℕ) → drop i (take (i + k) l) ≡ take k (drop i l)
drop-take zero k l = rw zero-add
drop-take (suc i) k [] = rw (suc-add, take-nil)
drop-take (suc i) k (x ∷ l) = rw suc-add (drop-take i k l)

part-start : (xs : List ℕ) (i k n : ℕ) → i + k ≤ n → take k (drop i (take n xs)) ≡ take k (drop i xs)
part-start xs i k n h = sym (drop-take i k (take n xs)) ∙ ap (drop i) (take-take (i + k) n xs h) ∙ drop-take i k xs

pub part-part : (xs : List ℕ) (at n i k : ℕ) → i + k ≤ n → part (part xs at n) i k ≡ part xs (at + i) k
unfolding part
part-part xs at n i k h = part-start (drop at xs) i k n h ∙ ap (take k) (drop-drop i at xs)

pub part-cons : (xs : List ℕ) (at n : ℕ) → 0 < n → at < length xs → part xs at n ≡ get_or xs at 0 ∷ part xs (at + 1) (n - 1)
part-cons xs at n h k =
    let e : 1 + (n - 1) ≡ n = omega arith in
    rw e at (part-split xs at 1 (n - 1)) ∙ rw (part-one xs at k)

-- what is left of a part after k elements: the element at k and what is left after that, nothing
pub rest-cons : (xs : List ℕ) (at n k : ℕ) → k < n → at + n ≤ length xs
    → part xs (at + k) (n - k) ≡ get_or xs (at + k) 0 ∷ part xs (at + (k + 1)) (n - (k + 1))
rest-cons xs at n k h f =
    let e : n - k - 1 ≡ n - (k + 1) = omega arith in
    let g : at + k + 1 ≡ at + (k + 1) = omega arith in
    rw (e, g) at (part-cons xs (at + k) (n - k) (omega arith) (omega arith))

pub rest-none : (xs : List ℕ) (at n k : ℕ) → n ≤ k → part xs (at + k) (n - k) ≡ []
rest-none xs at n k g = let e : n - k ≡ 0 = omega arith in rw e (part_none xs (at + k))

-- a part of a part that runs to its end, and the part before it
pub part-drop : (xs : List ℕ) (at n k : ℕ) → k ≤ n → drop k (part xs at n) ≡ part xs (at + k) (n - k)
unfolding part
part-drop xs at n k h =
    let e : k + (n - k) ≡ n = omega arith in
    rw e at (drop-take k (n - k) (drop at xs)) ∙ ap (take (n - k)) (drop-drop k at xs)

pub part-take : (xs : List ℕ) (at n k : ℕ) → k ≤ n → take k (part xs at n) ≡ part xs at k
unfolding part
part-take xs at n k h = take-take k n (drop at xs) h

-- ---- a list laid over a list

overlay-is : (xs : List ℕ) (at : ℕ) (ys : List ℕ) → overlay xs at ys ≡ take at xs ++ (ys ++ drop (at + length ys) xs)
unfolding overlay
overlay-is xs at ys = refl

module _ (xs : List ℕ) (at : ℕ) (ys : List ℕ) (fits : at + length ys ≤ length xs) where
  head-length : length (take at xs) ≡ at
  head-length = length-take-le at xs (omega arith)

  pub overlay-length : length (overlay xs at ys) ≡ length xs
  unfolding overlay
  overlay-length = simp (length-append, length-drop, head-length) (omega arith)

  take-overlay : (n : ℕ) → n ≤ at → take n (overlay xs at ys) ≡ take n xs
  unfolding overlay
  take-overlay n h =
      take-append-le n (take at xs) (ys ++ drop (at + length ys) xs) (rw head-length h) ∙ take-take n at xs h

  drop-overlay-at : drop at (overlay xs at ys) ≡ ys ++ drop (at + length ys) xs
  unfolding overlay
  drop-overlay-at = drop_at (take at xs) (ys ++ drop (at + length ys) xs) at head-length

  pub take-overlay-end : take (at + length ys) (overlay xs at ys) ≡ take at xs ++ ys
  unfolding overlay
  take-overlay-end =
      ap (take (at + length ys)) (sym (append_assoc (take at xs) ys (drop (at + length ys) xs)))
      ∙ take_at (take at xs ++ ys) (drop (at + length ys) xs) (at + length ys) (rw (length-append, head-length))

  drop-overlay : (n : ℕ) → at + length ys ≤ n → drop n (overlay xs at ys) ≡ drop n xs
  drop-overlay n h =
      let k : ℕ = n - (at + length ys) in
      let e : at + (length ys + k) ≡ n = omega arith in
      let f : at + length ys + k ≡ n = omega arith in
      rw e at (sym (drop-drop (length ys + k) at (overlay xs at ys)))
      ∙ ap (drop (length ys + k)) drop-overlay-at
      ∙ drop-append-add ys (drop (at + length ys) xs) k
      ∙ rw f at (drop-drop k (at + length ys) xs)

  -- the two ends of a longer part, as the part of `xs` between
  take-overlay-past : (j : ℕ) → at + length ys ≤ j
      → take j (overlay xs at ys) ≡ take at xs ++ (ys ++ take (j - (at + length ys)) (drop (at + length ys) xs))
  take-overlay-past j h =
      let k : ℕ = j - (at + length ys) in
      let e : at + length ys + k ≡ j = omega arith in
      rw e at (take-add (at + length ys) k (overlay xs at ys))
      ∙ rw (take-overlay-end, drop-overlay (at + length ys) (omega arith)) (append_assoc (take at xs) ys _)

  drop-overlay-into : (i : ℕ) → i ≤ at → drop i (overlay xs at ys) ≡ take (at - i) (drop i xs) ++ (ys ++ drop (at + length ys) xs)
  unfolding overlay
  drop-overlay-into i h =
      let e : i + (at - i) ≡ at = omega arith in
      drop-append-le i (take at xs) (ys ++ drop (at + length ys) xs) (rw head-length h)
      ∙ ap (λ (l : List ℕ). l ++ (ys ++ drop (at + length ys) xs)) (rw e at (drop-take i (at - i) xs))

  pub part-before : (i n : ℕ) → i + n ≤ at → part (overlay xs at ys) i n ≡ part xs i n
  unfolding part
  part-before i n h =
      sym (drop-take i n (overlay xs at ys)) ∙ ap (drop i) (take-overlay (i + n) h) ∙ drop-take i n xs

  pub part-after : (i n : ℕ) → at + length ys ≤ i → part (overlay xs at ys) i n ≡ part xs i n
  unfolding part
  part-after i n h = ap (take n) (drop-overlay i h)

  pub part-inside : (k n : ℕ) → k + n ≤ length ys → part (overlay xs at ys) (at + k) n ≡ part ys k n
  unfolding part
  part-inside k n h =
      ap (take n)
      (sym (drop-drop k at (overlay xs at ys)) ∙ ap (drop k) drop-overlay-at ∙ drop-append-le k ys (drop (at + length ys) xs) (omega arith))
      ∙ take-append-le n (drop k ys) (drop (at + length ys) xs) (simp length-drop (omega arith))

  pub part-overlay : part (overlay xs at ys) at (length ys) ≡ ys
  part-overlay = rw add-zero at (part-inside 0 (length ys) (omega arith)) ∙ part-all ys

-- nothing, one element, what is already there, and a run of stores
pub overlay-none : (xs : List ℕ) (at : ℕ) → overlay xs at [] ≡ xs
unfolding overlay
overlay-none xs at = rw add-zero (take-append-drop at xs)

pub overlay-one : (xs : List ℕ) (at a : ℕ) → at < length xs → set xs at a ≡ overlay xs at (a ∷ [])
unfolding overlay
overlay-one xs at a h = rw add-one (set_split xs at a h)

pub overlay-own : (xs : List ℕ) (at n : ℕ) → at + n ≤ length xs → overlay xs at (part xs at n) ≡ xs
unfolding overlay part
overlay-own xs at n h =
    rw (part_length xs at n h, ← drop-drop n at xs, take-append-drop n (drop at xs)) (take-append-drop at xs)

-- all of it
pub overlay-whole : (xs ys : List ℕ) → length ys ≡ length xs → overlay xs 0 ys ≡ ys
unfolding overlay
overlay-whole xs ys e = rw (zero-add, e, drop-length) (append-nil ys)

-- the same place again: the later counts
pub overlay-again : (xs : List ℕ) (at : ℕ) (ys zs : List ℕ) → length ys ≡ length zs → at + length ys ≤ length xs
    → overlay (overlay xs at ys) at zs ≡ overlay xs at zs
overlay-again xs at ys zs e h =
    rw (overlay-is (overlay xs at ys), take-overlay xs at ys h at (omega arith), drop-overlay xs at ys h (at + length zs) (omega arith))
    (sym (overlay-is xs at zs))

-- two next to each other are one
pub overlay-next : (xs : List ℕ) (at : ℕ) (ys zs : List ℕ) → at + length ys + length zs ≤ length xs
    → overlay (overlay xs at ys) (at + length ys) zs ≡ overlay xs at (ys ++ zs)
overlay-next xs at ys zs h =
    let k : at + length ys ≤ length xs = omega arith in
    rw (
      overlay-is (overlay xs at ys),
      overlay-is xs at (ys ++ zs),
      take-overlay-end xs at ys k,
      drop-overlay xs at ys k (at + length ys + length zs) (omega arith),
      length-append ys zs,
    )
    (simp (append_assoc, add_assoc))

-- two that do not meet go in either order
pub overlay-swap : (xs : List ℕ) (i : ℕ) (ys : List ℕ) (j : ℕ) (zs : List ℕ) → i + length ys ≤ j → j + length zs ≤ length xs
    → overlay (overlay xs i ys) j zs ≡ overlay (overlay xs j zs) i ys
overlay-swap xs i ys j zs a h =
    let hi : i + length ys ≤ length xs = omega arith in
    rw (
      overlay-is (overlay xs i ys) j zs,
      overlay-is (overlay xs j zs) i ys,
      take-overlay-past xs i ys hi j a,
      drop-overlay xs i ys hi (j + length zs) (omega arith),
      take-overlay xs j zs h i (omega arith),
      drop-overlay-into xs j zs h (i + length ys) a,
    )
    (simp append_assoc)

-- a store just before what has been laid, and just past it: a turn of a loop that writes
pub overlay-before : (xs : List ℕ) (at : ℕ) (ys : List ℕ) (a : ℕ) → at + 1 + length ys ≤ length xs
    → set (overlay xs (at + 1) ys) at a ≡ overlay xs at (a ∷ ys)
overlay-before xs at ys a h =
    overlay-one (overlay xs (at + 1) ys) at a (rw (overlay-length xs (at + 1) ys h) (omega arith))
    ∙ sym (overlay-swap xs at (a ∷ []) (at + 1) ys (omega arith) h)
    ∙ overlay-next xs at (a ∷ []) ys h

pub overlay-store : (xs : List ℕ) (at : ℕ) (ys : List ℕ) (n a : ℕ) → length ys ≡ n → at + n < length xs
    → set (overlay xs at ys) (at + n) a ≡ overlay xs at (ys ++ (a ∷ []))
overlay-store xs at ys n a e h =
    let k : at + length ys < length xs = omega arith in
    rw (← e)
    (overlay-one (overlay xs at ys) (at + length ys) a (rw (overlay-length xs at ys (omega arith)) k)
    ∙ overlay-next xs at ys (a ∷ []) (omega arith))

pub copy-turn : (xs : List ℕ) (at : ℕ) (s : List ℕ) (from i : ℕ) → at + i < length xs → from + i < length s
    → set (overlay xs at (part s from i)) (at + i) (get_or s (from + i) 0) ≡ overlay xs at (part s from (i + 1))
copy-turn xs at s from i h k =
    overlay-store xs at (part s from i) i (get_or s (from + i) 0) (part_length s from i (omega arith)) h
    ∙ ap (overlay xs at) (sym (part-more s from i k))

pub fill-turn : (xs : List ℕ) (at b i : ℕ) → at + i < length xs
    → set (overlay xs at (replicate i b)) (at + i) b ≡ overlay xs at (replicate (i + 1) b)
fill-turn xs at b i h =
    overlay-store xs at (replicate i b) i b (length-replicate i b) h
    ∙ ap (overlay xs at) (replicate-append-replicate i 1 b)

-- a part that was lent comes back as an overlay
pub part-back : (from to : ℕ) (xs ys : List ℕ) → from ≤ to → to ≤ length xs → length ys ≡ to - from → put_mid from (to - from) xs ys ≡ overlay xs from ys
unfolding overlay
part-back from to xs ys h k e =
    let f : to ≡ from + length ys = omega arith in
    ap (λ (l : List ℕ). take from xs ++ (ys ++ l)) (Post-is from to xs h ∙ ap (λ (n : ℕ). drop n xs) f)
