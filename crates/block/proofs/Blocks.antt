-- The bytes of a block, written and read back.
-- Assumes nothing.
use mathlib.Core.Path.{◌≡◌, refl, sym, ap, ◌∙◌}
use mathlib.Core.Bool.{true}
use mathlib.Core.List.{List, [], ◌∷◌, ◌++◌}
use Prim.Native.Nat.{ℕ, ◌+◌, ◌^◌, ◌≤◌, ◌<◌}
use native.Mathlib.Nat.{add-zero, add_assoc}
use native.Mathlib.Omega.{arith}
use borrow.Author.Tests.{eq-eqb, eqb-true}
use lib.Dec.{eqb, lit<, lit≤}
use lib.ListN.{length, length-append}
use Rattle.field.specs.Bytes.{part, overlay, digits, be, bytes_be, Bytes}
use Rattle.field.proofs.Bools.{both_left, both_right}
use Rattle.field.proofs.Parts.{part-split, part-part, part-whole, part-overlay, overlay-next}
use Rattle.field.proofs.Numbers.{value-digits, digits-length}
use Rattle.field.proofs.Writes.{piece, run-joined}
use Rattle.block.specs.Block.{block_size, head_size, body_size, checked_size, check_of, head_bytes, sealed, block_of, head_at, same_head, check_keeps}
use Rattle.block.specs.declared.Head.{Head}
use Rattle.block.proofs.Joins.{part-first, part-past, part-second, read-bytes}
use Rattle.block.proofs.Checks.{check-below}

-- ---- the head

pub head-put : (xs : List ℕ) (at : ℕ) (h : Head) {us vs ws zs : List ℕ} → at + head_size ≤ length xs
    → us ≡ overlay xs at (bytes_be 2 h.number) → vs ≡ overlay us (at + 2) (bytes_be 2 h.count)
    → ws ≡ overlay vs (at + 4) (bytes_be 2 h.version) → zs ≡ overlay ws (at + 6) (bytes_be 8 h.next)
    → zs ≡ overlay xs at (head_bytes h)
unfolding digits head_bytes
head-put xs at h {us} {vs} {ws} {zs} f a b c d =
    run-joined xs at (piece 2 (bytes_be 2 h.number))
    (piece 2 (bytes_be 2 h.count) ∷ piece 2 (bytes_be 2 h.version) ∷ piece 8 (bytes_be 8 h.next) ∷ [])
    (refl, (refl, (refl, (refl, tt)))) f a (vs, b, (ws, c, (zs, d, refl)))

pub head-take : (bs : List ℕ) (at : ℕ) {number count version next : ℕ} → number ≡ be (part bs at 2) → count ≡ be (part bs (at + 2) 2)
    → version ≡ be (part bs (at + 4) 2) → next ≡ be (part bs (at + 6) 8)
    → record { number = number; count = count; version = version; next = next } ≡ head_at bs at
unfolding head_at
head-take bs at a b c d i = record { number = a i; count = b i; version = c i; next = d i }

pub head-length : (h : Head) → length (head_bytes h) ≡ head_size
unfolding digits head_bytes
head-length h = refl

module _ (h : Head) where
  head-number : part (head_bytes h) 0 2 ≡ bytes_be 2 h.number
  unfolding part digits head_bytes
  head-number = refl

  head-count : part (head_bytes h) 2 2 ≡ bytes_be 2 h.count
  unfolding part digits head_bytes
  head-count = refl

  head-version : part (head_bytes h) 4 2 ≡ bytes_be 2 h.version
  unfolding part digits head_bytes
  head-version = refl

  head-next : part (head_bytes h) 6 8 ≡ bytes_be 8 h.next
  unfolding part digits head_bytes
  head-next = refl

-- the numbers of a head have room in their fields, as every head that the code holds has
pub record HeadFits (h : Head) : Type 0 where
  pub number : h.number < 256 ^ 2
  pub count : h.count < 256 ^ 2
  pub version : h.version < 256 ^ 2
  pub next : h.next < 256 ^ 8

pub same_head_lem : (h : Head) → same_head h h ≡ true
unfolding same_head
same_head_lem h =
    rw (eq-eqb h.number _ refl, eq-eqb h.count _ refl, eq-eqb h.version _ refl, eq-eqb h.next _ refl)

pub head-is : (g h : Head) → same_head g h ≡ true → g ≡ h
unfolding same_head
head-is g h e =
    let n = eqb-true g.number h.number (both_left _ _ e) in
    let e1 = both_right (eqb g.number h.number) _ e in
    let c = eqb-true g.count h.count (both_left _ _ e1) in
    let e2 = both_right (eqb g.count h.count) _ e1 in
    let v = eqb-true g.version h.version (both_left _ _ e2) in
    let x = eqb-true g.next h.next (both_right (eqb g.version h.version) _ e2) in
    λ i. record { number = n i; count = c i; version = v i; next = x i }

-- ---- a block

pub unsealed-length : (h : Head) (body : List ℕ) → length body ≡ body_size → length (head_bytes h ++ body) ≡ checked_size
unsealed-length h body l = rw (length-append, head-length h, l)

pub block-length : (h : Head) (body : List ℕ) → length body ≡ body_size → length (block_of h body) ≡ block_size
unfolding block_of sealed
block-length h body l = rw (length-append, unsealed-length h body l, digits-length)

-- head, body and check, written one after the other
pub block-put : (xs : List ℕ) (at : ℕ) (h : Head) (body : List ℕ) {us vs zs : List ℕ} → length body ≡ body_size → at + block_size ≤ length xs
    → us ≡ overlay xs at (head_bytes h) → vs ≡ overlay us (at + head_size) body
    → zs ≡ overlay vs (at + checked_size) (bytes_be 2 (check_of (part vs at checked_size)))
    → zs ≡ overlay xs at (block_of h body)
unfolding block_of sealed
block-put xs at h body {us} {vs} {zs} l f a b c =
    let hl : length (head_bytes h) ≡ head_size = head-length h in
    let u : length (head_bytes h ++ body) ≡ checked_size = unsealed-length h body l in
    let w : vs ≡ overlay xs at (head_bytes h ++ body) = b ∙ rw (a, ← hl) (overlay-next xs at (head_bytes h) body (omega arith)) in
    let p : part vs at checked_size ≡ head_bytes h ++ body = rw (w, ← u) (part-overlay xs at (head_bytes h ++ body) (omega arith)) in
    c ∙ rw (p, w, ← u)
    (overlay-next xs at (head_bytes h ++ body) (bytes_be 2 (check_of (head_bytes h ++ body))) (omega (arith, digits-length 256 2 (check_of (head_bytes h ++ body)))))

-- ---- where a block stands in some bytes

module _ (xs : List ℕ) (at : ℕ) (h : Head) (body : List ℕ) (l : length body ≡ body_size) (here : part xs at block_size ≡ block_of h body) where
  inside : (i n : ℕ) → i + n ≤ block_size → part xs (at + i) n ≡ part (block_of h body) i n
  inside i n f = sym (part-part xs at block_size i n f) ∙ ap (λ (b : List ℕ). part b i n) here

  unsealed-here : (i n : ℕ) → i + n ≤ checked_size → part xs (at + i) n ≡ part (head_bytes h ++ body) i n
  unfolding block_of sealed
  unsealed-here i n f =
      inside i n (omega arith) ∙ part-first (head_bytes h ++ body) _ i n (omega (arith, unsealed-length h body l))

  head-here : (i n : ℕ) → i + n ≤ head_size → part xs (at + i) n ≡ part (head_bytes h) i n
  head-here i n f = unsealed-here i n (omega arith) ∙ part-first (head_bytes h) body i n (omega (arith, head-length h))

  pub body-here : (i n : ℕ) → i + n ≤ body_size → part xs (at + head_size + i) n ≡ part body i n
  body-here i n f =
      rw (add_assoc at head_size i) (unsealed-here (head_size + i) n (omega arith))
      ∙ part-past (head_bytes h) body head_size i n (head-length h)

  pub head_read : HeadFits h → head_at xs at ≡ h
  unfolding head_at
  head_read fits =
      let n = ap be (rw add-zero at (head-here 0 2 (lit≤ tt)) ∙ head-number h) ∙ value-digits 256 (lit< tt) 2 h.number fits.number in
      let c = ap be (head-here 2 2 (lit≤ tt) ∙ head-count h) ∙ value-digits 256 (lit< tt) 2 h.count fits.count in
      let v = ap be (head-here 4 2 (lit≤ tt) ∙ head-version h) ∙ value-digits 256 (lit< tt) 2 h.version fits.version in
      let x = ap be (head-here 6 8 (lit≤ tt) ∙ head-next h) ∙ value-digits 256 (lit< tt) 8 h.next fits.next in
      λ i. record { number = n i; count = c i; version = v i; next = x i }

  pub check-here : check_keeps xs at ≡ true
  unfolding check_keeps block_of sealed
  check-here =
      let u : length (head_bytes h ++ body) ≡ checked_size = unsealed-length h body l in
      let a : part xs at checked_size ≡ head_bytes h ++ body
      = rw add-zero at (unsealed-here 0 checked_size (lit≤ tt)) ∙ part-whole (head_bytes h ++ body) checked_size u in
      let b : part xs (at + checked_size) 2 ≡ bytes_be 2 (check_of (head_bytes h ++ body))
      = inside checked_size 2 (lit≤ tt) ∙ part-second (head_bytes h ++ body) _ checked_size 2 u ∙ part-whole _ 2 (digits-length 256 2 _) in
      rw (a, b) (eq-eqb _ _ (value-digits 256 (lit< tt) 2 (check_of (head_bytes h ++ body)) (check-below (head_bytes h ++ body))))

-- bytes whose check is right are the block of what they say
module _ (xs : List ℕ) (at : ℕ) (b : Bytes xs) (f : at + block_size ≤ length xs) where
  pub head_bytes_lem : head_bytes (head_at xs at) ≡ part xs at head_size
  unfolding head_at head_bytes
  head_bytes_lem =
      rw (
        read-bytes xs at 2 b (omega arith),
        read-bytes xs (at + 2) 2 b (omega arith),
        read-bytes xs (at + 4) 2 b (omega arith),
        read-bytes xs (at + 6) 8 b (omega arith),
      )
      (sym (part-split xs at 2 12 ∙ ap (λ (r : List ℕ). part xs at 2 ++ r)
      (part-split xs (at + 2) 2 10 ∙ rw (add_assoc at 2 2) (ap (λ (r : List ℕ). part xs (at + 2) 2 ++ r)
      (part-split xs (at + 4) 2 8 ∙ rw (add_assoc at 4 2))))))

  pub block-again : check_keeps xs at ≡ true → block_of (head_at xs at) (part xs (at + head_size) body_size) ≡ part xs at block_size
  unfolding check_keeps block_of sealed
  block-again e =
      let s : part xs at head_size ++ part xs (at + head_size) body_size ≡ part xs at checked_size = sym (part-split xs at head_size body_size) in
      let c : check_of (part xs at checked_size) ≡ be (part xs (at + checked_size) 2) = sym (eqb-true _ _ e) in
      rw (head_bytes_lem, s, c, read-bytes xs (at + checked_size) 2 b (omega arith)) (sym (part-split xs at checked_size 2))
