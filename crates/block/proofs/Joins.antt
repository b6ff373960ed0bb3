-- Parts of two lists joined.
-- Assumes nothing.
use mathlib.Core.Path.{◌≡◌, sym, ap, ◌∙◌}
use mathlib.Core.List.{List, ◌++◌}
use Prim.Native.Nat.{ℕ, ◌+◌, ◌≤◌}
use native.Mathlib.Nat.{add-zero}
use native.Mathlib.Omega.{arith}
use lib.Dec.{lit<}
use lib.ListN.{length, take, drop, length-drop}
use lib.Seq.{take-append-le, drop-append-le, drop-append-add}
use Rattle.field.specs.Bytes.{part, be, bytes_be, Bytes}
use Rattle.field.proofs.Parts.{part_length, part-split}
use Rattle.field.proofs.Numbers.{digits_value, part_bytes}

-- in the first, from a place in the second on, from its start on, across both
pub part-first : (a b : List ℕ) (at n : ℕ) → at + n ≤ length a → part (a ++ b) at n ≡ part a at n
unfolding part
part-first a b at n h =
    ap (take n) (drop-append-le at a b (omega arith)) ∙ take-append-le n (drop at a) b (simp length-drop (omega arith))

pub part-past : (a b : List ℕ) (c at n : ℕ) → length a ≡ c → part (a ++ b) (c + at) n ≡ part b at n
unfolding part
part-past a b c at n e = rw (← e, drop-append-add)

pub part-second : (a b : List ℕ) (c n : ℕ) → length a ≡ c → part (a ++ b) c n ≡ part b 0 n
part-second a b c n e = rw add-zero at (part-past a b c 0 n e)

pub part-both : (a b : List ℕ) (at m n : ℕ) → at + m ≡ length a → part (a ++ b) at (m + n) ≡ part a at m ++ part b 0 n
part-both a b at m n e =
    part-split (a ++ b) at m n
    ∙ rw (part-first a b at m (omega arith)) (ap (λ (l : List ℕ). part a at m ++ l) (part-second a b (at + m) n (sym e)))

-- the bytes of a number that was read are those that were read
pub read-bytes : (xs : List ℕ) (at n : ℕ) → Bytes xs → at + n ≤ length xs → bytes_be n (be (part xs at n)) ≡ part xs at n
read-bytes xs at n b h = rw (part_length xs at n h) at (digits_value 256 (lit< tt) (part xs at n) (part_bytes xs at n b))
