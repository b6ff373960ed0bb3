-- A block's check, put in its place and tested.
-- Assumes nothing.
use mathlib.Core.Path.{◌≡◌, ap, ◌∙◌}
use mathlib.Core.List.{List}
use Prim.Native.Nat.{ℕ, ◌+◌, ◌<◌}
use native.Mathlib.Omega.{arith}
use lib.Dec.{eqb}
use Rattle.field.specs.Bytes.{part, overlay, be, bytes_be}
use Rattle.block.specs.Block.{checked_size, check_of, check_keeps}

-- the check has room in two bytes
pub check-below : (bs : List ℕ) → check_of bs < 65_536
unfolding check_of
check-below bs = omega arith

pub check-put : (xs : List ℕ) (at sum : ℕ) {zs : List ℕ} → sum ≡ check_of (part xs at checked_size)
    → zs ≡ overlay xs (at + checked_size) (bytes_be 2 sum) → zs ≡ overlay xs (at + checked_size) (bytes_be 2 (check_of (part xs at checked_size)))
check-put xs at sum e f = f ∙ ap (λ (v : ℕ). overlay xs (at + checked_size) (bytes_be 2 v)) e

pub check-test : (bs : List ℕ) (at : ℕ) {there sum : ℕ} → there ≡ be (part bs (at + checked_size) 2) → sum ≡ check_of (part bs at checked_size)
    → eqb there sum ≡ check_keeps bs at
unfolding check_keeps
check-test bs at e f = rw (e, f)
