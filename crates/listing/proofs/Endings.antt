-- How a listing ends, by what stands in the handle.
-- Assumes nothing.
use mathlib.Core.Path.{◌≡◌}
use mathlib.Core.Bool.{Bool, true, false}
use Prim.Native.Nat.{ℕ}
use borrow.Author.Tests.{eq-eqb, ne_eqb}
use Rattle.listing.specs.Lines.{ending_of}
use Rattle.listing.specs.declared.Ending.TheVariants.{RanOut, Ended, Refused}

module _ (refusal : ℕ) (end : Bool) where
  pub ends-refused : (refusal ≡ 0 → ⊥) → Refused refusal ≡ ending_of refusal end
  ends-refused d = rw (ne_eqb refusal 0 d)

  pub ends-ended : refusal ≡ 0 → end ≡ true → Ended ≡ ending_of refusal end
  ends-ended e f = rw (eq-eqb refusal 0 e, f)

  pub ends_open : refusal ≡ 0 → end ≡ false → RanOut ≡ ending_of refusal end
  ends_open e f = rw (eq-eqb refusal 0 e, f)
