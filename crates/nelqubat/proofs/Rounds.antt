-- Two answers that meet the promise of starting or restoring are equal.
-- Assumes nothing.
use mathlib.Core.Path.{◌≡◌, sym, ap, ◌∙◌}
use mathlib.Core.List.{List}
use Prim.Native.Nat.{ℕ}
use Rattle.table.specs.Memory.{memories}
use Rattle.reader.specs.Handles.{Left, left}

-- and so are the handle, the table and the index that they leave (W-207)
pub equal-left : (p : Left) (a b : ℕ) (h i s t x y : List ℕ) → left a h (memories s x) ≡ p → left b i (memories t y) ≡ p
    → (a ≡ b) × (h ≡ i) × (s ≡ t) × (x ≡ y)
equal-left p a b h i s t x y e f =
    let g = e ∙ sym f in
    (ap (λ (z : Left). z.number) g, ap (λ (z : Left). z.handle) g, ap (λ (z : Left). z.memory.table) g, ap (λ (z : Left). z.memory.index) g)
