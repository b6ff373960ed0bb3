-- The laws of changes to a row: what they leave, and what they put.
-- Assumes nothing.
use mathlib.Core.Path.{◌≡◌, refl, ◌∙◌}
use mathlib.Core.Bool.{Bool, true, false, ◌&&◌, ◌||◌}
use mathlib.Core.List.{List, [], ◌∷◌, ◌++◌}
use Prim.Native.Nat.{ℕ, ◌+◌, ◌≤◌}
use native.Mathlib.Omega.{arith}
use borrow.Author.Tests.{leb-true}
use lib.Dec.{leb}
use lib.ListN.{length}
use Rattle.field.specs.Bytes.{part, overlay}
use Rattle.field.proofs.Bools.{both_left, both_right}
use Rattle.field.proofs.Parts.{part-before, part-after, part-overlay, overlay-length}
use Rattle.row.specs.Changes.{Change, changed, places, outside}

-- each change is as wide as it says
abbrev pub Wide : List Change → Type 0
Wide [] = Unit
Wide (c ∷ cs) = (length c.bytes ≡ c.width) × Wide cs

-- and lies in the first n bytes
unfoldable pub inside : ℕ → List Change → Bool
inside n [] = true
inside n (c ∷ cs) = leb (c.at + c.width) n && inside n cs

pub either : (a b : Bool) {A : Type 0} → a || b ≡ true → (a ≡ true → A) → (b ≡ true → A) → A
either true b e f g = f refl
either false b e f g = g e

module _ (c : Change) (cs : List Change) (r : List ℕ) (n : ℕ) (w : length c.bytes ≡ c.width) (long : n ≤ length r)
    (fits : inside n (c ∷ cs) ≡ true) where
  here : c.at + length c.bytes ≤ length r
  unfolding inside
  here = omega (arith, leb-true (c.at + c.width) n (both_left (leb (c.at + c.width) n) (inside n cs) fits))

  on : inside n cs ≡ true
  unfolding inside
  on = both_right (leb (c.at + c.width) n) (inside n cs) fits

  still-long : n ≤ length (overlay r c.at c.bytes)
  still-long = omega (arith, overlay-length r c.at c.bytes here)

  apart : (i m : ℕ) → leb (i + m) c.at || leb (c.at + c.width) i ≡ true → part (overlay r c.at c.bytes) i m ≡ part r i m
  apart i m o =
      either (leb (i + m) c.at) (leb (c.at + c.width) i) o
      (λ e. part-before r c.at c.bytes here i m (leb-true (i + m) c.at e))
      (λ e. part-after r c.at c.bytes here i m (omega (arith, leb-true (c.at + c.width) i e)))

  put : part (overlay r c.at c.bytes) c.at c.width ≡ c.bytes
  put = rw w at (part-overlay r c.at c.bytes here)

pub changed-length : (cs : List Change) (r : List ℕ) (n : ℕ) → Wide cs → n ≤ length r → inside n cs ≡ true → length (changed cs r) ≡ length r
unfolding changed
changed-length [] r n w l f = refl
changed-length (c ∷ cs) r n w l f =
    changed-length cs (overlay r c.at c.bytes) n w.1 (still-long c cs r n w.0 l f) (on c cs r n w.0 l f)
    ∙ overlay-length r c.at c.bytes (here c cs r n w.0 l f)

-- THE BYTES OUTSIDE OF THE CHANGED PLACES ARE AS THEY WERE
pub part-kept : (cs : List Change) (r : List ℕ) (n i m : ℕ) → Wide cs → n ≤ length r → inside n cs ≡ true → outside i m (places cs) ≡ true
    → part (changed cs r) i m ≡ part r i m
unfolding changed outside
part-kept [] r n i m w l f o = refl
part-kept (c ∷ cs) r n i m w l f o =
    part-kept cs (overlay r c.at c.bytes) n i m w.1 (still-long c cs r n w.0 l f) (on c cs r n w.0 l f)
    (both_right (leb (i + m) c.at || leb (c.at + c.width) i) (outside i m (places cs)) o)
    ∙ apart c cs r n w.0 l f i m (both_left (leb (i + m) c.at || leb (c.at + c.width) i) (outside i m (places cs)) o)

-- a change puts its bytes, where no later one touches them
pub part-put : (before : List Change) (c : Change) (after : List Change) (r : List ℕ) (n : ℕ) → Wide (before ++ (c ∷ after)) → n ≤ length r
    → inside n (before ++ (c ∷ after)) ≡ true → outside c.at c.width (places after) ≡ true
    → part (changed (before ++ (c ∷ after)) r) c.at c.width ≡ c.bytes
unfolding changed
part-put [] c after r n w l f o =
    part-kept after (overlay r c.at c.bytes) n c.at c.width w.1 (still-long c after r n w.0 l f) (on c after r n w.0 l f) o
    ∙ put c after r n w.0 l f
part-put (b ∷ before) c after r n w l f o =
    part-put before c after (overlay r b.at b.bytes) n w.1 (still-long b (before ++ (c ∷ after)) r n w.0 l f)
    (on b (before ++ (c ∷ after)) r n w.0 l f) o
