-- The first character that fails a test is where the leading ones that pass it end.
-- Assumes nothing.
use Rattle.std.proofs.Common.{◌≡◌, refl, ◌∙◌, ℕ, ◌+◌, ◌≤◌, Bool, not, List, [], ◌∷◌, length, arith}
use Rattle.std.specs.Prelude.{unwrap_or}
use Rattle.std.specs.List.{position_from}
use Rattle.field.specs.Text.{leading}
use Rattle.field.specs.Bytes.{part}
use Rattle.field.proofs.Parts.{part_length}

pub lead_at : (p : ℕ → Bool) (i : ℕ) (xs : List ℕ) → unwrap_or (position_from (λ c. not (p c)) i xs) (i + length xs) ≡ i + leading p xs
unfolding leading
lead_at p i [] = refl
lead_at p i (x ∷ xs) = grind (arith, lead_at p (i + 1) xs)

pub run_leads : (p : ℕ → Bool) (xs : List ℕ) (n : ℕ) → length xs ≡ n → unwrap_or (position_from (λ c. not (p c)) 0 xs) n ≡ leading p xs
run_leads p xs n e = grind (arith, lead_at p 0 xs)

pub lead_most : (p : ℕ → Bool) (xs : List ℕ) → leading p xs ≤ length xs
unfolding leading
lead_most p [] = omega arith
lead_most p (x ∷ xs) = grind (arith, lead_most p xs)

-- as the code reads it
pub lead_of : (p : ℕ → Bool) (s : List ℕ) (at n : ℕ) {r : ℕ} → at + n ≤ length s
    → r ≡ unwrap_or (position_from (λ c. not (p c)) 0 (part s at n)) n → (r ≡ leading p (part s at n)) × (r ≤ n)
lead_of p s at n h e =
    let l = part_length s at n h in
    let f = e ∙ run_leads p (part s at n) n l in
    (f, omega (arith, f, l, lead_most p (part s at n)))
