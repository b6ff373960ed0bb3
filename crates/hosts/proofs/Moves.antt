-- MOVES OF SAVED TABLES, FOR A HOST IN C (W-209), by the answers and the bytes that it sees: forward and then back gives the same bytes; back and then forward does
-- so exactly when every seen side's time was unknown; and a refused move leaves the output.
-- Assumes nothing.
use mathlib.Core.Path.{◌≡◌, refl, sym, ap, ◌∙◌}
use mathlib.Core.List.{List}
use Prim.Native.Nat.{ℕ, ◌*◌, ◌≤◌, ◌<◌}
use native.Mathlib.Omega.{arith}
use lib.ListN.{length}
use Rattle.field.specs.Bytes.{part, overlay, Bytes}
use Rattle.image.specs.Save as images
use Rattle.image.specs.Save.{Saving, saving}
use Rattle.image.specs.Moves.{move_of, AllUnknown}
use Rattle.image.specs.declared.Refusal.{Refusal}
use Rattle.image.specs.declared.Refusal.TheVariants.{Unfit, BadLength, BadCheck, BadHead, BadContents, ShortOutput}
use Rattle.image.specs.declared.Way.{Way}
use Rattle.image.specs.declared.Way.TheVariants.{Forward, Back}
use Rattle.image.proofs.Calls.{forward-back-calls, back-forward-calls, back-forward-only, unmoved-leaves}
use Rattle.record.specs.Record.{Answered}
use Rattle.reader.specs.Saving.{written_of, written_by}
use Rattle.nelqubat.specs.Host.{saved_number, move_host, HostMoves}
use Rattle.std.specs.Prelude.{Err}
use Rattle.std.specs.Prelude.{Ok}
use Rattle.std.specs.Prelude.{Result}

-- ---- what an answer says

refusal-low : (r : Refusal) → (0 < images.refusal_number r) × (images.refusal_number r < 256)
refusal-low Unfit = (omega arith, omega arith)
refusal-low BadLength = (omega arith, omega arith)
refusal-low BadCheck = (omega arith, omega arith)
refusal-low BadHead = (omega arith, omega arith)
refusal-low BadContents = (omega arith, omega arith)
refusal-low ShortOutput = (omega arith, omega arith)

-- a count stands above the low byte, and a refusal in it
whole-if : (s : Result ℕ Refusal) (z : List ℕ) (n : ℕ) → n * 256 ≡ saved_number (written_of s z) → s ≡ Ok n
whole-if (Ok m) z n e = ap Ok (omega arith)
whole-if (Err r) z n e = absurd (omega (arith, refusal-low r))

whole-number : (n : ℕ) (z : List ℕ) → saved_number (written_of (Ok n) z) ≡ n * 256
whole-number n z = omega arith

low-whole : (n : ℕ) {a : ℕ} → a ≡ n * 256 → 0 < a → a < 256 → ⊥
low-whole n e some low = omega arith

written_out : (s : Result ℕ Refusal) (z : List ℕ) → (written_of s z).out ≡ z
written_out (Ok n) z = refl
written_out (Err r) z = refl

module _ (way : Way) (image out : List ℕ) (a : ℕ) (out' : List ℕ) (h : HostMoves way image out a out') where
  abbrev o : Saving
  o = move_of way image out

  number_is : a ≡ saved_number (written_of o.answer o.out)
  unfolding move_host
  number_is = ap (λ (x : Answered). x.number) h

  left_is : out' ≡ o.out
  unfolding move_host
  left_is = ap (λ (x : Answered). x.memory) h ∙ written_out o.answer o.out

  -- the answer 256 times n: n bytes were written
  went : (n : ℕ) → a ≡ n * 256 → move_of way image out ≡ saving (Ok n) out'
  went n e = ap (λ (s : Result ℕ Refusal). saving s o.out) (whole-if o.answer o.out n (sym e ∙ number_is)) ∙ ap (saving (Ok n)) (sym left_is)

  -- THEOREM: A REFUSED MOVE WRITES NOTHING
  pub refused-leaves : 0 < a → a < 256 → out' ≡ out
  refused-leaves some low = by o.answer refl
    where
      by : (s : Result ℕ Refusal) → o.answer ≡ s → out' ≡ out
      by (Ok n) e = absurd (low-whole n (number_is ∙ ap (λ (s : Result ℕ Refusal). saved_number (written_of s o.out)) e ∙ whole-number n o.out) some low)
      by (Err r) e = left_is ∙ unmoved-leaves way image out o.out r (ap (λ (s : Result ℕ Refusal). saving s o.out) e)

-- what a move of a known outcome answers
answers : (way : Way) (image out : List ℕ) (n : ℕ) (z : List ℕ) → move_of way image out ≡ saving (Ok n) z → (a : ℕ) (out' : List ℕ) → HostMoves way image out a out'
    → (a ≡ n * 256) × (out' ≡ z)
answers way image out n z e a out' h =
    (number_is way image out a out' h ∙ ap (λ (s : Saving). saved_number (written_by s)) e ∙ whole-number n z, left_is way image out a out' h ∙ ap (λ (s : Saving). s.out) e)

-- ---- one call after the other

module _ (image out : List ℕ) (n : ℕ) (out' next : List ℕ) (b : ℕ) (next' : List ℕ) (bytes : Bytes image) (room : length image ≤ length next) where
  -- THEOREM: FORWARD THEN BACK GIVES THE SAME BYTES
  pub forward-then-back : HostMoves Forward image out (n * 256) out' → HostMoves Back (part out' 0 n) next b next' → (b ≡ n * 256) × (next' ≡ overlay next 0 image)
  forward-then-back f g =
      answers Back (part out' 0 n) next n (overlay next 0 image)
      (forward-back-calls image out next out' n bytes (went Forward image out (n * 256) out' f n refl) room) b next' g

  -- THEOREM: BACK THEN FORWARD DOES SO EXACTLY WHEN every seen side's time was unknown
  module _ (f : HostMoves Back image out (n * 256) out') (g : HostMoves Forward (part out' 0 n) next b next') where
    pub back-then-forward : AllUnknown image → (b ≡ n * 256) × (next' ≡ overlay next 0 image)
    back-then-forward u =
        answers Forward (part out' 0 n) next n (overlay next 0 image)
        (back-forward-calls image out next out' n (went Back image out (n * 256) out' f n refl) room bytes u) b next' g

    pub only_then : b ≡ n * 256 → next' ≡ overlay next 0 image → AllUnknown image
    only_then e i =
        back-forward-only image out next out' n (went Back image out (n * 256) out' f n refl) room
        (went Forward (part out' 0 n) next b next' g n e ∙ ap (saving (Ok n)) i)
