-- What is said of a move is what its promise says, and the moved bytes lie in the output.
-- Assumes nothing.
use mathlib.Core.Path.{◌≡◌, refl, sym, ap, ◌∙◌}
use mathlib.Core.List.{List}
use Prim.Native.Nat.{ℕ, ◌≤◌}
use native.Mathlib.Omega.{arith}
use lib.ListN.{length, take}
use Rattle.field.specs.Bytes.{part, be, overlay}
use Rattle.field.proofs.Parts.{overlay-length, part-overlay}
use Rattle.block.specs.Block.{block_size, head_at}
use Rattle.block.specs.declared.Head.{Head}
use Rattle.image.specs.Header.{header_of}
use Rattle.image.specs.Save.{Saving, saving, refusal_number}
use Rattle.image.specs.Restore.{version_of}
use Rattle.image.specs.Moves.{wanted_by, moved_of, move_of, lost_of}
use Rattle.image.specs.declared.Refusal.{Refusal}
use Rattle.image.specs.declared.Way.{Way}
use Rattle.image.proofs.Again.{Kept, kept}
use Rattle.image.proofs.Moved.{moved-size, moved-header, moved-version}
use Rattle.image.proofs.Calls.{Went, went}
use Rattle.topmove.specs.Moving.{facts_of, moved_from, outcome_of}
use Rattle.topmove.specs.declared.moving.Moved.{Moved}
use Rattle.std.specs.Prelude.{Result, Ok, Err}

-- the move by its way
pub by_way : {way v : Way} {s : Saving} (image out : List ℕ) → way ≡ v → s ≡ move_of v image out → s ≡ move_of way image out
by_way image out e p = p ∙ ap (λ (w : Way). move_of w image out) (sym e)

-- ---- what is read off the moved bytes

pub facts-read : (image moved : List ℕ) {h : Head} {rows lost : ℕ} → h ≡ head_at moved 0 → rows ≡ be (part moved 26 2) → lost ≡ lost_of image
    → ◌≡◌ {A = Moved} (record { size = length moved; version = h.version; rows = rows; lost = lost }) (facts_of image moved)
unfolding facts_of version_of header_of
facts-read image moved e f g i = record { size = length moved; version = (e i).version; rows = f i; lost = g i }

-- is what the image says, moved
facts-moved : (way : Way) (image : List ℕ) → Kept image → facts_of image (moved_of way image) ≡ moved_from way image
unfolding facts_of moved_from
facts-moved way image k i =
    record {
      size = moved-size image k way i;
      version = moved-version image k way i;
      rows = (moved-header image k way i).board.rows;
      lost = lost_of image;
    }

-- ---- the answer of a move

module _ (way : Way) (image out : List ℕ) {r : Result ℕ Refusal} {z : List ℕ} (e : saving r z ≡ move_of way image out) where
  pub written : z ≡ (move_of way image out).out
  written = ap (λ (s : Saving). s.out) e

  module _ (n : ℕ) (w : r ≡ Ok n) where
    done : Went way image out n z
    done = went way image out n z (sym e ∙ ap (λ (a : Result ℕ Refusal). saving a z) w)

    image-kept : Kept image
    image-kept = (kept (wanted_by way) image done.taken).0

    size_is : length (moved_of way image) ≡ n
    size_is = moved-size image image-kept way ∙ sym done.size

    pub inside : n ≤ length z
    inside =
        let l : length (moved_of way image) ≤ length out = omega (arith, size_is, done.size, done.room) in
        omega (arith, ap length done.bytes, overlay-length out 0 (moved_of way image) (omega arith), done.size, done.room)

    front-is : take n z ≡ moved_of way image
    unfolding part
    front-is =
        ap (λ (x : List ℕ). part x 0 n) done.bytes ∙ ap (part (overlay out 0 (moved_of way image)) 0) (sym size_is)
        ∙ part-overlay out 0 (moved_of way image) (omega (arith, size_is, done.size, done.room))

    pub front-block : block_size ≤ length (take n z)
    front-block = omega (arith, ap length front-is, size_is, image-kept.size.some, done.size)

    pub said : {m : Moved} → m ≡ facts_of image (take n z) → ◌≡◌ {A = Result Moved ℕ} (Ok m) (outcome_of way image (move_of way image out).answer)
    unfolding outcome_of
    said f =
        ap Ok (f ∙ ap (facts_of image) front-is ∙ facts-moved way image image-kept) ∙ ap (outcome_of way image) (sym w ∙ ap (λ (s : Saving). s.answer) e)

  pub refused : (q : Refusal) {number : ℕ} → r ≡ Err q → number ≡ refusal_number q → ◌≡◌ {A = Result Moved ℕ} (Err number) (outcome_of way image (move_of way image out).answer)
  unfolding outcome_of
  refused q w f = ap Err f ∙ ap (outcome_of way image) (sym w ∙ ap (λ (s : Saving). s.answer) e)

-- ---- the bytes of which it is said

module _ (way : Way) (image out : List ℕ) {o : Result Moved ℕ} {z : List ℕ} (m : Moved) (p : o ≡ Ok m) (e : o ≡ outcome_of way image (move_of way image out).answer)
    (f : z ≡ (move_of way image out).out) where
  pub moved_inside : m.size ≤ length z
  unfolding outcome_of moved_from
  moved_inside = by (move_of way image out).answer refl (sym e ∙ p)
    where
      by : (s : Result ℕ Refusal) → (move_of way image out).answer ≡ s → outcome_of way image s ≡ Ok m → m.size ≤ length z
      by (Ok n) a g =
          let is : saving (Ok n) z ≡ move_of way image out = λ j. saving (sym a j) (f j) in
          let y : moved_from way image ≡ m = cc in
          omega (arith, inside way image out is n refl, (done way image out is n refl).size, ap (λ (x : Moved). x.size) y)
      by (Err q) a g = let x : ◌≡◌ {A = ℕ} 0 1 = cc in absurd (omega arith)
