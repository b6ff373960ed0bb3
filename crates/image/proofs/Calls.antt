-- THE MOVES AS CALLS: forward and then back writes the same bytes; back and then forward does so exactly when every seen
-- side's time was unknown; a refused move writes nothing; a move forward and a restore and save write the same bytes.
-- Assumes nothing.
use mathlib.Core.Path.{◌≡◌, refl, sym, ap, ◌∙◌}
use mathlib.Core.Bool.{Bool, true, false, cond}
use mathlib.Core.List.{List}
use Prim.Native.Nat.{ℕ, ◌≤◌}
use native.Mathlib.Omega.{arith}
use lib.Dec.{leb}
use lib.ListN.{length}
use borrow.Author.Tests.{le-leb, leb-true}
use Rattle.field.specs.Bytes.{part, overlay, Bytes}
use Rattle.field.proofs.Parts.{part-overlay}
use Rattle.image.specs.Shape.{welcome}
use Rattle.image.specs.Header.{header_of}
use Rattle.image.specs.Save.{Saving, saving, unsaved}
use Rattle.image.specs.Restore.{verdict_in}
use Rattle.image.specs.Moves.{wanted_by, version_after, moved_of, moved_by, move_of, AllUnknown}
use Rattle.image.specs.declared.Refusal.{Refusal}
use Rattle.image.specs.declared.Refusal.TheVariants.{ShortOutput}
use Rattle.std.specs.Prelude.{Result, Ok, Err}
use Rattle.image.specs.declared.Way.{Way}
use Rattle.image.specs.declared.Way.TheVariants.{Forward, Back}
use Rattle.image.proofs.Again.{Kept, kept}
use Rattle.image.proofs.Moved.{moved-size, moved-accepted, old-welcome, forward-then-back, unknown-then-same, same-then-unknown}

-- ---- what it means that an image was moved

pub record Went (way : Way) (image out : List ℕ) (n : ℕ) (z : List ℕ) : Type 0 where
  pub taken : verdict_in (wanted_by way) image ≡ Ok (tt {0})
  pub room : length image ≤ length out
  pub size : n ≡ length image
  pub bytes : z ≡ overlay out 0 (moved_of way image)

no_whole : {r : Refusal} {n : ℕ} {o z : List ℕ} {A : Type 0} → unsaved r o ≡ saving (Ok n) z → A
no_whole {r} {n} e = let y : Err r ≡ Ok n = ap (λ (s : Saving). s.answer) e in let x : ◌≡◌ {A = ℕ} 0 1 = cc in absurd (omega arith)

pub went : (way : Way) (image out : List ℕ) (n : ℕ) (z : List ℕ) → move_of way image out ≡ saving (Ok n) z → Went way image out n z
unfolding move_of moved_by
went way image out n z e = by (verdict_in (wanted_by way) image) refl e
  where
    room : (b : Bool) → leb (length image) (length out) ≡ b → verdict_in (wanted_by way) image ≡ Ok (tt {0})
        → cond b (saving (Ok (length image)) (overlay out 0 (moved_of way image))) (unsaved ShortOutput out) ≡ saving (Ok n) z → Went way image out n z
    room true g v f =
        let y : Ok (length image) ≡ Ok n = ap (λ (s : Saving). s.answer) f in
        record { taken = v; room = leb-true (length image) (length out) g; size = cc; bytes = sym (ap (λ (s : Saving). s.out) f) }
    room false g v f = no_whole f

    by : (v : Result (Unit {0}) Refusal) → verdict_in (wanted_by way) image ≡ v → moved_by v way image out ≡ saving (Ok n) z → Went way image out n z
    by (Ok u) v f = room (leb (length image) (length out)) refl v f
    by (Err r) v f = no_whole f

-- A REFUSED MOVE WRITES NOTHING
pub unmoved-leaves : (way : Way) (image out z : List ℕ) (r : Refusal) → move_of way image out ≡ saving (Err r) z → z ≡ out
unfolding move_of moved_by
unmoved-leaves way image out z r e = by (verdict_in (wanted_by way) image) e
  where
    room : (b : Bool) → cond b (saving (Ok (length image)) (overlay out 0 (moved_of way image))) (unsaved ShortOutput out) ≡ saving (Err r) z → z ≡ out
    room true f = let y : Ok (length image) ≡ Err r = ap (λ (s : Saving). s.answer) f in let x : ◌≡◌ {A = ℕ} 0 1 = cc in absurd (omega arith)
    room false f = sym (ap (λ (s : Saving). s.out) f)

    by : (v : Result (Unit {0}) Refusal) → moved_by v way image out ≡ saving (Err r) z → z ≡ out
    by (Ok u) f = room (leb (length image) (length out)) f
    by (Err q) f = sym (ap (λ (s : Saving). s.out) f)

-- an image that is taken, in an output that is long enough, is moved
pub moves : (way : Way) (image out : List ℕ) → verdict_in (wanted_by way) image ≡ Ok (tt {0}) → length image ≤ length out
    → move_of way image out ≡ saving (Ok (length image)) (overlay out 0 (moved_of way image))
unfolding move_of moved_by
moves way image out v l = rw (v, le-leb (length image) (length out) l)

-- ---- one call after the other

module _ (way again : Way) (image out out' z : List ℕ) (n : ℕ) (e : move_of way image out ≡ saving (Ok n) z) (l : length image ≤ length out')
    (w : welcome (wanted_by again) (version_after way (header_of image).board.rows) ≡ true) where
  k : Kept image
  k = (kept (wanted_by way) image (went way image out n z e).taken).0

  -- what the first call wrote
  wrote : part z 0 n ≡ moved_of way image
  wrote =
      let g = went way image out n z e in
      let s : length (moved_of way image) ≡ n = moved-size image k way ∙ sym g.size in
      ap (λ (x : List ℕ). part x 0 n) g.bytes ∙ ap (part (overlay out 0 (moved_of way image)) 0) (sym s) ∙ part-overlay out 0 (moved_of way image) (omega (arith, g.room, g.size))

  second : move_of again (part z 0 n) out' ≡ saving (Ok n) (overlay out' 0 (moved_of again (moved_of way image)))
  second =
      let g = went way image out n z e in
      let s : length (moved_of way image) ≡ n = moved-size image k way ∙ sym g.size in
      ap (λ (x : List ℕ). move_of again x out') wrote
      ∙ moves again (moved_of way image) out' (moved-accepted image k way (wanted_by again) w) (omega (arith, g.size))
      ∙ ap (λ (m : ℕ). saving (Ok m) (overlay out' 0 (moved_of again (moved_of way image)))) s

-- FORWARD THEN BACK WRITES THE SAME BYTES
pub forward-back-calls : (image out out' z : List ℕ) (n : ℕ) → Bytes image → move_of Forward image out ≡ saving (Ok n) z → length image ≤ length out'
    → move_of Back (part z 0 n) out' ≡ saving (Ok n) (overlay out' 0 image)
forward-back-calls image out out' z n b e l =
    second Forward Back image out out' z n e l refl
    ∙ ap (λ (x : List ℕ). saving (Ok n) (overlay out' 0 x)) (forward-then-back image b (went Forward image out n z e).taken)

-- BACK THEN FORWARD DOES SO EXACTLY WHEN EVERY SEEN SIDE'S TIME WAS UNKNOWN
module _ (image out out' z : List ℕ) (n : ℕ) (e : move_of Back image out ≡ saving (Ok n) z) (l : length image ≤ length out') where
  pub back-forward-calls : Bytes image → AllUnknown image → move_of Forward (part z 0 n) out' ≡ saving (Ok n) (overlay out' 0 image)
  back-forward-calls b u =
      second Back Forward image out out' z n e l (old-welcome (header_of image).board.rows)
      ∙ ap (λ (x : List ℕ). saving (Ok n) (overlay out' 0 x)) (unknown-then-same image b (went Back image out n z e).taken u)

  pub back-forward-only : move_of Forward (part z 0 n) out' ≡ saving (Ok n) (overlay out' 0 image) → AllUnknown image
  back-forward-only f =
      let t = (went Back image out n z e).taken in
      let k = (kept (wanted_by Back) image t).0 in
      let g : overlay out' 0 (moved_of Forward (moved_of Back image)) ≡ overlay out' 0 image
      = ap (λ (s : Saving). s.out) (sym (second Back Forward image out out' z n e l (old-welcome (header_of image).board.rows)) ∙ f) in
      let kb = (kept (wanted_by Forward) (moved_of Back image) (moved-accepted image k Back (wanted_by Forward) (old-welcome (header_of image).board.rows))).0 in
      let s : length (moved_of Forward (moved_of Back image)) ≡ length image = moved-size (moved_of Back image) kb Forward ∙ moved-size image k Back in
      same-then-unknown image t
      (sym (part-overlay out' 0 (moved_of Forward (moved_of Back image)) (omega arith)) ∙ ap (λ (x : List ℕ). part x 0 (length (moved_of Forward (moved_of Back image)))) g
      ∙ ap (part (overlay out' 0 image) 0) s ∙ part-overlay out' 0 image (omega arith))
