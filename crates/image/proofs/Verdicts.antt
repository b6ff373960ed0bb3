-- Refusals: the lowest number wins, nothing is written, and answers are equal.
-- Assumes nothing.
use mathlib.Core.Path.{◌≡◌, sym, ap}
use mathlib.Core.Bool.{Bool, true, false, ◌&&◌, cond, and-false}
use mathlib.Core.List.{List}
use Prim.Native.Nat.{ℕ, ◌*◌, ◌<◌}
use native.Mathlib.Omega.{arith}
use lib.Dec.{leb}
use lib.ListN.{length}
use Rattle.field.specs.Bytes.{overlay}
use Rattle.field.specs.Limits.{number_in_range}
use Rattle.field.proofs.Answers.{equal-answers}
use Rattle.block.specs.Block.{block_size, check_keeps}
use Rattle.row.specs.Rules.{newest}
use Rattle.table.specs.Memory.{is_table}
use Rattle.table.specs.Rules.{rows_keep}
use Rattle.image.specs.Shape.{version_fits, welcome}
use Rattle.image.specs.Header.{fresh_header, within_limits, header_keeps, header_of}
use Rattle.image.specs.Save.{image_of, size_for, Saving, saving, unsaved, save_of}
use Rattle.image.specs.Restore.{count_of, length_keeps, checks_keep, head_keeps, heads_keep, version_of, verdict_in, verdict_of, Restoring, restored, restoring, restored_by, restore_of}
use Rattle.image.specs.declared.Header.{Header}
use Rattle.image.specs.declared.Refusal.{Refusal}
use Rattle.image.specs.declared.Refusal.TheVariants.{Unfit, BadCheck, BadHead, BadContents, ShortOutput}
use Rattle.std.specs.Prelude.{Result, Ok, Err}
use Rattle.image.specs.declared.Restored.{Restored}
use Rattle.image.specs.declared.Wanted.{Wanted}
use Rattle.image.proofs.Below.{below-stop}

-- ---- when several blocks are bad, the lowest number is given

module _ (image : List ℕ) (size : length_keeps image ≡ true) (k : ℕ) (there : k < count_of image) where
  -- one wrong check anywhere is 22, whatever else is wrong
  pub bad-check : check_keeps image (k * block_size) ≡ false → verdict_of image ≡ Err BadCheck
  unfolding verdict_in checks_keep
  bad-check e = rw (size, ← below-stop (λ (j : ℕ). check_keeps image (j * block_size)) k (count_of image) there e)

  -- one wrong head anywhere is 23 where every check is right
  pub bad-head : checks_keep image (count_of image) ≡ true → number_in_range (header_of image).next && version_fits (version_of image) (header_of image).board.rows ≡ true
      → head_keeps image (count_of image) (header_of image) k ≡ false → verdict_of image ≡ Err BadHead
  unfolding verdict_in heads_keep
  bad-head c n e = rw (size, c, n, ← below-stop (head_keeps image (count_of image) (header_of image)) k (count_of image) there e)

-- a next number outside 1 to 10 ^ 12 is 23 where every check is right
pub bad-next : (image : List ℕ) → length_keeps image ≡ true → checks_keep image (count_of image) ≡ true → number_in_range (header_of image).next ≡ false
    → verdict_of image ≡ Err BadHead
unfolding verdict_in heads_keep
bad-next image size c n = rw (size, c, n)

-- and so is a version that does not fit the rows, or that the call does not take, whatever the contents are
module _ (wanted : Wanted) (image : List ℕ) (size : length_keeps image ≡ true) (checks : checks_keep image (count_of image) ≡ true) where
  pub bad-version : version_fits (version_of image) (header_of image).board.rows ≡ false → verdict_in wanted image ≡ Err BadHead
  unfolding verdict_in heads_keep
  bad-version v = rw (size, checks, v, and-false (number_in_range (header_of image).next))

  pub unwelcome : welcome wanted (version_of image) ≡ false → verdict_in wanted image ≡ Err BadHead
  unfolding verdict_in
  unwelcome w = rw (size, checks, w, and-false (heads_keep image (count_of image) (header_of image)))

-- ---- what a refusal leaves

left-if : (a b c : Bool) (n : ℕ) (w out z : List ℕ) (r : Refusal)
    → cond a (cond b (cond c (saving (Ok n) w) (unsaved ShortOutput out)) (unsaved BadContents out)) (unsaved Unfit out) ≡ saving (Err r) z → z ≡ out
left-if true true true n w out z r e =
    let y : Ok n ≡ Err r = ap (λ (s : Saving). s.answer) e in let x : ◌≡◌ {A = ℕ} 0 1 = cc in absurd (omega arith)
left-if true true false n w out z r e = sym (ap (λ (s : Saving). s.out) e)
left-if true false c n w out z r e = sym (ap (λ (s : Saving). s.out) e)
left-if false b c n w out z r e = sym (ap (λ (s : Saving). s.out) e)

-- A REFUSED SAVING WRITES NOTHING
pub unsaved-leaves : (h : Header) (mem out z : List ℕ) (r : Refusal) → save_of h mem out ≡ saving (Err r) z → z ≡ out
unfolding save_of
unsaved-leaves h mem out z r e =
    left-if (within_limits h mem) (header_keeps h && rows_keep newest h.board.rows mem) (leb (size_for h.board.rows) (length out))
    (size_for h.board.rows) (overlay out 0 (image_of h mem)) out z r e

refused-by : (v : Result (Unit {0}) Refusal) (image mem z : List ℕ) (h : Header) (r : Refusal) → restored_by v image mem ≡ restoring (restored (Err r) h) z → (h ≡ fresh_header) × (z ≡ mem)
unfolding restored_by
refused-by (Ok u) image mem z h r e =
    let y : (Ok (tt {0})) ≡ Err r = ap (λ (s : Restoring). s.answer.verdict) e in let x : ◌≡◌ {A = ℕ} 0 1 = cc in absurd (omega arith)
refused-by (Err q) image mem z h r e = (sym (ap (λ (s : Restoring). s.answer.header) e), sym (ap (λ (s : Restoring). s.memory) e))

-- A REFUSED RESTORING LEAVES TABLE MEMORY, and its header is that of a fresh reader
pub refused-leaves : (image mem z : List ℕ) (h : Header) (r : Refusal) → restore_of image mem ≡ restoring (restored (Err r) h) z → (h ≡ fresh_header) × (z ≡ mem)
unfolding restore_of
refused-leaves image mem z h r e = refused-by (cond (is_table mem) (verdict_of image) (Err Unfit)) image mem z h r e

-- ---- equal answers

pub equal-saves : {a b : Result ℕ Refusal} {y z : List ℕ} {s : Saving} → saving a y ≡ s → saving b z ≡ s → (a ≡ b) × (y ≡ z)
equal-saves e f =
    let g = equal-answers e f in (ap (λ (s : Saving). s.answer) g, ap (λ (s : Saving). s.out) g)

pub equal-restores : {a b : Restored} {y z : List ℕ} {s : Restoring} → restoring a y ≡ s → restoring b z ≡ s → (a ≡ b) × (y ≡ z)
equal-restores e f =
    let g = equal-answers e f in (ap (λ (s : Restoring). s.answer) g, ap (λ (s : Restoring). s.memory) g)
