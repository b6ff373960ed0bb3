-- A run of writes, each next to the one before it, is one overlay of the pieces joined.
-- Assumes nothing.
use mathlib.Core.Path.{◌≡◌, refl, sym, ap, ◌∙◌}
use mathlib.Core.List.{List, [], ◌∷◌, ◌++◌}
use Prim.Native.Nat.{ℕ, ◌+◌, ◌≤◌}
use native.Mathlib.Nat.{add-zero, add_assoc}
use native.Mathlib.Omega.{arith}
use lib.ListN.{length, length-append}
use Rattle.field.specs.Bytes.{part, overlay}
use Rattle.field.proofs.Parts.{part_length, part-split, overlay-none, overlay-next, overlay-length}

pub record Piece : Type 0 where
  pub width : ℕ
  pub bytes : List ℕ

abbrev pub piece : ℕ → List ℕ → Piece
piece width bytes = record { width = width; bytes = bytes }

abbrev pub joined : List Piece → List ℕ
joined [] = []
joined (p ∷ ps) = p.bytes ++ joined ps

abbrev pub widths : List Piece → ℕ
widths [] = 0
widths (p ∷ ps) = p.width + widths ps

-- each piece is as wide as it says
abbrev pub Wide : List Piece → Type 0
Wide [] = Unit
Wide (p ∷ ps) = (length p.bytes ≡ p.width) × Wide ps

pub joined_length : (ps : List Piece) → Wide ps → length (joined ps) ≡ widths ps
joined_length [] s = refl
joined_length (p ∷ ps) s = rw (length-append, s.0, joined_length ps s.1)

-- the writes, as a function's calls show them: each list is the one before it with a piece laid over it, from `at + k` on
abbrev pub Run : List ℕ → ℕ → ℕ → List Piece → List ℕ → Type 0
Run xs at k [] zs = zs ≡ xs
Run xs at k (p ∷ ps) zs = (ys : List ℕ) × (ys ≡ overlay xs (at + k) p.bytes) × Run ys at (k + p.width) ps zs

run : (ps : List Piece) (xs : List ℕ) (at k : ℕ) (zs : List ℕ) → Wide ps → at + k + widths ps ≤ length xs → Run xs at k ps zs
    → zs ≡ overlay xs (at + k) (joined ps)
run [] xs at k zs s h r = r ∙ sym (overlay-none xs (at + k))
run (p ∷ ps) xs at k zs s h r =
    let e : length p.bytes ≡ p.width = s.0 in
    let l : length (joined ps) ≡ widths ps = joined_length ps s.1 in
    let i : at + (k + p.width) ≡ at + k + length p.bytes = omega arith in
    run ps r.0 at (k + p.width) zs s.1 (rw (r.1, overlay-length xs (at + k) p.bytes (omega arith)) (omega arith)) r.2
    ∙ ap (λ (y : List ℕ). overlay y (at + (k + p.width)) (joined ps)) r.1
    ∙ ap (λ (j : ℕ). overlay (overlay xs (at + k) p.bytes) j (joined ps)) i
    ∙ overlay-next xs (at + k) p.bytes (joined ps) (omega arith)

-- THE LAW OF A RUN, whose first piece stands at `at` itself
pub run-joined : (xs : List ℕ) (at : ℕ) (p : Piece) (ps : List Piece) {ys zs : List ℕ} → Wide (p ∷ ps) → at + widths (p ∷ ps) ≤ length xs
    → ys ≡ overlay xs at p.bytes → Run ys at p.width ps zs → zs ≡ overlay xs at (joined (p ∷ ps))
run-joined xs at p ps {ys} {zs} s h e r =
    let w : length p.bytes ≡ p.width = s.0 in
    let l : length (joined ps) ≡ widths ps = joined_length ps s.1 in
    run ps ys at p.width zs s.1 (rw (e, overlay-length xs at p.bytes (omega arith)) (omega arith)) r
    ∙ ap (λ (y : List ℕ). overlay y (at + p.width) (joined ps)) e
    ∙ ap (λ (j : ℕ). overlay (overlay xs at p.bytes) (at + j) (joined ps)) (sym w)
    ∙ overlay-next xs at p.bytes (joined ps) (omega arith)

-- ---- a run of copies, each from next to the one before it and to next to it, is one copy

-- the copies, as a function's calls show them
abbrev pub Carry : List ℕ → ℕ → List ℕ → ℕ → ℕ → List ℕ → List ℕ → Type 0
Carry s from xs at k [] zs = zs ≡ xs
Carry s from xs at k (w ∷ ws) zs = (ys : List ℕ) × (ys ≡ overlay xs (at + k) (part s (from + k) w)) × Carry s from ys at (k + w) ws zs

abbrev pub total : List ℕ → ℕ
total [] = 0
total (w ∷ ws) = w + total ws

carry-two : (s : List ℕ) (from : ℕ) (xs : List ℕ) (at m n : ℕ) {ys zs : List ℕ} → from + (m + n) ≤ length s → at + (m + n) ≤ length xs
    → ys ≡ overlay xs at (part s from m) → zs ≡ overlay ys (at + m) (part s (from + m) n) → zs ≡ overlay xs at (part s from (m + n))
carry-two s from xs at m n h g e f =
    let l : length (part s from m) ≡ m = part_length s from m (omega arith) in
    let k : length (part s (from + m) n) ≡ n = part_length s (from + m) n (omega arith) in
    f ∙ ap (λ (y : List ℕ). overlay y (at + m) (part s (from + m) n)) e
    ∙ ap (λ (j : ℕ). overlay (overlay xs at (part s from m)) (at + j) (part s (from + m) n)) (sym l)
    ∙ overlay-next xs at (part s from m) (part s (from + m) n) (omega arith)
    ∙ ap (overlay xs at) (sym (part-split s from m n))

-- THE LAW OF A RUN OF COPIES, of n bytes and then of the widths
pub carried-run : (s : List ℕ) (from : ℕ) (xs : List ℕ) (at n : ℕ) (ws : List ℕ) {ys zs : List ℕ} → from + (n + total ws) ≤ length s → at + (n + total ws) ≤ length xs
    → ys ≡ overlay xs at (part s from n) → Carry s from ys at n ws zs → zs ≡ overlay xs at (part s from (n + total ws))
carried-run s from xs at n [] h g e r = r ∙ e ∙ ap (λ (k : ℕ). overlay xs at (part s from k)) (sym (add-zero n))
carried-run s from xs at n (w ∷ ws) h g e r =
    carried-run s from xs at (n + w) ws (omega arith) (omega arith) (carry-two s from xs at n w (omega arith) (omega arith) e r.1) r.2
    ∙ ap (λ (k : ℕ). overlay xs at (part s from k)) (add_assoc n w (total ws))
