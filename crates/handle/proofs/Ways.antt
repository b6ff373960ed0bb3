-- What the code does, as the definitions say it: judged, read and written.
-- Assumes nothing.
use mathlib.Core.Path.{◌≡◌, refl, sym, ap, ◌∙◌}
use mathlib.Core.Bool.{Bool, true, false, ◌&&◌}
use mathlib.Core.List.{List, [], ◌∷◌, ◌++◌}
use Prim.Native.Nat.{ℕ, ◌≤◌}
use native.Mathlib.Omega.{arith}
use lib.Dec.{eqb, leb}
use lib.ListN.{length}
use borrow.Author.Tests.{eq-eqb, ne_eqb}
use mir.Val.{bool_byte}
use Rattle.field.specs.Bytes.{part, overlay, digits, be, bytes_be}
use Rattle.field.proofs.Parts.{part_length, overlay-next}
use Rattle.field.proofs.Numbers.{Lent, lent-bytes, rewrites}
use Rattle.field.proofs.Writes.{piece, run-joined}
use Rattle.message.specs.Layout.{values, keeps_all, bytes_for}
use Rattle.handle.specs.Handle.{handle_size, flag, is_handle, head_of, head_bytes, number_bytes, mark_bytes}
use Rattle.handle.specs.declared.Head.{Head}

-- ---- judged

pub no-handle : (bs : List ℕ) → (length bs ≡ handle_size → ⊥) → false ≡ is_handle bs
unfolding is_handle
no-handle bs h = rw (ne_eqb (length bs) handle_size h)

and-true : (b : Bool) → b ≡ b && true
and-true true = refl
and-true false = refl

pub flags-judged : (bs : List ℕ) {known logged ended : ℕ} → length bs ≡ handle_size
    → known ≡ be (part bs 42 1) → logged ≡ be (part bs 43 1) → ended ≡ be (part bs 44 1)
    → leb known 1 && (leb logged 1 && leb ended 1) ≡ is_handle bs
unfolding is_handle values keeps_all
flags-judged bs l a b c = rw (eq-eqb (length bs) handle_size l, a, b, c, ← and-true (leb (be (part bs 44 1)) 1))

-- the byte of a flag
byte-flag : (b : Bool) → bool_byte b ≡ flag b
byte-flag true = refl
byte-flag false = refl

-- ---- read

pub head_read : (bs : List ℕ) {session : List ℕ} {known logged next rows event live ended refusal used : ℕ} → length bs ≡ handle_size
    → session ≡ part bs 32 10 → known ≡ be (part bs 42 1) → logged ≡ be (part bs 43 1) → next ≡ be (part bs 0 8)
    → rows ≡ be (part bs 16 8) → event ≡ be (part bs 46 1) → live ≡ be (part bs 8 8)
    → ended ≡ be (part bs 44 1) → refusal ≡ be (part bs 45 1) → used ≡ be (part bs 24 8)
    → record {
      line = record { session = session; known = eqb known 1; logged = eqb logged 1; next = next };
      board = record { rows = rows; event = event; live = live };
      ended = eqb ended 1;
      refusal = refusal;
      used = used;
    } ≡ head_of bs
unfolding head_of values
head_read bs len s k l n r e v d f u =
    λ i. record {
      line = record { session = s i; known = eqb (k i) 1; logged = eqb (l i) 1; next = n i };
      board = record { rows = r i; event = e i; live = v i };
      ended = eqb (d i) 1;
      refusal = f i;
      used = u i;
    }

-- the next number and the session, copied one behind the other
pub login-copied : (bs out : List ℕ) {first after : List ℕ} → length bs ≡ handle_size → Lent bs → 18 ≤ length out
    → first ≡ overlay out 0 (part bs 0 8) → after ≡ overlay first 8 (part bs 32 10)
    → after ≡ overlay out 0 (bytes_be 8 (head_of bs).line.next ++ (head_of bs).line.session)
unfolding head_of values
login-copied bs out l k m e f =
    let w : length (part bs 0 8) ≡ 8 = part_length bs 0 8 (omega (arith, l)) in
    let t : length (part bs 32 10) ≡ 10 = part_length bs 32 10 (omega (arith, l)) in
    f ∙ ap (λ (x : List ℕ). overlay x 8 (part bs 32 10)) e
    ∙ (rw w at (overlay-next out 0 (part bs 0 8) (part bs 32 10) (omega (arith, w, t, m))))
    ∙ ap (λ (x : List ℕ). overlay out 0 (x ++ part bs 32 10)) (sym (rewrites 8 bs 0 (lent-bytes bs k) (omega (arith, l))))

-- single fields
module _ (bs : List ℕ) {v : ℕ} where
  pub next-read : v ≡ be (part bs 0 8) → v ≡ (head_of bs).line.next
  unfolding head_of values
  next-read e = e

  pub rows-read : v ≡ be (part bs 16 8) → v ≡ (head_of bs).board.rows
  unfolding head_of values
  rows-read e = e

  pub used-read : v ≡ be (part bs 24 8) → v ≡ (head_of bs).used
  unfolding head_of values
  used-read e = e

  pub logged-read : v ≡ be (part bs 43 1) → eqb v 1 ≡ (head_of bs).line.logged
  unfolding head_of values
  logged-read e = ap (λ (x : ℕ). eqb x 1) e

  pub ended-read : v ≡ be (part bs 44 1) → eqb v 1 ≡ (head_of bs).ended
  unfolding head_of values
  ended-read e = ap (λ (x : ℕ). eqb x 1) e

  pub refusal-read : v ≡ be (part bs 45 1) → v ≡ (head_of bs).refusal
  unfolding head_of values
  refusal-read e = e

-- ---- written

module _ (xs : List ℕ) (h : Head) (len : length xs ≡ handle_size) where
  pub numbers-put : {us vs ws zs : List ℕ} → us ≡ overlay xs 0 (bytes_be 8 h.line.next) → vs ≡ overlay us 8 (bytes_be 8 h.board.live)
      → ws ≡ overlay vs 16 (bytes_be 8 h.board.rows) → zs ≡ overlay ws 24 (bytes_be 8 h.used)
      → zs ≡ overlay xs 0 (number_bytes h)
  unfolding number_bytes bytes_for digits
  numbers-put {us} {vs} {ws} {zs} a b c d =
      run-joined xs 0 (piece 8 (bytes_be 8 h.line.next))
      (piece 8 (bytes_be 8 h.board.live) ∷ piece 8 (bytes_be 8 h.board.rows) ∷ piece 8 (bytes_be 8 h.used) ∷ [])
      (refl, (refl, (refl, (refl, tt)))) (omega arith) a (vs, b, (ws, c, (zs, d, refl)))

  pub marks-put : {known logged ended : ℕ} {us vs ws ys zs : List ℕ} → known ≡ bool_byte h.line.known → us ≡ overlay xs 42 (bytes_be 1 known)
      → logged ≡ bool_byte h.line.logged → vs ≡ overlay us 43 (bytes_be 1 logged) → ended ≡ bool_byte h.ended → ws ≡ overlay vs 44 (bytes_be 1 ended)
      → ys ≡ overlay ws 45 (bytes_be 1 h.refusal) → zs ≡ overlay ys 46 (bytes_be 1 h.board.event)
      → zs ≡ overlay xs 42 (mark_bytes h)
  unfolding mark_bytes bytes_for digits
  marks-put {known} {logged} {ended} {us} {vs} {ws} {ys} {zs} k a l b e c d f =
      run-joined xs 42 (piece 1 (bytes_be 1 (flag h.line.known)))
      (piece 1 (bytes_be 1 (flag h.line.logged)) ∷ piece 1 (bytes_be 1 (flag h.ended)) ∷ piece 1 (bytes_be 1 h.refusal) ∷ piece 1 (bytes_be 1 h.board.event) ∷ [])
      (refl, (refl, (refl, (refl, (refl, tt))))) (omega arith) (a ∙ ap (λ (n : ℕ). overlay xs 42 (bytes_be 1 n)) (k ∙ byte-flag h.line.known))
      (vs, b ∙ ap (λ (n : ℕ). overlay us 43 (bytes_be 1 n)) (l ∙ byte-flag h.line.logged), (ws, c ∙ ap (λ (n : ℕ). overlay vs 44 (bytes_be 1 n)) (e ∙ byte-flag h.ended), (ys, d, (zs, f, refl))))

  pub head-put : {us vs zs : List ℕ} → length h.line.session ≡ 10 → us ≡ overlay xs 0 (number_bytes h)
      → vs ≡ overlay us 32 h.line.session → zs ≡ overlay vs 42 (mark_bytes h)
      → zs ≡ overlay xs 0 (head_bytes h)
  unfolding head_bytes number_bytes mark_bytes bytes_for digits
  head-put {us} {vs} {zs} ten a b c =
      run-joined xs 0 (piece 32 (number_bytes h)) (piece 10 h.line.session ∷ piece 5 (mark_bytes h) ∷ [])
      (refl, (ten, (refl, tt))) (omega arith) a
      (vs, b, (zs, c, refl))
