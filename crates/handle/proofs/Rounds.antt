-- THE ROUND TRIPS: a head that was laid over a handle is read back, and the head of a handle, laid over it, changes nothing.
-- Assumes nothing.
use mathlib.Core.Path.{◌≡◌, refl, sym, ap, ◌∙◌}
use mathlib.Core.Bool.{Bool, true, false, ◌&&◌}
use mathlib.Core.List.{List, [], ◌∷◌, ◌++◌}
use Prim.Native.Nat.{ℕ, zero, suc, ◌+◌, ◌%◌, ◌^◌, ◌≤◌, ◌<◌}
use native.Mathlib.Nat.{zero-add}
use native.Mathlib.Omega.{arith}
use lib.Dec.{eqb, lit<}
use lib.ListN.{length, drop, length-append}
use lib.Seq.{take_at}
use borrow.Author.Tests.{eq-eqb, eqb-true, leb-true}
use Rattle.field.specs.Bytes.{part, overlay, be, bytes_be, Bytes}
use Rattle.field.proofs.Bools.{both_left, both_right}
use Rattle.field.proofs.Parts.{part_length, overlay-length, overlay-own}
use Rattle.field.proofs.Numbers.{digits-length, digits_mod, part_bytes, part-below}
use Rattle.message.specs.Layout.{num, raw, Row, row, values, keeps_all, bytes_for, tiled, Fit}
use Rattle.message.proofs.Layouts.{rows_in, values-back, written_back, values-in-part}
use Rattle.handle.specs.Handle.{head_size, handle_size, is_flag, flag, is_set, head_rows, head_fields, head_from, is_handle, head_of, head_bytes}
use Rattle.handle.specs.declared.Head.{Head}

-- the values of a head have room in their fields, as those of every head that the code holds have
pub record HeadFits (h : Head) : Type 0 where
  pub session : length h.line.session ≡ 10
  pub next : h.line.next < 256 ^ 8
  pub live : h.board.live < 256 ^ 8
  pub rows : h.board.rows < 256 ^ 8
  pub used : h.used < 256 ^ 8
  pub refusal : h.refusal < 256
  pub event : h.board.event < 256

-- ---- flags

flag-fits : (b : Bool) → flag b < 256
flag-fits true = lit< tt
flag-fits false = lit< tt

flag_is : (b : Bool) → is_flag (flag b) ≡ true
flag_is true = refl
flag_is false = refl

flag-set : (b : Bool) → is_set (flag b) ≡ b
flag-set true = refl
flag-set false = refl

set-flag : (n : ℕ) → is_flag n ≡ true → flag (is_set n) ≡ n
set-flag zero h = refl
set-flag (suc zero) h = refl
set-flag (suc (suc n)) h = absurd (omega (arith, leb-true (suc (suc n)) 1 h))

-- ---- the layout

in_place : tiled 0 head_rows head_size ≡ true
unfolding tiled
in_place = refl

-- the head's fields lie in the first 47 bytes
front : (bs : List ℕ) → values head_rows (part bs 0 head_size) ≡ values head_rows bs
unfolding rows_in
front bs = values-in-part 0 head_size head_rows bs refl

fields_fit : (h : Head) → HeadFits h → Fit head_rows (head_fields h)
fields_fit h f =
    (f.next, (f.live, (f.rows, (f.used, (f.session, (flag-fits h.line.known, (flag-fits h.line.logged, (flag-fits h.ended, (f.refusal, (f.event, tt))))))))))

fields_keep : (h : Head) → keeps_all head_rows (head_fields h) ≡ true
unfolding keeps_all
fields_keep h = rw (flag_is h.line.known, flag_is h.line.logged, flag_is h.ended)

from_fields : (h : Head) → head_from (head_fields h) ≡ h
from_fields h i =
    record {
      line = record {
        session = h.line.session;
        known = flag-set h.line.known i;
        logged = flag-set h.line.logged i;
        next = h.line.next;
      };
      board = h.board;
      ended = flag-set h.ended i;
      refusal = h.refusal;
      used = h.used;
    }

-- ---- a head's bytes

module _ (h : Head) (ten : length h.line.session ≡ 10) where
  pub head-length : length (head_bytes h) ≡ head_size
  unfolding head_bytes bytes_for
  head-length = simp (length-append, digits-length, ten)

  head_first : (rest : List ℕ) → part (head_bytes h ++ rest) 0 head_size ≡ head_bytes h
  unfolding part
  head_first rest = take_at (head_bytes h) rest head_size head-length

  -- laid over a handle, they stand before what was behind the old ones
  pub head-before : (bs : List ℕ) → overlay bs 0 (head_bytes h) ≡ head_bytes h ++ drop head_size bs
  unfolding overlay
  head-before bs = rw (zero-add, head-length)

fields_back : (h : Head) → HeadFits h → (rest : List ℕ) → values head_rows (head_bytes h ++ rest) ≡ head_fields h
unfolding head_bytes
fields_back h f rest =
    sym (front (head_bytes h ++ rest)) ∙ ap (values head_rows) (head_first h f.session rest)
    ∙ values-back head_rows (head_fields h) [] 0 head_size in_place (fields_fit h f) (fields_keep h) refl

-- A HEAD COMES BACK FROM ITS BYTES, whatever stands behind them
pub head-back : (h : Head) → HeadFits h → (rest : List ℕ) → head_of (head_bytes h ++ rest) ≡ h
unfolding head_of
head-back h f rest = ap head_from (fields_back h f rest) ∙ from_fields h

-- ---- a head over a handle

-- only the low bytes of each number count
abbrev trimmed : Head → Head
trimmed h =
    record {
      line = record { session = h.line.session; known = h.line.known; logged = h.line.logged; next = h.line.next % 256 ^ 8 };
      board = record { rows = h.board.rows % 256 ^ 8; event = h.board.event % 256 ^ 1; live = h.board.live % 256 ^ 8 };
      ended = h.ended;
      refusal = h.refusal % 256 ^ 1;
      used = h.used % 256 ^ 8;
    }

trimmed-fits : (h : Head) → length h.line.session ≡ 10 → HeadFits (trimmed h)
trimmed-fits h ten =
    record {
      session = ten;
      next = omega arith;
      live = omega arith;
      rows = omega arith;
      used = omega arith;
      refusal = omega arith;
      event = omega arith;
    }

trimmed-bytes : (h : Head) → head_bytes (trimmed h) ≡ head_bytes h
unfolding head_bytes bytes_for
trimmed-bytes h =
    let low : (w v : ℕ) → bytes_be w (v % 256 ^ w) ≡ bytes_be w v = digits_mod 256 (lit< tt) in
    λ i.
    low 8 h.line.next i
    ++ (low 8 h.board.live i
    ++ (low 8 h.board.rows i
    ++ (low 8 h.used i
    ++ (h.line.session
    ++ (bytes_be 1 (flag h.line.known)
    ++ (bytes_be 1 (flag h.line.logged) ++ (bytes_be 1 (flag h.ended) ++ (low 1 h.refusal i ++ (low 1 h.board.event i ++ [])))))))))

module _ (h : Head) (ten : length h.line.session ≡ 10) (bs : List ℕ) (size : length bs ≡ handle_size) where
  room : 0 + length (head_bytes h) ≤ length bs
  room = omega (arith, head-length h ten)

  pub put-length : length (overlay bs 0 (head_bytes h)) ≡ handle_size
  put-length = overlay-length bs 0 (head_bytes h) room ∙ size

  -- BYTES WITH A HEAD ARE A HANDLE
  pub still-handle : is_handle (overlay bs 0 (head_bytes h)) ≡ true
  unfolding is_handle
  still-handle =
      let e : overlay bs 0 (head_bytes h) ≡ head_bytes (trimmed h) ++ drop head_size bs
      = head-before h ten bs ∙ ap (λ (l : List ℕ). l ++ drop head_size bs) (sym (trimmed-bytes h)) in
      let v : values head_rows (overlay bs 0 (head_bytes h)) ≡ head_fields (trimmed h)
      = ap (values head_rows) e ∙ fields_back (trimmed h) (trimmed-fits h ten) (drop head_size bs) in
      rw (eq-eqb (length (overlay bs 0 (head_bytes h))) handle_size put-length, v) (fields_keep (trimmed h))

-- ---- the bytes of a handle

module _ (bs : List ℕ) (size : length bs ≡ handle_size) where
  pub session-length : length (head_of bs).line.session ≡ 10
  unfolding head_of values
  session-length = part_length bs 32 10 (omega arith)

  -- what is read from bytes has room in its field
  pub head-fits : Bytes bs → HeadFits (head_of bs)
  unfolding head_of values
  head-fits b =
      record {
        session = part_length bs 32 10 (omega arith);
        next = part-below bs 0 8 b (omega arith);
        live = part-below bs 8 8 b (omega arith);
        rows = part-below bs 16 8 b (omega arith);
        used = part-below bs 24 8 b (omega arith);
        refusal = part-below bs 45 1 b (omega arith);
        event = part-below bs 46 1 b (omega arith);
      }

-- the rows as they lie behind one byte more, where the law of a message's layout has them
abbrev pushed : List Row → List Row
pushed [] = []
pushed (r ∷ rs) = row (r.at + 1) r.width r.rule ∷ pushed rs

zero-bytes : (bs : List ℕ) → Bytes bs → Bytes (0 ∷ bs)
zero-bytes bs b zero = lit< tt
zero-bytes bs b (suc i) = b i

bytes-pushed : (bs : List ℕ) → length bs ≡ head_size → Bytes bs → keeps_all head_rows (values head_rows bs) ≡ true
    → bytes_for head_rows (values head_rows bs) ≡ bs
unfolding values keeps_all bytes_for tiled part
bytes-pushed bs l b k = ap (drop 1) (written_back (pushed head_rows) 48 refl 0 bs (ap suc l) (zero-bytes bs b) k)

module _ (bs : List ℕ) (handle : is_handle bs ≡ true) where
  pub handle-length : length bs ≡ handle_size
  unfolding is_handle
  handle-length = eqb-true (length bs) handle_size (both_left (eqb (length bs) handle_size) (keeps_all head_rows (values head_rows bs)) handle)

  handle-keeps : keeps_all head_rows (values head_rows bs) ≡ true
  unfolding is_handle
  handle-keeps = both_right (eqb (length bs) handle_size) (keeps_all head_rows (values head_rows bs)) handle

  fields-of : head_fields (head_of bs) ≡ values head_rows bs
  unfolding head_of values keeps_all
  fields-of =
      let known : ℕ = be (part bs 42 1) in
      let logged : ℕ = be (part bs 43 1) in
      let ended : ℕ = be (part bs 44 1) in
      let two = both_right (is_flag known) (is_flag logged && (is_flag ended && true)) handle-keeps in
      let one = both_right (is_flag logged) (is_flag ended && true) two in
      let k = set-flag known (both_left (is_flag known) (is_flag logged && (is_flag ended && true)) handle-keeps) in
      let l = set-flag logged (both_left (is_flag logged) (is_flag ended && true) two) in
      let e = set-flag ended (both_left (is_flag ended) true one) in
      λ i.
      num (be (part bs 0 8)) ∷ num (be (part bs 8 8)) ∷ num (be (part bs 16 8)) ∷ num (be (part bs 24 8)) ∷ raw (part bs 32 10)
      ∷ num (k i) ∷ num (l i) ∷ num (e i) ∷ num (be (part bs 45 1)) ∷ num (be (part bs 46 1)) ∷ []

  module _ (b : Bytes bs) where
    head-own : head_bytes (head_of bs) ≡ part bs 0 head_size
    unfolding head_bytes
    head-own =
        ap (bytes_for head_rows) (fields-of ∙ sym (front bs))
        ∙ bytes-pushed (part bs 0 head_size) (part_length bs 0 head_size (omega (arith, handle-length))) (part_bytes bs 0 head_size b) (rw (front bs) handle-keeps)

    -- A HANDLE'S OWN HEAD CHANGES NOTHING
    pub bytes_back : overlay bs 0 (head_bytes (head_of bs)) ≡ bs
    bytes_back = rw head-own (overlay-own bs 0 head_size (omega (arith, handle-length)))

    pub bytes-joined : head_bytes (head_of bs) ++ drop head_size bs ≡ bs
    bytes-joined = sym (head-before (head_of bs) (session-length bs handle-length) bs) ∙ bytes_back
