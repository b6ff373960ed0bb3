-- THE LAW OF A SINGLE FIELD: a number laid over one field of a handle changes that field of its head, and nothing else.
-- Assumes nothing.
use mathlib.Core.Path.{◌≡◌, refl, sym, ap, ◌∙◌}
use mathlib.Core.Bool.{true}
use mathlib.Core.List.{List, [], ◌∷◌, ◌++◌, append_assoc}
use Prim.Native.Nat.{ℕ, zero, suc, ◌+◌}
use native.Mathlib.Nat.{zero-add}
use native.Mathlib.Omega.{arith}
use lib.ListN.{length, get_or, set, take, drop, length-append}
use lib.Seq.{take_at, drop_at, drop-drop}
use Rattle.field.specs.Bytes.{overlay, bytes_be}
use Rattle.field.proofs.Numbers.{digits-length}
use Rattle.message.specs.Layout.{Value, num, bytes, Row, row, bytes_in, bytes_for}
use Rattle.table.specs.Board.{with_event, with_live}
use Rattle.handle.specs.Handle.{head_size, head_rows, head_fields, head_bytes, handle_bytes, with_board, next_field, live_field, rows_field, used_field, ended_field, refusal_field, event_field, with_field}
use Rattle.handle.specs.declared.Head.{Head}
use Rattle.handle.proofs.Rounds.{head-length}

-- a run in the middle replaced by one as long
middle : (pre old rest new : List ℕ) (at : ℕ) → length pre ≡ at → length new ≡ length old → overlay (pre ++ (old ++ rest)) at new ≡ pre ++ (new ++ rest)
unfolding overlay
middle pre old rest new at e f =
    let behind : drop (at + length new) (pre ++ (old ++ rest)) ≡ rest
    = rw f (sym (drop-drop (length old) at (pre ++ (old ++ rest))) ∙ ap (drop (length old)) (drop_at pre (old ++ rest) at e) ∙ drop_at old rest (length old) refl) in
    λ i. take_at pre (old ++ rest) at e i ++ (new ++ behind i)

-- fields one after the other from `at` on, each as wide as its row says
abbrev Wide : ℕ → List Row → List Value → Type 0
Wide at [] vs = Unit
Wide at (r ∷ rs) [] = Unit
Wide at (r ∷ rs) (v ∷ vs) = (r.at ≡ at) × (length (bytes_in r.rule r.width v) ≡ r.width) × Wide (at + r.width) rs vs

-- the row has a value, which is written as this number is
abbrev Holds : ℕ → ℕ → List Row → List Value → Type 0
Holds i n [] vs = ⊥
Holds i n (r ∷ rs) [] = ⊥
Holds zero n (r ∷ rs) (v ∷ vs) = bytes_in r.rule r.width (num n) ≡ bytes_be r.width n
Holds (suc i) n (r ∷ rs) (v ∷ vs) = Holds i n rs vs

-- over the index of the field
one_field : (i n at : ℕ) (rs : List Row) (vs : List Value) (pre rest : List ℕ) → length pre ≡ at → Wide at rs vs → Holds i n rs vs
    → (let r = get_or rs i (row 0 0 bytes) in overlay (pre ++ (bytes_for rs vs ++ rest)) r.at (bytes_be r.width n) ≡ pre ++ (bytes_for rs (set vs i (num n)) ++ rest))
unfolding bytes_for
one_field i n at [] vs pre rest l w h = absurd h
one_field i n at (r ∷ rs) [] pre rest l w h = absurd h
one_field zero n at (r ∷ rs) (v ∷ vs) pre rest l w h =
    let old : List ℕ = bytes_in r.rule r.width v in
    let new : List ℕ = bytes_be r.width n in
    let e : length new ≡ length old = digits-length 256 r.width n ∙ sym w.1 in
    ap (λ (x : List ℕ). overlay (pre ++ x) r.at new) (append_assoc old (bytes_for rs vs) rest)
    ∙ middle pre old (bytes_for rs vs ++ rest) new r.at (l ∙ sym w.0) e
    ∙ ap (λ (x : List ℕ). pre ++ x) (sym (append_assoc new (bytes_for rs vs) rest) ∙ ap (λ (x : List ℕ). (x ++ bytes_for rs vs) ++ rest) (sym h))
one_field (suc i) n at (r ∷ rs) (v ∷ vs) pre rest l w h =
    let first : List ℕ = bytes_in r.rule r.width v in
    let row-i : Row = get_or rs i (row 0 0 bytes) in
    let turn : (tail : List ℕ) → pre ++ ((first ++ tail) ++ rest) ≡ (pre ++ first) ++ (tail ++ rest)
    = λ tail. ap (λ (x : List ℕ). pre ++ x) (append_assoc first tail rest) ∙ sym (append_assoc pre first (tail ++ rest)) in
    ap (λ (x : List ℕ). overlay x row-i.at (bytes_be row-i.width n)) (turn (bytes_for rs vs))
    ∙ one_field i n (at + r.width) rs vs (pre ++ first) rest (length-append pre first ∙ omega (arith, l, w.1)) w.2 h
    ∙ sym (turn (bytes_for rs (set vs i (num n))))

module _ (h : Head) (held : List ℕ) (ten : length h.line.session ≡ 10) where
  wide : Wide 0 head_rows (head_fields h)
  wide = (
    refl,
    digits-length 256 8 h.line.next,
    (
      refl,
      digits-length 256 8 h.board.live,
      (
        refl,
        digits-length 256 8 h.board.rows,
        (
          refl,
          digits-length 256 8 h.used,
          (refl, ten, (refl, digits-length 256 1 _, (refl, digits-length 256 1 _, (refl, digits-length 256 1 _, (refl, digits-length 256 1 _, (refl, digits-length 256 1 _, tt)))))),
        ),
      ),
    ),
  )

  pub field_put : (i n : ℕ) → Holds i n head_rows (head_fields h) → (h' : Head) → set (head_fields h) i (num n) ≡ head_fields h'
      → with_field i n (handle_bytes h held) ≡ handle_bytes h' held
  unfolding handle_bytes head_bytes
  field_put i n k h' e = one_field i n 0 head_rows (head_fields h) [] held refl wide k ∙ ap (λ (vs : List Value). bytes_for head_rows vs ++ held) e

-- ---- each field by its name

abbrev pub with_next : ℕ → Head → Head
with_next n h =
    record {
      line = record { session = h.line.session; known = h.line.known; logged = h.line.logged; next = n };
      board = h.board;
      ended = h.ended;
      refusal = h.refusal;
      used = h.used;
    }

abbrev pub with_used : ℕ → Head → Head
with_used n h = record { line = h.line; board = h.board; ended = h.ended; refusal = h.refusal; used = n }

abbrev pub as_ended : Head → Head
as_ended h = record { line = h.line; board = h.board; ended = true; refusal = h.refusal; used = h.used }

abbrev pub as_refused : ℕ → Head → Head
as_refused n h = record { line = h.line; board = h.board; ended = h.ended; refusal = n; used = h.used }

module _ (h : Head) (held : List ℕ) (ten : length h.line.session ≡ 10) {before after : List ℕ} (e : before ≡ handle_bytes h held) where
  laid-put : (i n : ℕ) → Holds i n head_rows (head_fields h) → (h' : Head) → set (head_fields h) i (num n) ≡ head_fields h'
      → after ≡ with_field i n before → after ≡ handle_bytes h' held
  laid-put i n k h' g f = f ∙ ap (with_field i n) e ∙ field_put h held ten i n k h' g

  pub next-put : (n : ℕ) → after ≡ with_field next_field n before → after ≡ handle_bytes (with_next n h) held
  next-put n = laid-put next_field n refl (with_next n h) refl

  pub live-put : (n : ℕ) → after ≡ with_field live_field n before → after ≡ handle_bytes (with_board (with_live n h.board) h) held
  live-put n = laid-put live_field n refl (with_board (with_live n h.board) h) refl

  pub rows-put : (n : ℕ) → after ≡ with_field rows_field n before
      → after ≡ handle_bytes (with_board (record { rows = n; event = h.board.event; live = h.board.live }) h) held
  rows-put n = laid-put rows_field n refl (with_board (record { rows = n; event = h.board.event; live = h.board.live }) h) refl

  pub used-put : (n : ℕ) → after ≡ with_field used_field n before → after ≡ handle_bytes (with_used n h) held
  used-put n = laid-put used_field n refl (with_used n h) refl

  pub ended-put : after ≡ with_field ended_field 1 before → after ≡ handle_bytes (as_ended h) held
  ended-put = laid-put ended_field 1 refl (as_ended h) refl

  pub refusal-put : (n : ℕ) → after ≡ with_field refusal_field n before → after ≡ handle_bytes (as_refused n h) held
  refusal-put n = laid-put refusal_field n refl (as_refused n h) refl

  pub event-put : (n : ℕ) → after ≡ with_field event_field n before → after ≡ handle_bytes (with_board (with_event n h.board) h) held
  event-put n = laid-put event_field n refl (with_board (with_event n h.board) h) refl

  -- the first places of held bytes
  pub places-put : (ys : List ℕ) → after ≡ overlay before head_size ys → after ≡ handle_bytes h (overlay held 0 ys)
  unfolding handle_bytes overlay
  places-put ys f =
      let n : length (head_bytes h) ≡ head_size = head-length h ten in
      let front : take head_size (head_bytes h ++ held) ≡ head_bytes h = take_at (head_bytes h) held head_size n in
      let back : drop (head_size + length ys) (head_bytes h ++ held) ≡ drop (length ys) held
      = sym (drop-drop (length ys) head_size (head_bytes h ++ held)) ∙ ap (drop (length ys)) (drop_at (head_bytes h) held head_size n) in
      f ∙ ap (λ (x : List ℕ). overlay x head_size ys) e ∙ (λ i. front i ++ (ys ++ back i)) ∙ (rw zero-add)
