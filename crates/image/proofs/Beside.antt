-- What is saved beside the rows: written, read and judged.
-- Assumes nothing.
use mathlib.Core.Path.{◌≡◌, refl, ap, ◌∙◌}
use mathlib.Core.Bool.{Bool, true, false, ◌&&◌, ◌||◌, cond}
use mathlib.Core.List.{List, [], ◌∷◌, ◌++◌, append-nil}
use Prim.Native.Nat.{ℕ, ◌+◌, ◌-◌, ◌≤◌}
use native.Mathlib.Omega.{arith}
use mir.Val.{bool_byte}
use lib.Dec.{eqb, leb}
use lib.ListN.{length, length-append, replicate}
use Rattle.field.specs.Bytes.{part, overlay, digits, be, bytes_be}
use Rattle.field.specs.Limits.{number_in_range}
use Rattle.field.specs.Text.{every, is_space, is_zero}
use Rattle.field.proofs.Parts.{part-whole, overlay-next}
use Rattle.field.proofs.Numbers.{digits-length}
use Rattle.field.proofs.Writes.{piece, run-joined}
use Rattle.message.specs.Letters.{listed, event_codes}
use Rattle.block.specs.Block.{head_size, body_size, head_at}
use Rattle.block.specs.declared.Head.{Head}
use Rattle.table.specs.Memory.{rows_fit}
use Rattle.table.specs.Board.{fits}
use Rattle.table.specs.Rules.{board_keeps}
use Rattle.table.specs.declared.Board.{Board}
use Rattle.image.specs.Header.{within_limits, flag, is_fresh, header_keeps, session_bytes, board_bytes, facts_size, first_body, header_of}
use Rattle.image.specs.Restore.{facts_keep}
use Rattle.image.specs.declared.Header.{Header}

-- ---- judged

zero_or : (a b : Bool) → a || b ≡ cond a true b
zero_or true b = refl
zero_or false b = refl

pub board-keeps : (b : Board) {e l : Bool} → e ≡ listed event_codes b.event → l ≡ number_in_range b.live
    → (eqb 0 b.event || e) && (eqb b.live 0 || l) ≡ board_keeps b
unfolding board_keeps listed
board-keeps b p q = rw (p, q, zero_or (eqb 0 b.event) (listed event_codes b.event))

pub is-fresh : (h : Header) {s : Bool} → length h.session ≡ 10 → s ≡ every is_space (part h.session 0 10)
    → s && (eqb h.next 1 && (eqb h.board.event 0 && (eqb h.board.rows 0 && eqb h.board.live 0))) ≡ is_fresh h
unfolding is_fresh
is-fresh h l e = rw (e, part-whole h.session 10 l)

pub header-keeps : (h : Header) {b f : Bool} → b ≡ board_keeps h.board → f ≡ is_fresh h → b && (h.known || f) ≡ header_keeps h
unfolding header_keeps
header-keeps h e f = rw (e, f)

pub within-limits : (h : Header) (mem : List ℕ) {w r : Bool} → w ≡ rows_fit h.board.rows mem → r ≡ number_in_range h.next → w && r ≡ within_limits h mem
unfolding within_limits fits
within-limits h mem e f = rw (e, f)

pub facts-keep : (image : List ℕ) {known : ℕ} {z : Bool} → known ≡ be (part image 24 1)
    → z ≡ every is_zero (part image (head_size + facts_size) (body_size - facts_size)) → leb known 1 && z ≡ facts_keep image
unfolding facts_keep
facts-keep image e f = rw (e, f)

-- ---- written

pub session-length : (h : Header) → length h.session ≡ 10 → length (session_bytes h) ≡ 11
unfolding session_bytes
session-length h l = rw (length-append, l, digits-length)

-- a flag is the byte that `u8::from` makes
pub flag-byte : (b : Bool) → bool_byte b ≡ flag b
flag-byte true = refl
flag-byte false = refl

pub session-put : (xs : List ℕ) (at : ℕ) (h : Header) {f : ℕ} {us zs : List ℕ} → length h.session ≡ 10 → at + 11 ≤ length xs
    → us ≡ overlay xs at h.session → f ≡ flag h.known → zs ≡ overlay us (at + 10) (bytes_be 1 f)
    → zs ≡ overlay xs at (session_bytes h)
unfolding session_bytes
session-put xs at h l n a e b =
    b ∙ rw (a, e, ← l)
    (overlay-next xs at h.session (bytes_be 1 (flag h.known)) (omega (arith, digits-length 256 1 (flag h.known))))

pub board-length : (b : Board) → length (board_bytes b) ≡ 11
unfolding board_bytes digits
board-length b = refl

pub board-put : (xs : List ℕ) (at : ℕ) (b : Board) {us vs zs : List ℕ} → at + 11 ≤ length xs
    → us ≡ overlay xs at (bytes_be 1 b.event) → vs ≡ overlay us (at + 1) (bytes_be 2 b.rows) → zs ≡ overlay vs (at + 3) (bytes_be 8 b.live)
    → zs ≡ overlay xs at (board_bytes b)
unfolding board_bytes digits
board-put xs at b {us} {vs} {zs} f p q r =
    run-joined xs at (piece 1 (bytes_be 1 b.event)) (piece 2 (bytes_be 2 b.rows) ∷ piece 8 (bytes_be 8 b.live) ∷ [])
    (refl, (refl, (refl, tt))) f p (vs, q, (zs, r, refl))

pub body-put : (xs : List ℕ) (at : ℕ) (h : Header) {us vs zs : List ℕ} → length h.session ≡ 10 → at + body_size ≤ length xs
    → us ≡ overlay xs at (session_bytes h) → vs ≡ overlay us (at + 11) (board_bytes h.board)
    → zs ≡ overlay vs (at + facts_size) (replicate (body_size - facts_size) 0)
    → zs ≡ overlay xs at (first_body h)
unfolding first_body
body-put xs at h {us} {vs} {zs} l f p q r =
    run-joined xs at (piece 11 (session_bytes h)) (piece 11 (board_bytes h.board) ∷ piece 474 (replicate (body_size - facts_size) 0) ∷ [])
    (session-length h l, (board-length h.board, (refl, tt))) f p (vs, q, (zs, r, refl))
    ∙ ap (λ (z : List ℕ). overlay xs at (session_bytes h ++ (board_bytes h.board ++ z))) (append-nil (replicate (body_size - facts_size) 0))

pub first-length : (h : Header) → length h.session ≡ 10 → length (first_body h) ≡ body_size
unfolding first_body
first-length h l = rw (length-append, length-append, session-length h l, board-length h.board)

-- ---- read

pub header_read : (image : List ℕ) {zs : List ℕ} {known event rows live : ℕ} {head : Head} → zs ≡ part image 14 10 → known ≡ be (part image 24 1) → head ≡ head_at image 0
    → rows ≡ be (part image 26 2) → event ≡ be (part image 25 1) → live ≡ be (part image 28 8)
    → record { session = zs; known = eqb known 1; next = head.next; board = record { rows = rows; event = event; live = live } } ≡ header_of image
unfolding header_of
header_read image e k n a b c =
    λ i. record { session = e i; known = eqb (k i) 1; next = (n i).next; board = record { rows = a i; event = b i; live = c i } }
