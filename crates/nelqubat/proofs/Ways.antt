-- The ways through the calls: a law for each.
-- Assumes nothing.
use mathlib.Core.Path.{◌≡◌, refl, sym, ap, ◌∙◌}
use mathlib.Core.Bool.{Bool, true, false, not, cond}
use mathlib.Core.List.{List, []}
use Prim.Native.Nat.{ℕ, ◌+◌, ◌*◌, ◌≤◌, ◌<◌}
use native.Mathlib.Omega.{arith}
use borrow.Author.Tests.{eq-eqb, ne_eqb, le-leb, lt-leb, leb-true, eqb-true}
use lib.Dec.{eqb, leb}
use lib.ListN.{length, drop, take, replicate, length-replicate}
use lib.Seq.{length-take-le, take_at}
use Rattle.field.specs.Bytes.{part, overlay}
use Rattle.field.specs.Limits.{number_in_range}
use Rattle.field.proofs.Parts.{overlay-none}
use Rattle.field.proofs.Bools.{both_left, both_right}
use Rattle.packet.specs.Frame.{held_size}
use Rattle.packet.proofs.Rules.{both, and_both, not_call, not-not-call}
use Rattle.handle.specs.Handle.{handle_size, is_handle, head_of, handle_bytes}
use Rattle.handle.specs.declared.Head.{Head}
use Rattle.handle.proofs.Rounds.{HeadFits, handle-length}
use Rattle.record.specs.Record.{answered}
use Rattle.reader.specs.Refusals.{refusal_number}
use Rattle.reader.specs.View.{session_of, reader_with, head_part, held_of, state_at, state_of}
use Rattle.reader.specs.Limits.{within_limits}
use Rattle.reader.specs.Calls.{Begun, start_all, Starting, start_number}
use Rattle.reader.specs.Saving.{Came, restore_number, Restores, restore_all, header_of, Written, written_of, written_by, Saves, save_all}
use Rattle.reader.specs.Handles.{reader_in, host_within, head_in, left}
use Rattle.reader.specs.declared.Reader.{Reader}
use Rattle.reader.specs.declared.Started.{Started}
use Rattle.reader.specs.declared.Restored.{Restored}
use Rattle.reader.specs.declared.Refusal.{Refusal}
use Rattle.reader.proofs.Kept.{may-unless-limits, may-unless-index, may-by}
use Rattle.reader.proofs.Views.{head_in_lem, memory-in, reader-back}
use Rattle.block.specs.Block.{block_size}
use Rattle.image.specs.Header as headers
use Rattle.image.specs.Save as images
use Rattle.image.specs.Save.{Saving, saving, size_for, save_of}
use Rattle.image.specs.Moves.{wanted_by, move_of}
use Rattle.image.specs.Shape.{blocks_for, pages_for, most_blocks}
use Rattle.image.specs.declared.Header.{Header}
use Rattle.image.specs.declared.Refusal as image_refusal
use Rattle.image.proofs.Again as again
use Rattle.image.proofs.Rounds.{stored}
use Rattle.image.proofs.Calls.{went}
use Rattle.image.specs.declared.Way.{Way}
use Rattle.row.specs.Fields.{row_size}
use Rattle.table.specs.Memory.{most_rows, table_size, rows_fit, Fitting, Memories, memories}
use Rattle.table.specs.Index.{place_size, index_size, is_index, sought}
use Rattle.table.specs.declared.index.Sought.{Sought}
use Rattle.table.specs.declared.index.Sought.TheVariants.{Here, Absent, Astray}
use Rattle.table.proofs.IndexPlaces.{here-has}
use Rattle.table.proofs.Ways.{rows-fitting}
use Rattle.table.specs.Board.{fits}
use Rattle.listing.specs.Lines.{line_in, line_size, ending_of, line_of, line_with, no_line, shown_of}
use Rattle.listing.specs.declared.Shown.TheVariants as shown
use Rattle.listing.specs.declared.Text.{Text}
use Rattle.listing.specs.declared.Ending.{Ending}
use Rattle.nelqubat.specs.Host.{no_held, unheld, started_as, start_host, StartsOn, restored_as, restore_host, RestoresOn, saved_number, saved_as, SavedFits, save_host, move_host, line_to, shown_to, line_host, FoundFits, found_number, find_host}
use Rattle.std.specs.Prelude.{Err}
use Rattle.std.specs.Prelude.{Ok}
use Rattle.std.specs.Prelude.{Result}

-- ---- a reader that holds nothing, over a handle

unheld-as : (r : Reader) (memory : Memories) (handle : List ℕ) (h : Head) (n : ℕ) → h ≡ head_part r → handle ≡ handle_bytes h no_held
    → left n handle memory ≡ unheld n (state_of r memory) r.used
unheld-as r memory handle h n e f =
    ap (λ (x : List ℕ). left n x memory) (f ∙ ap (λ (x : Head). handle_bytes x no_held) (e ∙ sym (head_in_lem r memory)))
    ∙ ap (left n (handle_bytes (head_in (state_of r memory) r.used) no_held)) (sym (memory-in r memory))

-- and it is that reader
unheld-on : (r : Reader) (memory : Memories) (handle : List ℕ) (h : Head) → h ≡ head_part r → handle ≡ handle_bytes h no_held → HeadFits h → r.used ≡ 0
    → state_of (reader_in handle) memory ≡ state_of r memory
unheld-on r memory handle h e f fits none =
    let unused : held_of (reader_with (head_part r) no_held) ≡ held_of r = rw none in
    ap (λ (x : List ℕ). state_of (reader_in x) memory) f
    ∙ ap (λ (x : Reader). state_of x memory) (reader-back h no_held fits (length-replicate {A = ℕ} held_size 0) ∙ ap (λ (x : Head). reader_with x no_held) e)
    ∙ ap (λ (held : List ℕ). state_at r.refusal r.ended (session_of r.line r.board memory) held) unused

-- ---- starting and restoring

-- what comes back holds nothing
restored-unheld : (image : List ℕ) (memory : Memories) → (restore_all image memory).used ≡ 0
unfolding restore_all
restored-unheld image memory = both (λ (c : Came). c.used ≡ 0) (is_index memory.index) (λ e. refl) (λ e. refl)

module _ (handle : List ℕ) (memory : Memories) where
  pub start_none : {A : Type 0} → (length handle ≡ handle_size → ⊥) → length handle ≡ handle_size → A
  start_none d l = absurd (d l)

  pub start-on : (handle' : List ℕ) (memory' : Memories) (s : Started) (h : Head) → HeadFits h → Starting memory s memory' → h ≡ head_part s.reader → handle' ≡ handle_bytes h no_held
      → StartsOn handle memory handle' memory'
  unfolding start_all
  start-on handle' memory' s h fits e f g l =
      unheld-on s.reader memory' handle' h f g fits (ap (λ (b : Begun). b.used) e) ∙ ap (λ (b : Begun). b.state) e

  pub restore-on : (image handle' : List ℕ) (memory' : Memories) (r : Restored) (h : Head) → HeadFits h → Restores image memory r memory' → h ≡ head_part r.reader
      → handle' ≡ handle_bytes h no_held → RestoresOn handle memory image handle' memory'
  restore-on image handle' memory' r h fits e f g l =
      unheld-on r.reader memory' handle' h f g fits (ap (λ (b : Came). b.used) e ∙ restored-unheld image memory) ∙ ap (λ (b : Came). b.state) e

  pub start-unfit : (length handle ≡ handle_size → ⊥) → left 20 handle memory ≡ start_host handle memory
  unfolding start_host
  start-unfit d = rw (ne_eqb (length handle) handle_size d)

  pub start-goes : (handle' : List ℕ) (memory' : Memories) (s : Started) (h : Head) {n : ℕ} → length handle ≡ handle_size → Starting memory s memory' → h ≡ head_part s.reader
      → handle' ≡ handle_bytes h no_held → n ≡ start_number s.answer → left n handle' memory' ≡ start_host handle memory
  unfolding start_host
  start-goes handle' memory' s h l e f g i =
      rw (eq-eqb (length handle) handle_size l, i) (unheld-as s.reader memory' handle' h (start_number s.answer) f g ∙ ap started_as e)

  pub restore-unfit : (image : List ℕ) → (length handle ≡ handle_size → ⊥) → left 20 handle memory ≡ restore_host handle memory image
  unfolding restore_host
  restore-unfit image d = rw (ne_eqb (length handle) handle_size d)

  pub restore-goes : (image handle' : List ℕ) (memory' : Memories) (r : Restored) (h : Head) {n : ℕ} → length handle ≡ handle_size → Restores image memory r memory' → h ≡ head_part r.reader
      → handle' ≡ handle_bytes h no_held → n ≡ restore_number r.verdict → left n handle' memory' ≡ restore_host handle memory image
  unfolding restore_host
  restore-goes image handle' memory' r h l e f g i =
      rw (eq-eqb (length handle) handle_size l, i) (unheld-as r.reader memory' handle' h (restore_number r.verdict) f g ∙ ap restored_as e)

-- ---- saving

number-any : (s : Result ℕ image_refusal.Refusal) (x y : List ℕ) → answered (saved_number (written_of s x)) y ≡ saved_as (written_of s y)
number-any (Ok n) x y = refl
number-any (Err r) x y = refl

module _ (handle table out : List ℕ) {b : Bool} (e : b ≡ is_handle handle) where
  pub save-no-handle : not b ≡ true → answered 20 out ≡ save_host handle table out
  unfolding save_host
  save-no-handle f = rw (not_call b (is_handle handle) e f)

  pub save-goes : {n : ℕ} (r : Reader) (s : Result ℕ image_refusal.Refusal) (after : List ℕ) → not b ≡ false → r ≡ reader_in handle → Saves r table out s after → n ≡ saved_number (written_of s [])
      → answered n after ≡ save_host handle table out
  unfolding save_host
  save-goes r s after f g h i =
      rw (not-not-call b (is_handle handle) e f, i) (number-any s [] after ∙ ap saved_as (rw g at h))

-- ---- a move

pub move-goes : (way : Way) (image out : List ℕ) {n : ℕ} (s : Result ℕ image_refusal.Refusal) (after : List ℕ) → saving s after ≡ move_of way image out → n ≡ saved_number (written_of s [])
    → answered n after ≡ move_host way image out
unfolding move_host
move-goes way image out s after h i = ap (λ (x : ℕ). answered x after) i ∙ number-any s [] after ∙ ap (λ (o : Saving). saved_as (written_by o)) h

-- a moved image is as long as it was
pub move-fits : (way : Way) (image out : List ℕ) (s : Result ℕ image_refusal.Refusal) (after : List ℕ) → saving s after ≡ move_of way image out → SavedFits s
move-fits way image out (Ok n) after e =
    let g = went way image out n after (sym e) in
    let k = (again.kept (wanted_by way) image g.taken).0.size in
    omega (arith, g.size, k.few, k.whole)
move-fits way image out (Err r) after e = omega arith

-- ---- a line

module _ (line out : List ℕ) where
  pub line-short : length out < length line → answered 25 out ≡ line_to line out
  unfolding line_to
  line-short h = rw (lt-leb (length line) (length out) h)

  pub line-fits : (after : List ℕ) → length line ≤ length out → after ≡ overlay out 0 line → answered (length line * 256) after ≡ line_to line out
  unfolding line_to
  line-fits after h e = rw (le-leb (length line) (length out) h, e)

module _ (text : List ℕ) (size : ℕ) (out : List ℕ) (most : size ≤ line_size) (long : length text ≡ line_size) where
  text-length : length (take size text) ≡ size
  text-length = length-take-le size text (omega (arith, long))

  pub text-short : length out < size → answered 25 out ≡ line_to (take size text) out
  text-short h = line-short (take size text) out (omega (arith, text-length))

  pub text-fits : (after : List ℕ) → size ≤ length out → after ≡ overlay out 0 (part text 0 size) → answered (size * 256) after ≡ line_to (take size text) out
  unfolding part
  text-fits after h e = ap (λ (n : ℕ). answered (n * 256) after) (sym text-length) ∙ line-fits (take size text) out after (omega (arith, text-length)) e

-- what is shown, by its kind
module _ (t : Text) (out : List ℕ) where
  pub shown-line : (n : ℕ) {a : ℕ} {after : List ℕ} → t.shown ≡ shown.Line n → answered a after ≡ line_to (take n t.text) out → answered a after ≡ shown_to t out
  shown-line n e f = rw e f

  pub shown-past : t.shown ≡ shown.Past → answered 0 out ≡ shown_to t out
  shown-past e = rw e

  pub shown-unfit : t.shown ≡ shown.Unfit → answered 20 out ≡ shown_to t out
  shown-unfit e = rw e

-- a line stands at the front of its text
text-line : (ys : List ℕ) → take (length ys) (line_with ys).text ≡ ys
unfolding overlay
text-line ys = take_at ys (drop (0 + length ys) (replicate line_size 0)) (length ys) refl

-- of rows that fit, what is shown is the line, or nothing
shown-is : (k next rows : ℕ) (mem : List ℕ) (x : Ending) (out : List ℕ) → rows_fit rows mem ≡ true
    → shown_to (shown_of k next rows mem x) out ≡ line_to (line_of k next rows mem x) out
unfolding shown_of line_of
shown-is k next rows mem x out e = rw e (by (leb k (rows + 1)))
  where
    by : (y : Bool) → shown_to (cond y (line_with (line_in k next rows mem x)) (no_line shown.Past)) out ≡ line_to (cond y (line_in k next rows mem x) []) out
    by true = ap (λ (ys : List ℕ). line_to ys out) (text-line (line_in k next rows mem x))
    by false = line-fits [] out out (omega arith) (sym (overlay-none out 0))

-- ---- a handle within its limits

module _ (handle table : List ℕ) {w : Bool} (e : w ≡ host_within handle table) where
  module _ (f : not w ≡ false) where
    kept : (is_handle handle ≡ true) × (within_limits (reader_in handle) table ≡ true)
    unfolding host_within
    kept = and_both (is_handle handle) (within_limits (reader_in handle) table) (not-not-call w (host_within handle table) e f)

    pub within-handle : length handle ≡ handle_size
    within-handle = handle-length handle kept.0

    module _ (h : Head) (g : h ≡ head_of handle) where
      rows_fit_lem : rows_fit h.board.rows table ≡ true
      unfolding within_limits fits
      rows_fit_lem = rw g (both_left (rows_fit (head_of handle).board.rows table) _ kept.1)

      within-few : Fitting h.board.rows table
      within-few = rows-fitting h.board.rows table rows_fit_lem

      pub within-rows : h.board.rows * row_size ≤ length table
      within-rows = omega (arith, within-few)

  -- a line
  module _ (k : ℕ) (out : List ℕ) where
    pub line-unfit : not w ≡ true → answered 20 out ≡ line_host handle table k out
    unfolding line_host
    line-unfit f = rw (not_call w (host_within handle table) e f)

    pub line-goes : not w ≡ false → (h : Head) → h ≡ head_of handle → {n : ℕ} (x : Ending) (t : Text) (after : List ℕ)
        → x ≡ ending_of h.refusal h.ended → t ≡ shown_of k h.line.next h.board.rows table x → answered n after ≡ shown_to t out
        → answered n after ≡ line_host handle table k out
    unfolding line_host
    line-goes f h g x t after l m o =
        rw (not-not-call w (host_within handle table) e f)
        (o ∙ ap (λ (y : Text). shown_to y out) m ∙ shown-is k h.line.next h.board.rows table x out (rows_fit_lem f h g)
        ∙ ap (λ (y : Ending). line_to (line_of k h.line.next h.board.rows table y) out) l
        ∙ ap (λ (y : Head). line_to (line_of k y.line.next y.board.rows table (ending_of y.refusal y.ended)) out) g)

-- ---- the row for an id

module _ (handle table index : List ℕ) where
  pub find-unfit : {w : Bool} (id : ℕ) → w ≡ host_within handle table → not w ≡ true → 20 ≡ find_host handle (memories table index) id
  unfolding find_host
  find-unfit id e f = rw (may-unless-limits handle (memories table index) e f)

  pub find-no-index : {w : Bool} (id : ℕ) → w ≡ is_index index → not w ≡ true → 20 ≡ find_host handle (memories table index) id
  unfolding find_host
  find-no-index id e f = rw (may-unless-index handle (memories table index) e f)

  module _ {w y : Bool} (e : w ≡ host_within handle table) (f : not w ≡ false) (i : y ≡ is_index index) (j : not y ≡ false) (h : Head) (g : h ≡ head_of handle) where
    few : Fitting h.board.rows table
    few = within-few handle table e f h g

    pub within-index : h.board.rows * place_size ≤ length index
    within-index =
        let long : length index ≡ index_size = eqb-true (length index) index_size (not-not-call y (is_index index) i j) in
        omega (arith, few)

    module _ (id : ℕ) (x : Sought) (m : x ≡ sought index table h.board.rows id) where
      -- a row that is found is in use
      pub found-fits : FoundFits x
      found-fits = by x m
        where
          by : (z : Sought) → z ≡ sought index table h.board.rows id → FoundFits z
          by (Here k) n = omega (arith, few, (here-has index table h.board.rows id k (sym n)).below)
          by (Absent place) n = tt
          by Astray n = tt

      pub find-goes : {n : ℕ} → n ≡ found_number x → n ≡ find_host handle (memories table index) id
      unfolding find_host
      find-goes o =
          rw (may-by handle (memories table index) e f i j)
          (o ∙ ap found_number m ∙ ap (λ (z : Head). found_number (sought index table z.board.rows id)) g)

pub found_here : {x : Sought} {k : ℕ} → x ≡ Here k → (k + 1) * 256 ≡ found_number x
found_here e = rw e

pub place-fits : {x : Sought} {k : ℕ} → x ≡ Here k → FoundFits x → k < most_rows
place-fits e f = rw e at f

-- ---- the size of an image

size_few : (rows : ℕ) → rows ≤ most_rows → size_for rows ≤ most_blocks * block_size
unfolding size_for blocks_for pages_for
size_few rows h = omega arith

saved-few : (h : Header) (mem out : List ℕ) (s : Result ℕ image_refusal.Refusal) (z : List ℕ) → save_of h mem out ≡ saving s z → SavedFits s
unfolding headers.within_limits fits
saved-few h mem out (Ok n) z e =
    let a = stored h mem out n z e in
    let f = both_left (fits h.board mem) (number_in_range h.next) a.within in
    let few : h.board.rows ≤ most_rows = leb-true h.board.rows most_rows (both_right (eqb (length mem) table_size) _ f) in
    rw a.size (size_few h.board.rows few)
saved-few h mem out (Err r) z e = omega arith

count-any : (s : Result ℕ image_refusal.Refusal) (x y : List ℕ) → (written_of s x).count ≡ (written_of s y).count
count-any (Ok n) x y = refl
count-any (Err r) x y = refl

pub saves-fit : (r : Reader) (memory out : List ℕ) (s : Result ℕ image_refusal.Refusal) (after : List ℕ) → Saves r memory out s after → SavedFits s
unfolding save_all
saves-fit r memory out s after e = rw (count-any s [] after ∙ ap (λ (w : Written). w.count) e) (by (within_limits r memory))
  where
    by : (b : Bool) → (cond b (written_by (save_of (header_of r) memory out)) (record { refusal = 20; count = 0; out = out })).count ≤ most_blocks * block_size
    by true =
        let o = save_of (header_of r) memory out in
        rw (count-any o.answer o.out []) (saved-few (header_of r) memory out o.answer o.out refl)
    by false = omega arith

-- ---- answers as numbers

pub started-ready : {a : Result (Unit {0}) Refusal} → a ≡ Ok (tt {0}) → 0 ≡ start_number a
started-ready e = rw e

pub started-refused : {a : Result (Unit {0}) Refusal} {r : Refusal} {n : ℕ} → a ≡ Err r → n ≡ refusal_number r → n ≡ start_number a
started-refused e f = rw (e, f)

pub saved-whole : {s : Result ℕ image_refusal.Refusal} {n : ℕ} → s ≡ Ok n → n * 256 ≡ saved_number (written_of s [])
saved-whole e = rw e (omega arith)

pub saved-not : {s : Result ℕ image_refusal.Refusal} {r : image_refusal.Refusal} {n : ℕ} → s ≡ Err r → n ≡ images.refusal_number r → n ≡ saved_number (written_of s [])
saved-not e f = rw (e, f) (omega arith)

pub saved-fits : {s : Result ℕ image_refusal.Refusal} {n : ℕ} → s ≡ Ok n → SavedFits s → n ≤ most_blocks * block_size
saved-fits e f = rw e at f
