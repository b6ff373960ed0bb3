-- The limits of a handle, and the ways through starting, saving and restoring.
-- Assumes nothing.
use mathlib.Core.Path.{◌≡◌, refl, sym, ap, ◌∙◌}
use mathlib.Core.List.{List, [], ◌∷◌}
use mathlib.Core.Bool.{Bool, true, false, not, ◌&&◌, ◌||◌, and-false}
use Prim.Native.Nat.{ℕ, ◌+◌, ◌≤◌, ◌<◌}
use native.Mathlib.Omega.{arith}
use borrow.Author.Tests.{eqb-true, eqb-false, leb-true, eq-eqb, ne_eqb, le-leb, lt-leb, not-true, not-false}
use lib.Dec.{eqb, leb}
use lib.ListN.{length, take, drop}
use lib.Seq.{length-take-le}
use Rattle.field.specs.Bytes.{part}
use Rattle.field.specs.Limits.{highest_number, number_in_range}
use Rattle.field.proofs.Parts.{part_length}
use Rattle.packet.specs.Frame.{Framed, short, bad_length, packet, frame, front_of, held_size}
use Rattle.packet.specs.Stream.{step_of}
use Rattle.packet.specs.Line.{fresh_line, waiting}
use Rattle.packet.specs.declared.Line.{Line}
use Rattle.packet.specs.declared.Framing.{Framing}
use Rattle.packet.specs.declared.Framing.TheVariants.{Short, BadLength, Whole}
use Rattle.packet.proofs.Frame.{short-there, bad-there, whole-there}
use Rattle.packet.proofs.Rules.{both, and_both, not_call, not-not-call, never}
use Rattle.handle.specs.Handle.{head_size, handle_size, is_handle, head_of}
use Rattle.handle.specs.declared.Head.{Head}
use Rattle.handle.proofs.Rounds.{handle-length}
use Rattle.table.specs.Memory.{Memories, memories, rows_fit}
use Rattle.table.specs.Index.{index_size, is_index, LentFitting, built}
use Rattle.table.specs.Board as tables
use Rattle.table.specs.Board.{fresh_board, fits, outcome, beside, start_of}
use Rattle.table.specs.declared.Applied.{Applied}
use Rattle.table.specs.declared.Board.{Board}
use Rattle.table.specs.declared.Refusal as table_refusal
use Rattle.image.specs.Save.{saving, save_of}
use Rattle.image.specs.Restore.{restoring, restore_of}
use Rattle.image.specs.declared.Header.{Header}
use Rattle.image.specs.declared.Refusal.TheVariants as images
use Rattle.image.specs.declared.Restored as image
use Rattle.image.proofs.Rounds.{restored-good}
use Rattle.reader.specs.Refusals.{refusal_number, number_in, standing, standing_refusals, named_in, named}
use Rattle.reader.specs.View.{reader_with, held_of, state_of, seen, still_of, ready_of}
use Rattle.reader.specs.Limits.{is_short, unfinished, holds_unfinished, within_limits, may_step, lent_within, head_with}
use Rattle.reader.specs.Calls.{step_in, step_all, Stepping, verdict_number, start_all, Starting}
use Rattle.reader.specs.Handles.{reader_in, host_within, host_may_step}
use Rattle.reader.specs.Saving.{header_of, written_by, save_all, Saves, line_of, index_after, restore_all, Restores}
use Rattle.reader.specs.declared.Refusal.{Refusal}
use Rattle.reader.specs.declared.Refusal.TheVariants.{HighCeiling}
use Rattle.reader.specs.declared.Reader.{Reader}
use Rattle.reader.specs.declared.StepAnswer.TheVariants as answer
use Rattle.std.specs.Prelude.{Err}
use Rattle.std.specs.Prelude.{Ok}
use Rattle.std.specs.Prelude.{Result, MatchResult, IsErrAnd, is_ok}
use Rattle.image.specs.declared.Refusal as image_refusal

-- ---- what is held

module _ (r : Reader) where
  pub held-over : held_size < r.used → false ≡ holds_unfinished r
  unfolding holds_unfinished
  held-over h = rw (lt-leb r.used held_size h)

  pub held-short : {w : Framing} → r.used ≤ held_size → w ≡ front_of (frame (held_of r)) → w ≡ Short → true ≡ holds_unfinished r
  unfolding holds_unfinished unfinished
  held-short h e f = rw (le-leb r.used held_size h, short-there (held_of r) e f)

  pub held-bad : {w : Framing} → r.used ≤ held_size → w ≡ front_of (frame (held_of r)) → w ≡ BadLength → false ≡ holds_unfinished r
  unfolding holds_unfinished unfinished
  held-bad h e f = rw (le-leb r.used held_size h, (bad-there (held_of r) e f).is)

  pub held_whole : {w : Framing} {n : ℕ} → r.used ≤ held_size → w ≡ front_of (frame (held_of r)) → w ≡ Whole n → false ≡ holds_unfinished r
  unfolding holds_unfinished unfinished
  held_whole h e f = rw (le-leb r.used held_size h, (whole-there (held_of r) e f).is)

  pub held-other : (w : Framing) → r.used ≤ held_size → w ≡ front_of (frame (held_of r)) → (w ≡ Short → ⊥) → false ≡ holds_unfinished r
  held-other Short h e d = absurd (d refl)
  held-other BadLength h e d = held-bad h e refl
  held-other (Whole n) h e d = held_whole h e refl

short-is : (f : Framed) → is_short f ≡ true → f ≡ short
short-is short e = refl
short-is (bad_length rest) e = absurd (never e)
short-is (packet letter body rest) e = absurd (never e)

pub unfinished-short : (bs : List ℕ) → unfinished bs ≡ true → frame bs ≡ short
unfolding unfinished
unfinished-short bs e = short-is (frame bs) e

-- ---- the limits, in their order

module _ (rows next used refusal : ℕ) (held memory : List ℕ) where
  abbrev h : Head
  h = head_with rows next used refusal

  pub within-places : (length held ≡ held_size → ⊥) → false ≡ lent_within h held memory
  unfolding lent_within
  within-places l = rw (ne_eqb (length held) held_size l)

  module _ (l : length held ≡ held_size) where
    lent-as : {b : Bool} → b ≡ within_limits (reader_with h held) memory → b ≡ lent_within h held memory
    unfolding lent_within
    lent-as e = rw (eq-eqb (length held) held_size l) e

    module _ {a : Bool} (e : a ≡ rows_fit rows memory) where
      pub within-fit : not a ≡ true → false ≡ lent_within h held memory
      unfolding within_limits fits
      within-fit f = lent-as (rw (not_call a (rows_fit rows memory) e f))

      module _ (n : not a ≡ false) {b : Bool} (f : b ≡ number_in_range next) where
        fitting : fits h.board memory ≡ true
        unfolding fits
        fitting = not-not-call a (rows_fit rows memory) e n

        pub within-number : not b ≡ true → false ≡ lent_within h held memory
        unfolding within_limits
        within-number g = lent-as (rw (fitting, not_call b (number_in_range next) f g))

        module _ (g : not b ≡ false) where
          -- nothing is held, and no refusal stands
          pub within-ready : eqb used 0 && eqb refusal 0 ≡ true → true ≡ lent_within h held memory
          unfolding within_limits holds_unfinished unfinished frame standing
          within-ready i =
              let z = and_both (eqb used 0) (eqb refusal 0) i in
              lent-as (rw (fitting, not-not-call b (number_in_range next) f g, eqb-true used 0 z.0, eqb-true refusal 0 z.1))

          module _ {d : Bool} (i : d ≡ holds_unfinished (reader_with (head_with 0 0 used 0) held)) where
            holds_as : d ≡ holds_unfinished (reader_with h held)
            unfolding holds_unfinished
            holds_as = i

            pub within_held : not d ≡ true → false ≡ lent_within h held memory
            unfolding within_limits
            within_held j =
                lent-as (rw (fitting, not-not-call b (number_in_range next) f g, not_call d (holds_unfinished (reader_with h held)) holds_as j))

            pub within-stands : {s : Bool} → not d ≡ false → s ≡ standing refusal → s ≡ lent_within h held memory
            unfolding within_limits
            within-stands j k =
                lent-as (rw (fitting, not-not-call b (number_in_range next) f g, not-not-call d (holds_unfinished (reader_with h held)) holds_as j) k)

-- the numbers of a reader are all that the limits ask of its head
pub limits_of : (r : Reader) (memory : List ℕ) {w : Bool} → length r.held ≡ held_size
    → w ≡ lent_within (head_with r.board.rows r.line.next r.used r.refusal) r.held memory → w ≡ within_limits r memory
unfolding lent_within within_limits holds_unfinished fits
limits_of r memory l e = rw (eq-eqb (length r.held) held_size l) at e

-- ---- the limits of a handle where it lies

pub handle-long : (handle : List ℕ) {w : Bool} → w ≡ is_handle handle → not w ≡ false → length handle ≡ handle_size
handle-long handle {w} e f = handle-length handle (not-not-call w (is_handle handle) e f)

module _ (handle table : List ℕ) {w : Bool} (e : w ≡ is_handle handle) where
  pub host-none : not w ≡ true → false ≡ host_within handle table
  unfolding host_within
  host-none f = rw (not_call w (is_handle handle) e f)

  pub host-kept : {b : Bool} (rows next used refusal : ℕ) → not w ≡ false → rows ≡ (head_of handle).board.rows → next ≡ (head_of handle).line.next
      → used ≡ (head_of handle).used → refusal ≡ (head_of handle).refusal
      → b ≡ lent_within (head_with rows next used refusal) (take held_size (drop head_size handle)) table → b ≡ host_within handle table
  unfolding host_within part
  host-kept rows next used refusal f g i j k m =
      rw (not-not-call w (is_handle handle) e f)
      (limits_of (reader_in handle) table (part_length handle head_size held_size (omega (arith, handle-long handle e f))) (rw (g, i, j, k) at m))

-- what a handle within its limits has
pub record Within (r : Reader) (memory : List ℕ) : Type 0 where
  pub fitted : fits r.board memory ≡ true
  pub some : 1 ≤ r.line.next
  pub most : r.line.next ≤ highest_number
  pub start : r.used ≤ held_size
  pub short : frame (held_of r) ≡ short
  pub stands : standing r.refusal ≡ true

pub within : (r : Reader) (memory : List ℕ) → within_limits r memory ≡ true → Within r memory
unfolding within_limits holds_unfinished
within r memory e =
    let a = and_both (fits r.board memory) _ e in
    let b = and_both (number_in_range r.line.next) _ a.1 in
    let n = and_both (leb 1 r.line.next) (leb r.line.next highest_number) b.0 in
    let c = and_both (holds_unfinished r) (standing r.refusal) b.1 in
    let h = and_both (leb r.used held_size) (unfinished (held_of r)) c.0 in
    record {
      fitted = a.0;
      some = leb-true 1 r.line.next n.0;
      most = leb-true r.line.next highest_number n.1;
      start = leb-true r.used held_size h.0;
      short = unfinished-short (held_of r) h.1;
      stands = c.1;
    }

-- and what has it is within them
pub limits-hold : (r : Reader) (memory : List ℕ) → Within r memory → within_limits r memory ≡ true
unfolding within_limits holds_unfinished unfinished
limits-hold r memory w =
    rw (w.fitted, le-leb 1 r.line.next w.some, le-leb r.line.next highest_number w.most, le-leb r.used held_size w.start, w.short, w.stands)

-- ---- names and numbers of standing refusals

abbrev DiffersFrom : List Refusal → ℕ → Type 0
DiffersFrom [] n = Unit
DiffersFrom (r ∷ rs) n = (n ≡ refusal_number r → ⊥) × DiffersFrom rs n

-- a number that does not differ from all of a list is that of its name in it
named-in : (rs : List Refusal) (n : ℕ) → (DiffersFrom rs n → ⊥) → refusal_number (named_in rs n) ≡ n
unfolding named_in
named-in [] n h = absurd (h tt)
named-in (r ∷ rs) n h =
    both (λ (x : Refusal). refusal_number x ≡ n) (eqb n (refusal_number r)) (λ e. sym (eqb-true n (refusal_number r) e))
    (λ e. named-in rs n (λ d. h (eqb-false n (refusal_number r) e, d)))

above : (n k : ℕ) → k ≤ n → (n ≡ k → ⊥) → k + 1 ≤ n
above n k h d = omega arith

low : (n : ℕ) → n ≤ 6 → 1 ≤ n → DiffersFrom standing_refusals n → ⊥
low n h k d =
    let a : 4 ≤ n = above n 3 (above n 2 (above n 1 k d.0) d.1.0) d.1.1.0 in
    let b : 7 ≤ n = above n 6 (above n 5 (above n 4 a d.1.1.1.0) d.1.1.1.1.0) d.1.1.1.1.1.0 in
    omega arith

high : (n : ℕ) → n ≤ 16 → 10 ≤ n → DiffersFrom standing_refusals n → ⊥
high n h k d =
    let m = d.1.1.1.1.1.1 in
    let a : 13 ≤ n = above n 12 (above n 11 (above n 10 k m.0) m.1.0) m.1.1.0 in
    let t = m.1.1.1 in
    let b : 17 ≤ n = above n 16 (above n 15 (above n 14 (above n 13 a t.0) t.1.0) t.1.1.0) t.1.1.1.0 in
    omega arith

-- a number that may stand, and is some, is that of its name
pub named-number : (n : ℕ) → standing n ≡ true → (n ≡ 0 → ⊥) → refusal_number (named n) ≡ n
unfolding standing named
named-number n s h = named-in (HighCeiling ∷ standing_refusals) n (λ d. by (leb n 6) refl d.1 s)
  where
    by : (t : Bool) → leb n 6 ≡ t → DiffersFrom standing_refusals n → t || (leb 10 n && leb n 16) ≡ true → ⊥
    by true e d g = let l = leb-true n 6 e in low n l (omega arith) d
    by false e d g = let b = and_both (leb 10 n) (leb n 16) g in high n (leb-true n 16 b.1) (leb-true 10 n b.0) d

-- ---- a handle that may step: within its limits, with index memory of its length

module _ (r : Reader) (memory : Memories) (e : may_step r memory ≡ true) where
  pub may-limits : within_limits r memory.table ≡ true
  unfolding may_step
  may-limits = (and_both (within_limits r memory.table) (is_index memory.index) e).0

  pub may-within : Within r memory.table
  may-within = within r memory.table may-limits

  pub may-index : length memory.index ≡ index_size
  unfolding may_step
  may-index = eqb-true (length memory.index) index_size (and_both (within_limits r memory.table) (is_index memory.index) e).1

-- the two tests of a handle where it lies
module _ (handle : List ℕ) (memory : Memories) where
  host-may : host_may_step handle memory ≡ host_within handle memory.table && is_index memory.index
  unfolding host_may_step may_step host_within
  host-may = by (is_handle handle)
    where
      by : (y : Bool) → y && (within_limits (reader_in handle) memory.table && is_index memory.index)
          ≡ (y && within_limits (reader_in handle) memory.table) && is_index memory.index
      by true = refl
      by false = refl

  pub may-unless-limits : {b : Bool} → b ≡ host_within handle memory.table → not b ≡ true → host_may_step handle memory ≡ false
  may-unless-limits {b} e n = host-may ∙ (rw (not_call b (host_within handle memory.table) e n))

  pub may-unless-index : {c : Bool} → c ≡ is_index memory.index → not c ≡ true → host_may_step handle memory ≡ false
  may-unless-index {c} f n = host-may ∙ (rw (not_call c (is_index memory.index) f n, and-false (host_within handle memory.table)))

  pub may-by : {b c : Bool} → b ≡ host_within handle memory.table → not b ≡ false → c ≡ is_index memory.index → not c ≡ false
      → host_may_step handle memory ≡ true
  may-by {b} {c} e n f m =
      host-may ∙ (rw (not-not-call b (host_within handle memory.table) e n, not-not-call c (is_index memory.index) f m))

  -- bytes that are a handle but may not step
  pub may-not : is_handle handle ≡ true → host_may_step handle memory ≡ false → may_step (reader_in handle) memory ≡ false
  unfolding host_may_step
  may-not is e = rw is at e

pub steps-hold : (r : Reader) (memory : Memories) → Within r memory.table → length memory.index ≡ index_size → may_step r memory ≡ true
unfolding may_step
steps-hold r memory w l = rw (limits-hold r memory.table w, eq-eqb (length memory.index) index_size l)

-- ---- a step that takes nothing

module _ (r : Reader) (memory : Memories) (piece : List ℕ) (e : may_step r memory ≡ true) where
  held : Within r memory.table
  held = may-within r memory e

  goes : step_all r memory piece ≡ seen (step_in (state_of r memory) piece)
  unfolding step_all
  goes = rw e

  module _ (long : length r.held ≡ held_size) where
    held-length : length (held_of r) ≡ r.used
    held-length = length-take-le r.used r.held (omega (arith, held.start))

    -- a refusal that stands is not 20
    stands-fit : eqb r.refusal 20 ≡ false
    unfolding standing
    stands-fit = ne_eqb r.refusal 20 (λ z. never (sym (ap standing z) ∙ held.stands))

    pub step-refused : (r.refusal ≡ 0 → ⊥) → Stepping r memory piece (still_of r (answer.Refused (named r.refusal))) memory
    unfolding step_of step_in
    step-refused h = rw (goes, named-number r.refusal held.stands h) (simp (ne_eqb r.refusal 0 h, stands-fit, held-length))

    pub step-ended : r.refusal ≡ 0 → r.ended ≡ true → Stepping r memory piece (still_of r answer.Ended) memory
    unfolding step_of step_in
    step-ended h k = rw goes (simp (eq-eqb r.refusal 0 h, k, held-length))

-- ---- the ways through starting

answered : (v : Result (Unit {0}) table_refusal.Refusal) (x : Result (Unit {0}) Refusal)
    → MatchResult v (λ u. x ≡ Ok u) (λ d. IsErrAnd x (λ y. refusal_number y ≡ tables.refusal_number d)) → number_in x ≡ verdict_number v
answered (Ok u) x m = ap number_in m
answered (Err d) (Ok u) m = absurd m
answered (Err d) (Err y) m = m

module _ (memory after : Memories) (a : Applied) (l : Line) (r : Reader) (e : beside after.index (outcome a after.table) ≡ start_of memory)
    (i : l ≡ fresh_line) (f : r ≡ ready_of l a.board) where
  pub started : (x : Result (Unit {0}) Refusal)
      → MatchResult a.verdict (λ u. x ≡ Ok u) (λ d. IsErrAnd x (λ y. refusal_number y ≡ tables.refusal_number d))
      → Starting memory (record { reader = r; answer = x }) after
  unfolding start_all
  started x m = rw (f, i, ← e, ← answered a.verdict x m)

-- ---- the index of an image that was accepted

pub index-built : (v : Result (Unit {0}) image_refusal.Refusal) {b : Bool} (rows : ℕ) (table index : List ℕ) {index' : List ℕ} → b ≡ is_ok v → b ≡ true
    → index' ≡ built rows (length index) table → index' ≡ index_after v rows table index
index-built (Ok u) rows table index e f g = g
index-built (Err r) rows table index e f g = absurd (never (sym e ∙ f))

-- ---- the ways through saving and restoring

module _ (r : Reader) (memory out : List ℕ) {w : Bool} (l : length r.held ≡ held_size)
    (k : w ≡ lent_within (head_with r.board.rows r.line.next r.used r.refusal) r.held memory) where
  e : w ≡ within_limits r memory
  e = limits_of r memory l k

  pub save-unfit : not w ≡ true → Saves r memory out (Err images.Unfit) out
  unfolding save_all
  save-unfit f = rw (not_call w (within_limits r memory) e f)

  pub save-goes : (a : Result ℕ image_refusal.Refusal) (after : List ℕ) → not w ≡ false → saving a after ≡ save_of (header_of r) memory out → Saves r memory out a after
  unfolding save_all
  save-goes a after f g = rw (not-not-call w (within_limits r memory) e f) (ap written_by g)

module _ (h : Header) where
  pub line_known : {l : Line} → h.known ≡ true → l ≡ waiting h.session h.next → l ≡ line_of h
  line_known k e = rw k e

  pub line-fresh : {l : Line} → h.known ≡ false → l ≡ fresh_line → l ≡ line_of h
  line-fresh k e = rw k e

module _ (bytes : List ℕ) (memory : Memories) {w : Bool} (told : w ≡ is_index memory.index) where
  pub restore-unfit : (l : Line) (b : Board) (r : Reader) → not w ≡ true → l ≡ fresh_line → b ≡ fresh_board → r ≡ ready_of l b
      → Restores bytes memory (record { reader = r; verdict = Err images.Unfit }) memory
  unfolding restore_all
  restore-unfit l b r n f g e = rw (← told, not-true w n, e, f, g)

  -- the verdict is told, and the index of an accepted image's rows is built
  pub restore-goes : (after : Memories) (b : image.Restored) (l : Line) (r : Reader) → not w ≡ false
      → restoring b after.table ≡ restore_of bytes memory.table
      → after.index ≡ index_after b.verdict b.header.board.rows after.table memory.index
      → l ≡ line_of b.header → r ≡ ready_of l b.header.board → Restores bytes memory (record { reader = r; verdict = b.verdict }) after
  unfolding restore_all
  restore-goes after b l r y e x f g = rw (← told, not-false w y, g, f, ← e, ← x)

  -- the rows of an accepted image have room in both memories
  pub restored-room : (after : List ℕ) (b : image.Restored) → not w ≡ false → restoring b after ≡ restore_of bytes memory.table
      → b.verdict ≡ Ok (tt {0}) → LentFitting b.header.board.rows (memories after memory.index)
  restored-room after b y e v =
      let g = restored-good bytes memory.table after b.header (sym e ∙ ap (λ (x : Result (Unit {0}) image_refusal.Refusal). restoring (record { header = b.header; verdict = x }) after) v) in
      ((g.sound.sized, g.sound.few), eqb-true (length memory.index) index_size (sym told ∙ not-false w y))
