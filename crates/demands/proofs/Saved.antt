-- Saving and restoring by the handle: what a refusal leaves, that what our own calls make is saved, and that it comes back.
-- Assumes nothing.
use mathlib.Core.Path.{◌≡◌, refl, sym, ap, ◌∙◌, subst}
use mathlib.Core.Logic.{◌⊎◌, inl, inr}
use mathlib.Core.List.{List, []}
use mathlib.Core.Bool.{Bool, true, false, ◌||◌}
use Prim.Native.Nat.{ℕ, ◌-◌, ◌≤◌}
use native.Mathlib.Omega.{arith}
use borrow.Author.Tests.{eqb-true, eq-eqb, le-leb, leb-true}
use lib.Dec.{eqb, leb}
use lib.ListN.{length, replicate}
use Rattle.field.specs.Bytes.{part, overlay, Bytes}
use Rattle.field.specs.Limits.{highest_number, number_in_range}
use Rattle.field.specs.Text.{every, is_space}
use Rattle.field.proofs.Bools.{both_left, both_right}
use Rattle.field.proofs.Runs.{spaces-are}
use Rattle.field.proofs.Parts.{part-all, part_length}
use Rattle.field.proofs.Numbers.{part_bytes}
use Rattle.packet.specs.Frame.{frame}
use Rattle.packet.specs.Stream.{live}
use Rattle.packet.specs.Line.{fresh_line, InRange}
use Rattle.packet.specs.Session.{Session}
use Rattle.packet.specs.declared.Line.{Line}
use Rattle.row.specs.Rules.{newest}
use Rattle.table.specs.Memory.{table_size, Memories, memories, row_at}
use Rattle.table.specs.Index.{index_size, is_index, built}
use Rattle.table.specs.Board.{fresh_board}
use Rattle.table.specs.Rules.{Sound, board_keeps}
use Rattle.table.specs.declared.Board.{Board}
use Rattle.table.proofs.IndexKept.{build-sorted}
use Rattle.table.proofs.IndexOnce.{sorted-once}
use Rattle.image.specs.Shape.{pages_for, blocks_for}
use Rattle.image.specs.Header as headers
use Rattle.image.specs.Header.{fresh_header, header_keeps, is_fresh}
use Rattle.image.specs.Save.{Saving, saving, unsaved, cleared, image_of, size_for, save_of}
use Rattle.image.specs.Restore as images
use Rattle.image.specs.Restore.{version_of, verdict_in, Restoring, restoring, restore_of}
use Rattle.image.specs.Moves.{moved_of}
use Rattle.image.specs.declared.Header.{Header}
use Rattle.image.specs.declared.Refusal.{Refusal}
use Rattle.image.specs.declared.Refusal.TheVariants.{Unfit}
use Rattle.image.specs.declared.Wanted.TheVariants.{Any, Older}
use Rattle.image.specs.declared.Way.TheVariants.{Forward}
use Rattle.image.proofs.Rounds.{Good, Stored, stored, taken, sound-saved, sound-cleared, saved-restored, restored-saved, restored-forward, restored-good}
use Rattle.image.proofs.Again.{kept}
use Rattle.image.proofs.Moved.{restore-forward}
use Rattle.image.proofs.Fresh.{fresh-saved}
use Rattle.image.proofs.Verdicts.{unsaved-leaves, refused-leaves}
use Rattle.reader.specs.Refusals.{standing}
use Rattle.reader.specs.Deliver.{Table}
use Rattle.reader.specs.View.{session_of, state_of, session_in, ready_of}
use Rattle.reader.specs.Limits.{within_limits}
use Rattle.reader.specs.Saving.{header_of, save_all, Saves, line_of, restored_session, Came, came, came_of, restore_number, restore_all, Restores}
use Rattle.reader.specs.declared.Reader.{Reader}
use Rattle.reader.specs.declared.Restored.{Restored}
use Rattle.reader.proofs.Views.{session-in}
use Rattle.demands.specs.Same.{SameReader}
use Rattle.demands.specs.Sound.{begin, SoundSession, Ours}
use Rattle.packet.proofs.Bytes.{bytes-none, spaces-bytes}
use Rattle.demands.proofs.Kept.{Kept, kept-ours, ours-within}
use Rattle.demands.proofs.Names.{saved-same, verdicts-same}
use Rattle.demands.proofs.Equal.{same-readers}
use Rattle.std.specs.Prelude.{Err}
use Rattle.std.specs.Prelude.{Ok}
use Rattle.std.specs.Prelude.{Result}

-- ---- DEMAND 1, of saving: a refusal writes nothing, a success exactly the stated length

module _ (r : Reader) (t out : List ℕ) (a : Result ℕ Refusal) (z : List ℕ) (h : Saves r t out a z) where
  saves-is : within_limits r t ≡ true → save_of (header_of r) t out ≡ saving a z
  unfolding save_all
  saves-is e = let o = save_of (header_of r) t out in sym (saved-same a o.answer z o.out (rw e at h))

  -- THEOREM: a handle that breaks a limit, or table memory of the wrong length, is refusal 20
  pub save-20 : within_limits r t ≡ false → (a ≡ Err Unfit) × (z ≡ out)
  unfolding save_all
  save-20 e =
      let g : saving a z ≡ unsaved Unfit out = saved-same a (Err Unfit) z out (rw e at h) in
      (ap (λ (s : Saving). s.answer) g, ap (λ (s : Saving). s.out) g)

  -- THEOREM: a refusal, 20, 24 or 25, writes nothing
  pub save-leaves : {x : Refusal} → a ≡ Err x → z ≡ out
  save-leaves {x} f = by (within_limits r t) refl
    where
      by : (y : Bool) → within_limits r t ≡ y → z ≡ out
      by true e = unsaved-leaves (header_of r) t out z x (saves-is e ∙ ap (λ (b : Result ℕ Refusal). saving b z) f)
      by false e = (save-20 e).1

  -- THEOREM: a success writes the image from the start, so long as it says, and touches nothing after it
  pub save-writes : {n : ℕ} → a ≡ Ok n → within_limits r t ≡ true → Stored (header_of r) t out n z
  save-writes {n} f e = stored (header_of r) t out n z (saves-is e ∙ ap (λ (b : Result ℕ Refusal). saving b z) f)

-- ---- DEMAND 1, of restoring: a refusal leaves all memory, and gives a fresh handle

module _ (bytes : List ℕ) (t : Memories) (q : Restored) (t₁ : Memories) (h : Restores bytes t q t₁) where
  abbrev image : Restoring
  image = restore_of bytes t.table

  -- index memory of the right length, or not
  judged : is_index t.index ≡ true → came_of q t₁ ≡ came (restored_session image t.index) (restore_number image.answer.verdict)
  unfolding restore_all
  judged e = rw e at h

  unjudged : is_index t.index ≡ false → came_of q t₁ ≡ came (session_of fresh_line fresh_board t) 20
  unfolding restore_all
  unjudged e = rw e at h

  came-verdict : is_index t.index ≡ true → q.verdict ≡ image.answer.verdict
  came-verdict e = verdicts-same q.verdict image.answer.verdict (ap (λ (c : Came). c.refusal) (judged e))

  -- THEOREM: 20 to 24 on restoring leave the table and its index
  pub restore-leaves : {x : Refusal} → q.verdict ≡ Err x → SameReader q.reader (ready_of fresh_line fresh_board) × (t₁ ≡ t)
  restore-leaves {x} f = by (is_index t.index) refl
    where
      by : (y : Bool) → is_index t.index ≡ y → SameReader q.reader (ready_of fresh_line fresh_board) × (t₁ ≡ t)
      by true e =
          let o = restore_of bytes t.table in
          let v : o.answer.verdict ≡ Err x = sym (came-verdict e) ∙ f in
          let w : o ≡ restoring (images.restored (Err x) o.answer.header) o.memory
          = ap (λ (y : Result (Unit {0}) Refusal). restoring (images.restored y o.answer.header) o.memory) v in
          let g = refused-leaves bytes t.table o.memory o.answer.header x w in
          same-readers q.reader (ready_of fresh_line fresh_board) t₁ t (ap (λ (c : Came). c.state) (judged e) ∙ rw (v, g.0, g.1))
          (ap (λ (c : Came). c.used) (judged e))
      by false e =
          same-readers q.reader (ready_of fresh_line fresh_board) t₁ t (ap (λ (c : Came). c.state) (unjudged e)) (ap (λ (c : Came). c.used) (unjudged e))

  -- it holds nothing
  pub restored-unheld : q.reader.used ≡ 0
  restored-unheld = by (is_index t.index) refl
    where
      by : (y : Bool) → is_index t.index ≡ y → q.reader.used ≡ 0
      by true e = ap (λ (c : Came). c.used) (judged e)
      by false e = ap (λ (c : Came). c.used) (unjudged e)

-- ---- WHAT WAS RESTORED IS OURS

-- a table with no rows is all zeros
no_rows : (mem : List ℕ) → Sound 0 mem → mem ≡ replicate table_size 0
no_rows mem s =
    let z : length mem - row_at 0 ≡ length mem = omega arith in
    sym (part-all mem) ∙ (rw z at s.blank) ∙ ap (λ (n : ℕ). replicate n 0) s.sized

-- a table with the index that is built of its rows
abbrev pub indexed : ℕ → List ℕ → Memories
indexed rows mem = memories mem (built rows index_size mem)

-- an unknown session is a fresh one
fresh-back : (h : Header) (mem : List ℕ) → Good h mem → is_fresh h ≡ true → session_of fresh_line h.board (indexed h.board.rows mem) ≡ begin
unfolding is_fresh built
fresh-back h mem g e =
    let a = both_right (every is_space h.session) _ e in
    let b = both_right (eqb h.next 1) _ a in
    let c = both_right (eqb h.board.event 0) _ b in
    let event : h.board.event ≡ 0 = eqb-true h.board.event 0 (both_left (eqb h.board.event 0) _ b) in
    let rows : h.board.rows ≡ 0 = eqb-true h.board.rows 0 (both_left (eqb h.board.rows 0) _ c) in
    let number : h.board.live ≡ 0 = eqb-true h.board.live 0 (both_right (eqb h.board.rows 0) _ c) in
    let board : h.board ≡ fresh_board = λ i. record { rows = rows i; event = event i; live = number i } in
    let memory : mem ≡ replicate table_size 0 = no_rows mem (subst (λ (n : ℕ). Sound n mem) rows g.sound) in
    ap (λ (x : Board). session_of fresh_line x (indexed x.rows mem)) board ∙ ap (λ (x : List ℕ). session_of fresh_line fresh_board (indexed 0 x)) memory

came-whose : (h : Header) (mem : List ℕ) → Good h mem → (k : Bool) → h.known ≡ k → k || is_fresh h ≡ true
    → ((line_of h).known ≡ true) ⊎ (session_of (line_of h) h.board (indexed h.board.rows mem) ≡ begin)
came-whose h mem g true k e = inl (rw k)
came-whose h mem g false k e = inr (rw k (fresh-back h mem g e))

came-range : (h : Header) → number_in_range h.next ≡ true → (k : Bool) → h.known ≡ k → InRange (line_of h)
came-range h e true k = rw k (record { some = leb-true 1 h.next (both_left (leb 1 h.next) (leb h.next highest_number) e); most = leb-true h.next highest_number (both_right (leb 1 h.next) (leb h.next highest_number) e) })
came-range h e false k = rw k (record { some = omega arith; most = omega arith })

came-name : (h : Header) → Bytes h.session → (k : Bool) → h.known ≡ k → Bytes (line_of h).session
came-name h b true k = rw k b
came-name h b false k = rw k (spaces-bytes 10)

came-ten : (h : Header) → length h.session ≡ 10 → (k : Bool) → h.known ≡ k → length (line_of h).session ≡ 10
came-ten h l true k = rw k l
came-ten h l false k = rw k

came-sound : (h : Header) (mem : List ℕ) → Good h mem → Bytes h.session → length h.session ≡ 10
    → SoundSession (session_of (line_of h) h.board (indexed h.board.rows mem))
unfolding header_keeps
came-sound h mem g b l =
    record {
      range = came-range h g.next h.known refl;
      name = came-name h b h.known refl;
      ten = came-ten h l h.known refl;
      about = record {
        rows = g.sound;
        board = both_left (board_keeps h.board) _ g.header;
        index = build-sorted h.board.rows mem g.sound;
      };
      whose = came-whose h mem g h.known refl (both_right (board_keeps h.board) (h.known || is_fresh h) g.header);
    }

module _ (bytes : List ℕ) (t : Memories) (q : Restored) (t₁ : Memories) (h : Restores bytes t q t₁) (v : q.verdict ≡ Ok (tt {0})) where
  abbrev header : Header
  header = (restore_of bytes t.table).answer.header

  abbrev restored_table : List ℕ
  restored_table = (restore_of bytes t.table).memory

  -- index memory was of the right length
  lent : is_index t.index ≡ true
  lent = by (is_index t.index) refl
    where
      by : (y : Bool) → is_index t.index ≡ y → is_index t.index ≡ true
      by true e = e
      by false e =
          let z : ◌≡◌ {A = ℕ} 0 20 = ap restore_number (sym v) ∙ ap (λ (c : Came). c.refusal) (unjudged bytes t q t₁ h e) in
          absurd (omega arith)

  accepted-is : restore_of bytes t.table ≡ restoring (images.restored (Ok (tt {0})) header) restored_table
  accepted-is =
      ap (λ (y : Result (Unit {0}) Refusal). restoring (images.restored y header) restored_table) (sym (came-verdict bytes t q t₁ h lent) ∙ v)

  came-state : state_of q.reader t₁ ≡ live (session_of (line_of header) header.board (indexed header.board.rows restored_table)) []
  came-state =
      let n : length t.index ≡ index_size = eqb-true (length t.index) index_size lent in
      ap (λ (c : Came). c.state) (judged bytes t q t₁ h lent)
      ∙ ap (λ (x : Restoring). live (restored_session x t.index) []) accepted-is
      ∙ ap (λ (k : ℕ). live (session_of (line_of header) header.board (memories restored_table (built header.board.rows k restored_table))) []) n

  -- the session that an image of bytes names
  header-name : Bytes bytes → Bytes header.session
  unfolding headers.header_of
  header-name b = rw (taken bytes t.table restored_table header accepted-is).1 (part_bytes bytes 14 10 b)

  header-ten : length header.session ≡ 10
  unfolding headers.header_of
  header-ten =
      let g = taken bytes t.table restored_table header accepted-is in
      rw g.1 (part_length bytes 14 10 (omega (arith, (kept Any bytes g.0).0.size.some)))

  -- THEOREM: a reader that was restored from bytes without refusal, its table and its index are as our own calls make them
  pub restore-ours : Bytes bytes → Ours q.reader t₁
  unfolding frame standing
  restore-ours b =
      let k : Kept (live (session_of (line_of header) header.board (indexed header.board.rows restored_table)) [])
      = record {
        sound = came-sound header restored_table (restored-good bytes t.table restored_table header accepted-is) (header-name b) header-ten;
        stands = refl;
        short = refl;
        bytes = bytes-none;
      } in
      kept-ours q.reader t₁ (subst Kept (sym came-state) k) (omega (arith, restored-unheld bytes t q t₁ h))

-- ---- WHAT IS OURS IS SAVED

next-in-range : (r : Reader) (t : Memories) → Ours r t → number_in_range r.line.next ≡ true
next-in-range r t o = rw (le-leb 1 r.line.next o.sound.range.some, le-leb r.line.next highest_number o.sound.range.most)

-- with a known session
known-saves : (r : Reader) (t : Memories) (o : Ours r t) → r.line.known ≡ true → (out : List ℕ) → size_for r.board.rows ≤ length out
    → (a : Result ℕ Refusal) (z : List ℕ) → Saves r t.table out a z → a ≡ Ok (size_for r.board.rows)
known-saves r t o known out room a z h =
    ap (λ (s : Saving). s.answer)
    (sym (saves-is r t.table out a z h (ours-within r t o))
    ∙ sound-saved (header_of r) t.table o.sound.about.rows (next-in-range r t o) o.sound.about.board known out room)

-- a reader to which nothing has happened is saved as one block
fresh-saves : (r : Reader) (t : Memories) → Ours r t → session_of r.line r.board t ≡ begin → (out : List ℕ) → size_for r.board.rows ≤ length out
    → (a : Result ℕ Refusal) (z : List ℕ) → Saves r t.table out a z → a ≡ Ok (size_for r.board.rows)
unfolding size_for blocks_for pages_for
fresh-saves r t o e out room a z h =
    let line : r.line ≡ fresh_line = ap (λ (s : Session Table). s.line) e in
    let board : r.board ≡ fresh_board = ap (λ (s : Session Table). s.about.board) e in
    let head : header_of r ≡ fresh_header = rw (line, board) in
    let rows : r.board.rows ≡ 0 = ap (λ (b : Board). b.rows) board in
    let fits : size_for 0 ≤ length out = subst (λ (n : ℕ). size_for n ≤ length out) rows room in
    let saved : save_of (header_of r) t.table out ≡ saving (Ok (size_for 0)) (overlay out 0 (image_of fresh_header t.table))
    = ap (λ (x : Header). save_of x t.table out) head ∙ fresh-saved t.table out o.sound.about.rows.sized fits in
    ap (λ (s : Saving). s.answer) (sym (saves-is r t.table out a z h (ours-within r t o)) ∙ saved)
    ∙ ap (λ (n : ℕ). Ok (size_for n)) (sym rows)

-- what the image gives is what comes back
pub gives : (bytes : List ℕ) (t : Memories) (q : Restored) (t₁ : Memories) → Restores bytes t q t₁ → length t.index ≡ index_size → (h : Header) (mem : List ℕ)
    → restore_of bytes t.table ≡ restoring (images.restored (Ok (tt {0})) h) mem
    → (q.verdict ≡ Ok (tt {0})) × (state_of q.reader t₁ ≡ live (session_of (line_of h) h.board (indexed h.board.rows mem)) [])
gives bytes t q t₁ r i h mem e =
    let v : q.verdict ≡ Ok (tt {0})
    = came-verdict bytes t q t₁ r (eq-eqb (length t.index) index_size i) ∙ ap (λ (x : Restoring). x.answer.verdict) e in (
      v,
      came-state bytes t q t₁ r v
          ∙ ap (λ (x : Restoring). live (session_of (line_of x.answer.header) x.answer.header.board (indexed x.answer.header.board.rows x.memory)) []) e,
    )

-- THEOREM: saving what our own calls make is not refused but where the output is too short
pub ours-saved : (r : Reader) (t : Memories) → Ours r t → (out : List ℕ) → size_for r.board.rows ≤ length out → (a : Result ℕ Refusal) (z : List ℕ)
    → Saves r t.table out a z → a ≡ Ok (size_for r.board.rows)
ours-saved r t o out room a z h = by o.sound.whose
  where
    by : (r.line.known ≡ true) ⊎ (session_of r.line r.board t ≡ begin) → a ≡ Ok (size_for r.board.rows)
    by (inl k) = known-saves r t o k out room a z h
    by (inr e) = fresh-saves r t o e out room a z h

-- ---- DEMAND 2, OF SAVED TABLES, by the reader's own calls

-- what is ours comes back whole: nothing but zeros stands past its rows
ours-cleared : (r : Reader) (t : Memories) → Ours r t → cleared r.board.rows t.table ≡ t.table
ours-cleared r t o =
    let known : Header = record { session = r.line.session; known = true; next = r.line.next; board = r.board } in
    sound-cleared known t.table o.sound.about.rows (next-in-range r t o) o.sound.about.board refl

-- and the index that is built of its rows is the one that it has
ours-indexed : (r : Reader) (t : Memories) → Ours r t → indexed r.board.rows t.table ≡ t
ours-indexed r t o =
    let x = o.sound.about in
    ap (memories t.table)
    (sorted-once r.board.rows t.table (built r.board.rows index_size t.table) t.index
    (build-sorted r.board.rows t.table x.rows) x.index)

module _ (r : Reader) (t : Memories) (o : Ours r t) (out : List ℕ) (room : size_for r.board.rows ≤ length out)
    (a : Result ℕ Refusal) (z : List ℕ) (h : Saves r t.table out a z) where
  pub was-saved : save_of (header_of r) t.table out ≡ saving (Ok (size_for r.board.rows)) z
  was-saved = saves-is r t.table out a z h (ours-within r t o) ∙ ap (λ (b : Result ℕ Refusal). saving b z) (ours-saved r t o out room a z h)

  -- THEOREM: SAVE, THEN RESTORE. From any handle of ours it is not refused; it gives the same table and the same index, and a reader that waits for a
  -- login to the session, or a fresh one where no session is known.
  pub comes_back : (t₀ : Memories) → length t₀.table ≡ table_size → length t₀.index ≡ index_size → (q : Restored) (t₁ : Memories)
      → Restores (part z 0 (size_for r.board.rows)) t₀ q t₁
      → (q.verdict ≡ Ok (tt {0})) × (state_of q.reader t₁ ≡ live (session_of (line_of (header_of r)) r.board t) [])
  comes_back t₀ l i q t₁ g =
      let n = size_for r.board.rows in
      let back : restore_of (part z 0 n) t₀.table ≡ restoring (images.restored (Ok (tt {0})) (header_of r)) t.table
      = saved-restored (header_of r) t.table out z n o.sound.ten was-saved t₀.table l
      ∙ ap (restoring (images.restored (Ok (tt {0})) (header_of r))) (ours-cleared r t o) in
      let come = gives (part z 0 n) t₀ q t₁ g i (header_of r) t.table back in
      (come.0, come.1 ∙ ap (λ (x : Memories). live (session_of (line_of (header_of r)) r.board x) []) (ours-indexed r t o))

-- the header that is saved of a line and a board
abbrev headed : Line → Board → Header
headed l b = record { session = l.session; known = l.known; next = l.next; board = b }

-- the line of a header says what the header said
line-back : (h : Header) → length h.session ≡ 10 → (k : Bool) → h.known ≡ k → k || is_fresh h ≡ true → headed (line_of h) h.board ≡ h
unfolding is_fresh
line-back h l true k e = rw k
line-back h l false k e =
    let b = both_right (every is_space h.session) _ e in
    let session : replicate 10 32 ≡ h.session
    = ap (λ (n : ℕ). replicate n 32) (sym l) ∙ sym (spaces-are h.session (both_left (every is_space h.session) _ e)) in
    let next : 1 ≡ h.next = sym (eqb-true h.next 1 (both_left (eqb h.next 1) _ b)) in
    rw k (λ i. record { session = session i; known = false; next = next i; board = h.board })

module _ (bytes : List ℕ) (t : Memories) (q : Restored) (t₁ : Memories) (h : Restores bytes t q t₁) (v : q.verdict ≡ Ok (tt {0})) (b : Bytes bytes) where
  abbrev saved : Header
  saved = (restore_of bytes t.table).answer.header

  abbrev saved_table : List ℕ
  saved_table = (restore_of bytes t.table).memory

  came-back : session_of q.reader.line q.reader.board t₁ ≡ session_of (line_of saved) saved.board (indexed saved.board.rows saved_table)
  came-back = sym (session-in q.reader t₁) ∙ ap session_in (came-state bytes t q t₁ h v)

  header-back : header_of q.reader ≡ saved
  unfolding header_keeps
  header-back =
      let g = restored-good bytes t.table saved_table saved (accepted-is bytes t q t₁ h v) in
      ap (λ (s : Session Table). headed s.line s.about.board) came-back
      ∙ line-back saved (header-ten bytes t q t₁ h v) saved.known refl (both_right (board_keeps saved.board) (saved.known || is_fresh saved) g.header)

  -- saving it is saving what was restored
  saved-as : (out image : List ℕ) → save_of saved saved_table out ≡ saving (Ok (length bytes)) (overlay out 0 image) → (a : Result ℕ Refusal) (z : List ℕ)
      → Saves q.reader t₁.table out a z → (a ≡ Ok (length bytes)) × (z ≡ overlay out 0 image)
  saved-as out image s a z g =
      let o = restore-ours bytes t q t₁ h v b in
      let e : saving a z ≡ saving (Ok (length bytes)) (overlay out 0 image)
      = sym (saves-is q.reader t₁.table out a z g (ours-within q.reader t₁ o))
      ∙ ap (λ (x : Header). save_of x t₁.table out) header-back
      ∙ ap (λ (x : Session Table). save_of saved x.about.memory.table out) came-back ∙ s in
      (ap (λ (x : Saving). x.answer) e, ap (λ (x : Saving). x.out) e)

  -- THEOREM: RESTORE, THEN SAVE. The bytes are those of the image, for every image of version 3 that was not refused, of a known session or of none.
  pub goes_back : version_of bytes ≡ newest → (out : List ℕ) → length bytes ≤ length out → (a : Result ℕ Refusal) (z : List ℕ) → Saves q.reader t₁.table out a z
      → (a ≡ Ok (length bytes)) × (z ≡ overlay out 0 bytes)
  goes_back n out room = saved-as out bytes (restored-saved bytes t.table out saved_table saved b n (accepted-is bytes t q t₁ h v) room)

  -- THEOREM: and those of its move forward, for one of another version
  pub goes-forward : eqb (version_of bytes) newest ≡ false → (out : List ℕ) → length bytes ≤ length out → (a : Result ℕ Refusal) (z : List ℕ) → Saves q.reader t₁.table out a z
      → (a ≡ Ok (length bytes)) × (z ≡ overlay out 0 (moved_of Forward bytes))
  goes-forward n out room = saved-as out (moved_of Forward bytes) (restored-forward bytes t.table out saved_table saved n (accepted-is bytes t q t₁ h v) room)

-- THEOREM: restoring an older image is restoring its move forward
pub restores-forward : (bytes : List ℕ) → verdict_in Older bytes ≡ Ok (tt {0}) → (t : Memories) (q : Restored) (t₁ : Memories) → Restores bytes t q t₁
    → Restores (moved_of Forward bytes) t q t₁
unfolding restore_all
restores-forward bytes e t q t₁ h = rw (restore-forward bytes t.table e) h
