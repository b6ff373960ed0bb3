-- DEMAND 3, FIRST HALF: any caller, any cuts. Steps and runs that keep their promises tell what the reading of the uncut bytes tells.
-- Assumes nothing.
use mathlib.Core.Path.{◌≡◌, refl, sym, ap, ◌∙◌, subst}
use mathlib.Core.Logic.{inr}
use mathlib.Core.List.{List, [], ◌++◌}
use mathlib.Core.Bool.{Bool, true, false, cond}
use Prim.Native.Nat.{ℕ, ◌≤◌}
use native.Mathlib.Omega.{arith}
use borrow.Author.Tests.{eqb-true, eq-eqb}
use lib.ListN.{length, drop, replicate, length-replicate}
use Rattle.field.specs.Bytes.{Bytes}
use Rattle.field.proofs.Bools.{both_left, both_right}
use Rattle.message.specs.Letters.{listed}
use Rattle.packet.specs.Frame.{frame}
use Rattle.packet.specs.Line.{fresh_line}
use Rattle.packet.specs.Stream as stream
use Rattle.packet.specs.Stream.{State, live, NothingLeft, reading, events_of, Called, step_of}
use Rattle.packet.specs.Session.{Session, Event, soup_bin_tcp}
use Rattle.packet.proofs.Step as packet-steps
use Rattle.packet.proofs.Step.{any-caller}
use Rattle.packet.proofs.Ceiling.{called_on}
use Rattle.table.specs.Memory.{table_size, is_table, Memories, memories}
use Rattle.table.specs.Index.{index_size, is_index, is_lent}
use Rattle.table.specs.Board.{Indexed, beside, accepted, refused_beside, fresh_board, start_of}
use Rattle.table.specs.Rules.{Sound, board_keeps}
use Rattle.table.specs.declared.Refusal.TheVariants.{Unfit}
use Rattle.table.proofs.Kept.{start-sound}
use Rattle.table.proofs.IndexKept.{clear-sorted}
use Rattle.reader.specs.Refusals.{standing}
use Rattle.reader.specs.Deliver.{Table, Said, deliver}
use Rattle.reader.specs.View.{session_of, held_of, state_of, Seen}
use Rattle.reader.specs.Calls.{Begun, begun_of, fresh_on, verdict_number, start_number, start_all, Starting, Stepping}
use Rattle.reader.specs.declared.Reader.{Reader}
use Rattle.reader.specs.declared.Stepped.{Stepped}
use Rattle.reader.specs.declared.Started.{Started}
use Rattle.demands.specs.Callers.{Steps, stop, step, run}
use Rattle.demands.specs.Sound.{begin, SoundSession, Ours}
use Rattle.packet.proofs.Bytes.{bytes-none, spaces-bytes, bytes-append, bytes_left, bytes-right, bytes_drop}
use Rattle.demands.proofs.Kept.{Kept, kept-ours, unfinished-in, stepping-is, step-ours}
use Rattle.demands.proofs.Runs.{one-called, run-ours}
use Rattle.std.specs.Prelude.{Ok}

-- ---- steps and runs

-- the bytes that come next after a call
pub next-bytes : (piece more : List ℕ) (n : ℕ) → Bytes (piece ++ more) → Bytes (drop n piece ++ more)
next-bytes piece more n b = bytes-append (drop n piece) more (bytes_drop n piece (bytes_left piece more b)) (bytes-right piece more b)

-- the steps and runs of the code are calls of the definitions
pub steps-called : {r r' : Reader} {t t' : Memories} {bs left : List ℕ} {es : List (Event Said)} → Steps r t bs es r' t' left → Ours r t → Bytes bs
    → Called (soup_bin_tcp deliver) (state_of r t) bs es (state_of r' t') left
steps-called stop o b = stream.stop
steps-called (step {r = r} {r' = r'} {t = t} {t'' = t''} {left = left} {es = es} piece more s t' h c) o b =
    subst
    (λ (q : stream.Stepped (Session Table) (Event Said)).
    Called (soup_bin_tcp deliver) q.state (drop q.taken piece ++ more) es (state_of r' t'') left
    → Called (soup_bin_tcp deliver) (state_of r t) (piece ++ more) (events_of q.answer ++ es) (state_of r' t'') left)
    (sym (ap (λ (q : Seen). q.step) (stepping-is r t piece s t' o (bytes_left piece more b) h)))
    (stream.call piece more)
    (steps-called c (step-ours r t piece s t' o (bytes_left piece more b) h) (next-bytes piece more s.taken b))
steps-called (run {r = r} {t = t} piece more n x t' h c) o b =
    called_on (soup_bin_tcp deliver) (one-called r t piece n x t' o (bytes_left piece more b) h more)
    (steps-called c (run-ours r t piece n x t' o (bytes_left piece more b) h) (next-bytes piece more x.taken b))

-- THEOREM: steps and runs of what is ours, with any bytes, leave what is ours
pub steps-ours : {r r' : Reader} {t t' : Memories} {bs left : List ℕ} {es : List (Event Said)} → Steps r t bs es r' t' left → Ours r t → Bytes bs → Ours r' t'
steps-ours stop o b = o
steps-ours (step {r = r} {t = t} piece more s t' h c) o b =
    steps-ours c (step-ours r t piece s t' o (bytes_left piece more b) h) (next-bytes piece more s.taken b)
steps-ours (run {r = r} {t = t} piece more n x t' h c) o b =
    steps-ours c (run-ours r t piece n x t' o (bytes_left piece more b) h) (next-bytes piece more x.taken b)

-- the calls of a reader of ours that is given every byte, or has ended or refused
pub steps-read : {r r' : Reader} {t t' : Memories} {bs left : List ℕ} {es : List (Event Said)} → Steps r t bs es r' t' left → Ours r t → Bytes bs
    → NothingLeft (state_of r' t') left → reading (soup_bin_tcp deliver) (state_of r t) bs ≡ record { events = es; state = state_of r' t' }
steps-read {r = r} {t = t} c o b none =
    any-caller (soup_bin_tcp deliver) (steps-called c o b) (unfinished-in r t o) none

-- THEOREM: IT GETS ON. A reader of ours that has neither ended nor refused takes at least one byte of a piece that is not empty.
pub gets-on : (r : Reader) (t : Memories) (piece : List ℕ) (s : Stepped) (t' : Memories) → Ours r t → Bytes piece
    → (r.refusal ≡ 0) × (r.ended ≡ false) → 1 ≤ length piece
    → Stepping r t piece s t' → 1 ≤ s.taken
gets-on r t piece s t' o b alive h c =
    let st : state_of r t ≡ live (session_of r.line r.board t) (held_of r) = rw (alive.0, alive.1) in
    let e : s.taken ≡ (step_of (soup_bin_tcp deliver) (live (session_of r.line r.board t) (held_of r)) piece).taken
    = ap (λ (q : Seen). q.step.taken) (stepping-is r t piece s t' o b c)
    ∙ ap (λ (x : State (Session Table)). (step_of (soup_bin_tcp deliver) x piece).taken) st in
    rw e (packet-steps.gets-on (soup_bin_tcp deliver) (session_of r.line r.board t) (held_of r) piece o.short h)

-- ---- from the start

zeros-sound : (n m : ℕ) → n ≡ table_size → m ≡ index_size → Sound fresh_board.rows (replicate n 0)
unfolding start_of
zeros-sound n m h k =
    let l : length {A = ℕ} (replicate n 0) ≡ n = length-replicate n 0 in
    let i : length {A = ℕ} (replicate m 0) ≡ m = length-replicate m 0 in
    start-sound (memories (replicate n 0) (replicate m 0)) (replicate n 0) fresh_board
    (rw (eq-eqb (length {A = ℕ} (replicate n 0)) table_size (l ∙ h), eq-eqb (length {A = ℕ} (replicate m 0)) index_size (i ∙ k), l))

begin-sound : SoundSession begin
unfolding board_keeps listed
begin-sound =
    record {
      range = record { some = omega arith; most = omega arith };
      name = spaces-bytes 10;
      ten = refl;
      about = record { rows = zeros-sound table_size index_size refl refl; board = refl; index = clear-sorted (replicate table_size 0) };
      whose = inr refl;
    }

-- the code's answer is that the reader is ready: memory was of the right length. The sizes are any, so that no list of zeros is made for them.
ready : (n m : ℕ) (t : Memories) (s : Started) (t' : Memories) → (is_lent t ≡ true → (length t.table ≡ n) × (length t.index ≡ m))
    → s.answer ≡ Ok (tt {0}) → (y : Bool) → is_lent t ≡ y → (o : Indexed)
    → o ≡ cond y (beside (replicate (length t.index) 0) (accepted fresh_board (replicate (length t.table) 0))) (refused_beside Unfit fresh_board t)
    → begun_of s t' ≡ record { state = live (fresh_on o) []; used = 0; refusal = verdict_number o.outcome.applied.verdict }
    → (state_of s.reader t' ≡ live (session_of fresh_line fresh_board (memories (replicate n 0) (replicate m 0))) []) × (s.reader.used ≡ 0)
ready n m t s t' sizes a true e o f g =
    let z = sizes e in
    (ap (λ (q : Begun). q.state) g ∙ rw (f, z.0, z.1), ap (λ (q : Begun). q.used) g)
ready n m t s t' sizes a false e o f g =
    let z : start_number s.answer ≡ 20 = ap (λ (q : Begun). q.refusal) g ∙ rw f in
    let w : ◌≡◌ {A = ℕ} 0 20 = ap start_number (sym a) ∙ z in
    absurd (omega arith)

lent-sizes : (t : Memories) → is_lent t ≡ true → (length t.table ≡ table_size) × (length t.index ≡ index_size)
lent-sizes t e = (
  eqb-true (length t.table) table_size (both_left (is_table t.table) (is_index t.index) e),
  eqb-true (length t.index) index_size (both_right (is_table t.table) (is_index t.index) e),
)

module _ (t : Memories) (s : Started) (t₁ : Memories) (h : Starting t s t₁) (a : s.answer ≡ Ok (tt {0})) where
  pub started : (state_of s.reader t₁ ≡ live begin []) × (s.reader.used ≡ 0)
  unfolding start_all start_of
  started = ready table_size index_size t s t₁ (lent-sizes t) a (is_lent t) refl (start_of t) refl h

  -- THEOREM: a reader that was started without refusal is ours
  pub start-ours : Ours s.reader t₁
  unfolding frame standing
  start-ours =
      let k : Kept (live begin []) = record { sound = begin-sound; stands = refl; short = refl; bytes = bytes-none } in
      kept-ours s.reader t₁ (subst Kept (sym started.0) k) (omega (arith, started.1))

  -- THEOREM: ANY CALLER, ANY CUTS. Of a reader that was started without refusal, steps and runs that keep their promises, with handle and memories handed on
  -- untouched and until no byte is left or the reader has ended or refused, tell the events, in order, and leave the reader, the table and the index of the
  -- reading of the uncut bytes; a run tells those of the bytes that it takes by their count.
  pub any-cuts : {bs : List ℕ} {es : List (Event Said)} {r : Reader} {t₂ : Memories} {left : List ℕ} → Bytes bs → Steps s.reader t₁ bs es r t₂ left
      → NothingLeft (state_of r t₂) left → reading (soup_bin_tcp deliver) (live begin []) bs ≡ record { events = es; state = state_of r t₂ }
  any-cuts {bs} b c none =
      ap (λ (st : State (Session Table)). reading (soup_bin_tcp deliver) st bs) (sym started.0) ∙ steps-read c start-ours b none

  -- THEOREM: what they leave keeps the row rules and the limits of a handle, and its index is true, however many bytes are left
  pub rules-kept : {bs : List ℕ} {es : List (Event Said)} {r : Reader} {t₂ : Memories} {left : List ℕ} → Bytes bs → Steps s.reader t₁ bs es r t₂ left → Ours r t₂
  rules-kept b c = steps-ours c start-ours b
