-- A STEP THAT ITS INDEX LED ASTRAY IS UNDONE: where refusal 20 came of it, the handle is what it was, and nothing was taken.
-- Assumes nothing.
use mathlib.Core.Path.{◌≡◌, refl, sym, ap, ◌∙◌}
use mathlib.Core.Bool.{Bool, true, false, cond}
use mathlib.Core.List.{List}
use Prim.Native.Nat.{ℕ, ◌+◌, ◌*◌, ◌%◌, ◌≤◌}
use native.Mathlib.Decide.{ℕ_discrete}
use native.Mathlib.Omega.{arith}
use borrow.Author.Tests.{eqb-true, eq-eqb, ne_eqb}
use lib.Dec.{eqb}
use lib.ListN.{length, take}
use lib.Seq.{length-take-le}
use Rattle.field.specs.Bytes.{Bytes, part, overlay}
use Rattle.field.proofs.Numbers.{Lent, lent-bytes, part_bytes}
use Rattle.packet.specs.Frame.{held_size}
use Rattle.packet.specs.Stream as stream
use Rattle.packet.specs.Stream.{State, live, refused_by}
use Rattle.packet.specs.Session.{Session, Event, login, rejected, message, heartbeat, end, skipped, soup_bin_tcp}
use Rattle.packet.proofs.Rules.{never}
use Rattle.packet.proofs.Refused.{session-leaves, step-refused}
use Rattle.table.specs.Memory.{Memories}
use Rattle.handle.specs.Handle.{head_size, head_of, handle_bytes, places_in}
use Rattle.handle.specs.declared.Head.{Head}
use Rattle.handle.proofs.Rounds.{handle-length, head-fits}
use Rattle.handle.proofs.Single.{used-put, refusal-put}
use Rattle.reader.specs.Deliver.{Table, Said, deliver}
use Rattle.reader.specs.View.{seen, memory_in, held_in}
use Rattle.reader.specs.Calls.{is_unfit, unmoved, step_in, places_by, places_after}
use Rattle.reader.specs.Handles.{head_in, Left, left, event_number, told_number, gone_to, turned_as}
use Rattle.reader.specs.Shapes.{Going, session_at, step_on, gone_on, heeded_on, is_astray, held_again}
use Rattle.reader.proofs.Delivered.{own-ten, own-long}
use Rattle.reader.proofs.Fits.{SessionFits, AnswerFits, step_fits}
use Rattle.reader.proofs.Onward.{number-back}
use Rattle.reader.proofs.Undone.{deliver-undone}

-- ---- the number of a step says that it went astray exactly where its answer does

refused-astray : (n : ℕ) → eqb (2048 + n) 2068 ≡ eqb n 20
refused-astray n = by (ℕ_discrete n 20)
  where
    by : Dec (n ≡ 20) → eqb (2048 + n) 2068 ≡ eqb n 20
    by (yes e) = eq-eqb (2048 + n) 2068 (omega (arith, e)) ∙ sym (eq-eqb n 20 e)
    by (no d) = ne_eqb (2048 + n) 2068 (λ z. d (omega (arith, z))) ∙ sym (ne_eqb n 20 d)

answer-astray : (a : stream.Answer (Event Said)) → eqb (told_number a) 2068 ≡ is_unfit a
unfolding told_number event_number
answer-astray (stream.Event (login n session)) = refl
answer-astray (stream.Event (rejected reason)) = refl
answer-astray (stream.Event (message x)) = refl
answer-astray (stream.Event heartbeat) = refl
answer-astray (stream.Event end) = refl
answer-astray (stream.Event skipped) = refl
answer-astray stream.More = refl
answer-astray stream.Ended = refl
answer-astray (stream.Refused n) = refused-astray n

number-astray : (a : stream.Answer (Event Said)) (n : ℕ) → AnswerFits a → is_astray (told_number a + n * 65_536) ≡ is_unfit a
number-astray a n f = ap (λ (k : ℕ). eqb k 2068) (number-back n a f).low ∙ answer-astray a

unfit-is : (a : stream.Answer (Event Said)) → is_unfit a ≡ true → a ≡ stream.Refused 20
unfit-is (stream.Event e) h = absurd (never h)
unfit-is stream.More h = absurd (never h)
unfit-is stream.Ended h = absurd (never h)
unfit-is (stream.Refused n) h = ap stream.Refused (eqb-true n 20 h)

-- ---- the handle

module _ (handle : List ℕ) (memory : Memories) (g : Going handle memory) (start : (head_of handle).used ≤ held_size) (lent : Lent handle) (piece : List ℕ) where
  abbrev h : Head
  h = head_of handle

  abbrev places : List ℕ
  places = places_in handle

  abbrev s : Session Table
  s = session_at handle memory

  abbrev held : List ℕ
  held = take h.used places

  abbrev x : stream.Stepped (Session Table) (Event Said)
  x = step_on handle memory piece

  abbrev gone : stream.Stepped (Session Table) (Event Said) → Left
  gone y = turned_as (gone_to (seen y) (places_after places h.used piece (seen y)))

  session-fits : SessionFits s
  session-fits =
      let f = head-fits handle (handle-length handle g.handle-is) (lent-bytes handle lent) in
      record {
        ten = own-ten handle g.handle-is;
        some = g.some;
        most = g.most;
        board = record { rows = g.fitting.0.1; live = f.live; event = f.event };
      }

  held_bytes : Bytes held
  unfolding part
  held_bytes = part_bytes places 0 h.used (part_bytes handle head_size held_size (lent-bytes handle lent))

  pub going-fits : Bytes piece → AnswerFits x.answer
  going-fits p = (step_fits (live s held) piece held_bytes p session-fits).answer

  -- with no refusal standing and so many bytes held, as they were
  abbrev head_held : ℕ → ℕ → Head
  head_held refusal used = record { line = h.line; board = h.board; ended = false; refusal = refusal; used = used }

  held-length : length held ≡ h.used
  held-length = length-take-le h.used places (omega (arith, own-long handle g.handle-is, start))

  module _ {a : ℕ} {handle₁ : List ℕ} {memory₁ : Memories} (p : Bytes piece) (e : left a handle₁ memory₁ ≡ gone_on handle memory piece) where
    number : is_astray a ≡ is_unfit x.answer
    number = ap (λ (l : Left). is_astray l.number) e ∙ number-astray x.answer x.taken (going-fits p)

    -- what a step that went astray had left
    module _ (y : is_unfit x.answer ≡ true) where
      refused-state : x.state ≡ refused_by 20 s
      refused-state = step-refused (soup_bin_tcp deliver) (session-leaves deliver deliver-undone) s held piece 20 (unfit-is x.answer y)

      same_memory : memory₁ ≡ memory
      same_memory = ap (λ (l : Left). l.memory) e ∙ ap memory_in refused-state

      refused-handle : handle₁ ≡ handle_bytes (head_held 20 0) places
      refused-handle =
          ap (λ (l : Left). l.handle) e
          ∙ ap (λ (b : stream.Answer (Event Said)). handle_bytes (head_in x.state (length (held_in x.state))) (places_by b places (overlay places h.used (part piece 0 x.taken))))
          (unfit-is x.answer y)
          ∙ ap (λ (q : State (Session Table)). handle_bytes (head_in q (length (held_in q))) places) refused-state

      undone : (used : ℕ) → held_again used handle₁ ≡ handle_bytes (head_held 0 used) places
      undone used =
          used-put (head_held 0 0) places (own-ten handle g.handle-is)
          (refusal-put (head_held 20 0) places (own-ten handle g.handle-is) refused-handle 0 refl) used refl

    pub heeded-as : {r used : ℕ} {handle' : List ℕ} → used ≡ h.used → r ≡ cond (is_astray a) 2068 a
        → handle' ≡ cond (is_astray a) (held_again used handle₁) handle₁ → left r handle' memory₁ ≡ heeded_on handle memory piece
    unfolding step_in told_number
    heeded-as {r} {used} {handle'} u f k = by (is_unfit x.answer) refl
      where
        by : (y : Bool) → is_unfit x.answer ≡ y → left r handle' memory₁ ≡ gone (cond y (unmoved (live s held)) x)
        by false y =
            let n : is_astray a ≡ false = number ∙ y in
            (λ i. left ((rw n at f) i) ((rw n at k) i) memory₁) ∙ e
        by true y =
            let n : is_astray a ≡ true = number ∙ y in
            (λ i. left ((rw n at f) i) ((rw n at k) i) (same_memory y i))
            ∙ ap (λ (b : List ℕ). left 2068 b memory) (undone y used)
            ∙ ap (λ (m : ℕ). left 2068 (handle_bytes (head_held 0 m) places) memory) (u ∙ sym held-length)

    -- a number that is a message's is not astray
    pub unheeded : a % 65_536 ≡ 768 → left a handle₁ memory₁ ≡ heeded_on handle memory piece
    unheeded m =
        let n : is_astray a ≡ false = ap (λ (k : ℕ). eqb k 2068) m in
        heeded-as {used = h.used} refl (rw n) (rw n)
