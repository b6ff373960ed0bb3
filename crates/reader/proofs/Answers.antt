-- An answer that the code reads back, by its kind.
-- Assumes nothing.
use mathlib.Core.Path.{◌≡◌}
use mathlib.Core.List.{List}
use Prim.Native.Nat.{ℕ, ◌%◌}
use borrow.Author.Tests.{ne_eqb}
use Rattle.field.specs.Bytes.{part, be}
use Rattle.message.specs.Letters.{no_texts}
use Rattle.message.specs.declared.Texts as message
use Rattle.packet.specs.Stream as stream
use Rattle.packet.specs.Session as packets
use Rattle.record.specs.Record.{record_of}
use Rattle.record.specs.declared.Held.{Held}
use Rattle.message.specs.declared.Message.{Message}
use Rattle.reader.specs.Refusals.{named}
use Rattle.reader.specs.Handles.{message_in, kind_in, answer_for, answer_in}
use Rattle.reader.specs.Shapes.{read_back, beside, quiet_heard}
use Rattle.reader.specs.View.{no_session}
use Rattle.reader.specs.declared.Refusal.{Refusal}
use Rattle.reader.specs.declared.Event.TheVariants as event
use Rattle.reader.specs.declared.StepAnswer.{StepAnswer}
use Rattle.reader.specs.declared.StepAnswer.TheVariants as answer
use Rattle.reader.specs.declared.told.Heard.{Heard}
use Rattle.std.specs.Prelude.{None}
use Rattle.std.specs.Prelude.{Some}

-- ---- what stands in event memory

pub login-heard : (memory session : List ℕ) (n : ℕ) (t : message.Texts)
    → session ≡ part memory 8 10 → n ≡ be (part memory 0 8) → t ≡ no_texts
    → read_back (record { answer = answer.Event (event.Login n); texts = record { session = session; message = t } })
    ≡ beside (stream.Event (packets.login (be (part memory 0 8)) (part memory 8 10)))
login-heard memory session n t e f g = rw (e, f, g)

module _ (memory : List ℕ) (x : Held) (e : x ≡ record_of memory) where
  pub message-heard : (m : Message) → x.taken ≡ Some m
      → read_back (record { answer = answer.Event (event.Message m); texts = record { session = no_session; message = x.texts } })
      ≡ beside (message_in (record_of memory).taken (record_of memory).texts)
  message-heard m f = rw (← e, f)

  pub nothing-heard : (h : Heard) → x.taken ≡ None → h ≡ quiet_heard answer.More
      → read_back h ≡ beside (message_in (record_of memory).taken (record_of memory).texts)
  nothing-heard h f g = rw (← e, f, g)

-- ---- by the kind

module _ (number : ℕ) (memory : List ℕ) (h : Heard) where
  pub heard-at : {k : ℕ} → kind_in number ≡ k → read_back h ≡ beside (answer_for k (number % 256) memory) → read_back h ≡ beside (answer_in number memory)
  heard-at e f = rw e f

  pub heard-quiet : {k : ℕ} (a : StepAnswer) → kind_in number ≡ k → h ≡ quiet_heard a
      → read_back (quiet_heard a) ≡ beside (answer_for k (number % 256) memory) → read_back h ≡ beside (answer_in number memory)
  heard-quiet a e f g = rw (e, f) g

  pub heard-rejected : (reason : ℕ) → kind_in number ≡ 2 → reason ≡ be (part memory 0 1) → h ≡ quiet_heard (answer.Event (event.Rejected reason))
      → read_back h ≡ beside (answer_in number memory)
  unfolding answer_for
  heard-rejected reason e f g = rw (e, g, f)

  pub heard-refused : (r : Refusal) → h ≡ quiet_heard (answer.Refused r) → r ≡ named (number % 256)
      → (kind_in number ≡ 0 → ⊥) → (kind_in number ≡ 1 → ⊥) → (kind_in number ≡ 2 → ⊥) → (kind_in number ≡ 3 → ⊥)
      → (kind_in number ≡ 4 → ⊥) → (kind_in number ≡ 5 → ⊥) → (kind_in number ≡ 6 → ⊥) → (kind_in number ≡ 7 → ⊥)
      → read_back h ≡ beside (answer_in number memory)
  unfolding answer_for
  heard-refused r e f n₀ n₁ n₂ n₃ n₄ n₅ n₆ n₇ =
      let k : ℕ = kind_in number in
      rw (e, f)
      (simp (ne_eqb k 0 n₀, ne_eqb k 1 n₁, ne_eqb k 2 n₂, ne_eqb k 3 n₃, ne_eqb k 4 n₄, ne_eqb k 5 n₅, ne_eqb k 6 n₆, ne_eqb k 7 n₇))
