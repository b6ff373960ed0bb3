-- A reader and the bytes that it is: the state, the head and the places that stand in a handle.
-- Assumes nothing.
use mathlib.Core.Path.{◌≡◌, refl, ap, ◌∙◌}
use mathlib.Core.Bool.{Bool, true, false, cond}
use mathlib.Core.List.{List}
use Prim.Native.Nat.{ℕ}
use borrow.Author.Tests.{eqb-true}
use lib.Dec.{eqb}
use lib.ListN.{length}
use Rattle.field.specs.Bytes.{overlay}
use Rattle.packet.specs.Stream.{State, live, ended, refused}
use Rattle.packet.specs.Session.{Session}
use Rattle.packet.specs.Frame.{held_size}
use Rattle.table.specs.Memory.{Memories}
use Rattle.handle.specs.Handle.{head_size, handle_size, head_of, head_bytes, handle_bytes, places_in}
use Rattle.handle.specs.declared.Head.{Head}
use Rattle.handle.proofs.Rounds.{HeadFits}
use Rattle.handle.proofs.Laid.{laid-head, laid-places, put-over}
use Rattle.reader.specs.Deliver.{Table}
use Rattle.reader.specs.View.{session_of, reader_with, head_part, held_of, state_of, session_in, memory_in, held_in}
use Rattle.reader.specs.Handles.{reader_in, head_in}
use Rattle.reader.specs.declared.Reader.{Reader}

-- ---- a reader's state has its head, its table memory and what it holds

module _ (r : Reader) (memory : Memories) where
  abbrev state_by : Bool → Bool → State (Session Table)
  state_by none end =
      let s = session_of r.line r.board memory in
      cond none (cond end (ended s (held_of r)) (live s (held_of r))) (refused s (held_of r) r.ended r.refusal)

  head-by : (none end : Bool) → eqb r.refusal 0 ≡ none → r.ended ≡ end → head_in (state_by none end) r.used ≡ head_part r
  head-by true true e f = rw (f, eqb-true r.refusal 0 e)
  head-by true false e f = rw (f, eqb-true r.refusal 0 e)
  head-by false end e f = refl

  pub head_in_lem : head_in (state_of r memory) r.used ≡ head_part r
  head_in_lem = head-by (eqb r.refusal 0) r.ended refl refl

  session-by : (none end : Bool) → session_in (state_by none end) ≡ session_of r.line r.board memory
  session-by true true = refl
  session-by true false = refl
  session-by false end = refl

  pub session-in : session_in (state_of r memory) ≡ session_of r.line r.board memory
  session-in = session-by (eqb r.refusal 0) r.ended

  pub memory-in : memory_in (state_of r memory) ≡ memory
  memory-in = ap (λ (s : Session Table). s.about.memory) session-in

  held_by : (none end : Bool) → held_in (state_by none end) ≡ held_of r
  held_by true true = refl
  held_by true false = refl
  held_by false end = refl

  pub held_in_lem : held_in (state_of r memory) ≡ held_of r
  held_in_lem = held_by (eqb r.refusal 0) r.ended

-- ---- a reader in the bytes of its handle

-- A READER COMES BACK FROM ITS HANDLE
pub reader-back : (h : Head) (held : List ℕ) → HeadFits h → length held ≡ held_size → reader_in (handle_bytes h held) ≡ reader_with h held
reader-back h held f l i = reader_with (laid-head h held f i) (laid-places h held f.session l i)

-- read by the code: the places are copied, and the head is read
pub reader-there : (handle held : List ℕ) (h : Head) (r : Reader) → h ≡ head_of handle → held ≡ places_in handle → r ≡ reader_with h held
    → r ≡ reader_in handle
reader-there handle held h r e f g = g ∙ ap (reader_with h) f ∙ ap (λ (x : Head). reader_with x (places_in handle)) e

-- laid by the code: the places first, and then the head
pub reader-laid : (r : Reader) (h : Head) (blank first all : List ℕ) → length r.line.session ≡ 10 → length r.held ≡ held_size
    → length blank ≡ handle_size → h ≡ head_part r → first ≡ overlay blank head_size r.held
    → all ≡ overlay first 0 (head_bytes h) → all ≡ handle_bytes (head_part r) r.held
reader-laid r h blank first all ten l m e f g =
    put-over (head_part r) blank r.held first all ten m l
    f (g ∙ ap (λ (x : Head). overlay first 0 (head_bytes x)) e)
