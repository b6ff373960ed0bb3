-- DEMAND 3 FOR A HOST IN C, SECOND HALF: stop, save, restore, log in again, and go on as the host that never stopped.
-- Assumes nothing.
use mathlib.Core.Path.{◌≡◌, refl, sym, ap, ◌∙◌, subst}
use mathlib.Core.Logic.{◌⊎◌}
use mathlib.Core.Bool.{Bool, true, false}
use mathlib.Core.List.{List, [], ◌++◌}
use Prim.Native.Nat.{ℕ, ◌+◌, ◌*◌, ◌/◌, ◌≤◌}
use native.Mathlib.Omega.{arith}
use borrow.Author.Tests.{eq-eqb}
use lib.Dec.{eqb}
use lib.ListN.{length}
use Rattle.field.specs.Bytes.{part, Bytes}
use Rattle.packet.specs.Stream.{State, live, reading}
use Rattle.packet.specs.Line.{fresh_line, LoggedIn}
use Rattle.packet.specs.Session.{Session, Event, soup_bin_tcp, any_login, restored, login_packet}
use Rattle.table.specs.Memory.{table_size, Memories}
use Rattle.table.specs.Index.{index_size, is_index}
use Rattle.table.specs.Board.{fresh_board}
use Rattle.image.specs.Save.{Saving, size_for, save_of}
use Rattle.image.specs.Restore.{restore_of}
use Rattle.handle.specs.Handle.{handle_size, head_of}
use Rattle.record.specs.Record.{Answered, answered}
use Rattle.reader.specs.Deliver.{Table, Said, deliver}
use Rattle.reader.specs.View.{session_of, held_of, state_of, memory_in, held_in, ready_of}
use Rattle.reader.specs.Saving as readers
use Rattle.reader.specs.Saving.{header_of, Written, written_of, written_by, save_all, restore_number, line_of, restored_session, restore_all}
use Rattle.reader.specs.declared.Restored.{Restored}
use Rattle.reader.specs.Handles.{reader_in, head_in, Left, left}
use Rattle.reader.proofs.Views.{head_in_lem, memory-in}
use Rattle.nelqubat.specs.Host.{unheld, restored_as, restore_host, saved_number, saved_as, save_host, HostSaves, HostRestores}
use Rattle.demands.specs.Stopped.{StoppedAt, GoesOn}
use Rattle.demands.proofs.Names.{verdicts-same}
use Rattle.demands.proofs.Kept.{ours_kept, ours-within}
use Rattle.demands.proofs.Saved.{restore-ours, ours-saved, comes_back}
use Rattle.demands.proofs.Stopped.{Took, called-took, stopped-at}
use Rattle.demands.proofs.Resume.{stopped-logged, given-bytes, resumed, restored-kept}
use Rattle.hosts.specs.Runs.{HostCalls, HostDone}
use Rattle.hosts.proofs.Laid.{HostOurs, own-used}
use Rattle.hosts.proofs.Runs.{Fresh, unheld-fresh, own-unfinished, calls-called, calls-ours, calls-read}
use Rattle.std.specs.Prelude.{Ok}
use Rattle.std.specs.Prelude.{Err}
use Rattle.std.specs.Prelude.{Result}
use Rattle.image.specs.declared.Refusal.{Refusal}

-- THEOREM: handles that are the same reader have the same head, byte for byte what the head's fields say
pub same-heads : (h : List ℕ) (t : Memories) (h' : List ℕ) (t' : Memories) → HostOurs h t → HostOurs h' t'
    → state_of (reader_in h) t ≡ state_of (reader_in h') t' → head_of h ≡ head_of h'
same-heads h t h' t' o o' e =
    let u : (reader_in h).used ≡ (reader_in h').used
    = own-used h t o ∙ ap (λ (st : State (Session Table)). length (held_in st)) e ∙ sym (own-used h' t' o') in
    sym (head_in_lem (reader_in h) t) ∙ (λ i. head_in (e i) (u i)) ∙ head_in_lem (reader_in h') t'

-- ---- restored

-- an image as a reader, and its session
abbrev came_as : List ℕ → Memories → Restored
came_as image tm =
    let o = restore_of image tm.table in
    record { reader = ready_of (line_of o.answer.header) o.answer.header.board; verdict = o.answer.verdict }

abbrev session_from : List ℕ → Memories → Session Table
session_from image tm = restored_session (restore_of image tm.table) tm.index

module _ (hm : List ℕ) (tm : Memories) (image : List ℕ) (a : ℕ) (handle : List ℕ) (memory : Memories)
    (restore : HostRestores hm tm image a handle memory) where
  abbrev came : Restored
  came = came_as image tm

  abbrev session₁ : Session Table
  session₁ = session_from image tm

  -- into handle and index memory of the right lengths
  module _ (handle-long : eqb (length hm) handle_size ≡ true) (index-long : is_index tm.index ≡ true) where
    comes : readers.Restores image tm came session₁.about.memory
    unfolding restore_all
    comes = rw index-long

    pub restored-is : left a handle memory ≡ unheld (restore_number came.verdict) (live session₁ []) 0
    unfolding restore_host
    restored-is = (rw handle-long at restore) ∙ ap restored_as (sym comes)

  -- THEOREM: a handle that was restored from bytes without refusal is ours: its table keeps its rules, and its index is true of it
  pub restored-ours : a ≡ 0 → Bytes image → HostOurs handle memory
  unfolding restore_host restore_all
  restored-ours ready b = by (eqb (length hm) handle_size) refl (is_index tm.index) refl
    where
      by : (y : Bool) → eqb (length hm) handle_size ≡ y → (z : Bool) → is_index tm.index ≡ z → HostOurs handle memory
      by true l true i =
          let n : restore_number came.verdict ≡ 0 = sym (ap (λ (q : Left). q.number) (restored-is l i)) ∙ ready in
          let o = restore-ours image tm came session₁.about.memory (comes l i) (verdicts-same came.verdict (Ok (tt {0})) n) b in
          let k = ours_kept came.reader session₁.about.memory o in
          (unheld-fresh session₁ k a (restore_number came.verdict) handle memory (restored-is l i)).ours
      by true l false i =
          let z : left a handle memory ≡ restored_as (readers.came (session_of fresh_line fresh_board tm) 20) = rw (l, i) at restore in
          absurd (omega (arith, ap (λ (q : Left). q.number) z))
      by false l y i =
          let z : left a handle memory ≡ left 20 hm tm = rw l at restore in
          absurd (omega (arith, ap (λ (q : Left). q.number) z))

-- ---- stopped, saved and restored

-- the output is what was left
out_of : (s : Result ℕ Refusal) (z : List ℕ) → (written_of s z).out ≡ z
out_of (Ok n) z = refl
out_of (Err r) z = refl

-- A handle of ours, by its own bytes neither ended nor refused, is given bytes by steps and runs. It is logged in, or a login is among them, and it is
-- stopped before any end.
module _ (h₀ : List ℕ) (t₀ : Memories) (o₀ : HostOurs h₀ t₀) (open₀ : ((head_of h₀).refusal ≡ 0) × ((head_of h₀).ended ≡ false))
    (bs : List ℕ) (bytes : Bytes bs) (es : List (Event Said)) (handle : List ℕ) (memory : Memories) (rest : List ℕ)
    (before : HostCalls h₀ t₀ bs es handle memory rest)
    (logged : LoggedIn (head_of h₀).line ⊎ (any_login es ≡ true)) (unended : (head_of handle).ended ≡ false) where
  abbrev session₀ : Session Table
  session₀ = session_of (head_of h₀).line (head_of h₀).board t₀

  abbrev held₀ : List ℕ
  held₀ = held_of (reader_in h₀)

  abbrev session : Session Table
  session = session_of (head_of handle).line (head_of handle).board memory

  begun : state_of (reader_in h₀) t₀ ≡ live session₀ held₀
  begun = rw (open₀.0, open₀.1)

  own : HostOurs handle memory
  own = calls-ours before o₀ bytes

  -- THEOREM: there is a last accepted packet, and bytes that follow it: those that are held or were refused, and those that were not taken
  pub stopped : StoppedAt session₀ held₀ bs es session
  stopped =
      stopped-at session₀ held₀ bs rest (reader_in handle) memory
      (subst (λ (st : State (Session Table)). Took (soup_bin_tcp deliver) st bs es (state_of (reader_in handle) memory) rest) begun
      (called-took (soup_bin_tcp deliver) (calls-called before o₀ bytes) (own-unfinished h₀ t₀ o₀)))
      unended

  is-logged-in : LoggedIn (head_of handle).line
  is-logged-in = stopped-logged session₀ held₀ bs es session stopped logged

  -- it is saved to an output that is long enough
  module _ (out : List ℕ) (room : size_for (head_of handle).board.rows ≤ length out) (a₁ : ℕ) (z : List ℕ)
      (save : HostSaves handle memory.table out a₁ z) where
    abbrev size : ℕ
    size = size_for (head_of handle).board.rows

    abbrev wrote : Saving
    wrote = save_of (header_of (reader_in handle)) memory.table out

    abbrev said : Result ℕ Refusal
    said = wrote.answer

    save-goes : save_all (reader_in handle) memory.table out ≡ written_by wrote
    unfolding save_all
    save-goes = rw (ours-within (reader_in handle) memory own.ours)

    save-is : answered a₁ z ≡ saved_as (save_all (reader_in handle) memory.table out)
    unfolding save_host
    save-is = rw own.handle-is at save

    saves : readers.Saves (reader_in handle) memory.table out said z
    saves =
        ap (written_of said) (ap (λ (q : Answered). q.memory) save-is ∙ ap (λ (w : Written). w.out) save-goes ∙ out_of said wrote.out) ∙ sym save-goes

    -- THEOREM: which is not refused; the answer is the count of its bytes
    pub saved : a₁ ≡ size * 256
    saved =
        let whole = ours-saved (reader_in handle) memory own.ours out room said z saves in
        let number : a₁ ≡ 0 + size * 256
        = ap (λ (q : Answered). q.number) save-is ∙ ap saved_number save-goes ∙ ap (λ (s : Result ℕ Refusal). saved_number (written_of s wrote.out)) whole in
        omega (arith, number)

    count : a₁ / 256 ≡ size
    count = omega (arith, saved)

    -- and so many bytes are restored from it into memory of the right lengths, whatever it holds
    module _ (hm₂ : List ℕ) (tm₂ : Memories) (handle-long : length hm₂ ≡ handle_size) (table-long : length tm₂.table ≡ table_size)
        (index-long : length tm₂.index ≡ index_size) (a₂ : ℕ) (h₂ : List ℕ) (t₂ : Memories)
        (restore : HostRestores hm₂ tm₂ (part z 0 (a₁ / 256)) a₂ h₂ t₂) where
      abbrev image : List ℕ
      image = part z 0 size

      restores : HostRestores hm₂ tm₂ image a₂ h₂ t₂
      restores = subst (λ (n : ℕ). HostRestores hm₂ tm₂ (part z 0 n) a₂ h₂ t₂) count restore

      index_is : is_index tm₂.index ≡ true
      index_is = eq-eqb (length tm₂.index) index_size index-long

      restore-is : left a₂ h₂ t₂ ≡ unheld (restore_number (came_as image tm₂).verdict) (live (session_from image tm₂) []) 0
      restore-is = restored-is hm₂ tm₂ image a₂ h₂ t₂ restores (eq-eqb (length hm₂) handle_size handle-long) index_is

      back : ((came_as image tm₂).verdict ≡ Ok (tt {0})) × (live (session_from image tm₂) [] ≡ live (restored session) [])
      back =
          let b
          = comes_back (reader_in handle) memory own.ours out room said z saves tm₂ table-long index-long (came_as image tm₂)
          (session_from image tm₂).about.memory (comes hm₂ tm₂ image a₂ h₂ t₂ restores (eq-eqb (length hm₂) handle_size handle-long) index_is) in
          (b.0, b.1 ∙ rw is-logged-in.known)

      -- THEOREM: which is not refused either
      pub not-refused : a₂ ≡ 0
      not-refused = ap (λ (q : Left). q.number) restore-is ∙ ap restore_number back.0

      -- THEOREM: and the handle is ours again, so that it may be stopped again; it waits for its login
      pub waits : Fresh h₂ t₂ (restored session)
      waits =
          let number : ℕ = restore_number (came_as image tm₂).verdict in
          unheld-fresh (restored session) (restored-kept session own.ours.sound) a₂ number h₂ t₂
          (restore-is ∙ ap (λ (st : State (Session Table)). unheld number st 0) back.1)

      -- THEOREM: table and index are, byte for byte, those of the handle that was stopped, though the index was not saved
      pub same_memory : t₂ ≡ memory
      same_memory = sym (memory-in (reader_in h₂) t₂) ∙ ap memory_in waits.state

      -- THEOREM: the restored handle is given a login for the saved session and number, and then the bytes that follow the last accepted packet. Its
      -- later events, the table, its index and any refusal are those of the host that never stopped.
      pub goes_on : (s : StoppedAt session₀ held₀ bs es session) (es₁ : List (Event Said)) (h₃ : List ℕ) (t₃ : Memories) (rest₁ : List ℕ)
          → HostCalls h₂ t₂ (login_packet (head_of handle).line.session (head_of handle).line.next ++ s.following) es₁ h₃ t₃ rest₁
          → HostDone h₃ rest₁
          → (es₂ : List (Event Said)) (h₄ : List ℕ) (t₄ : Memories) (rest₂ : List ℕ)
          → HostCalls h₀ t₀ bs es₂ h₄ t₄ rest₂ → HostDone h₄ rest₂
          → GoesOn session es es₁ es₂ (reader_in h₃) t₃ (reader_in h₄) t₄ × (head_of h₃ ≡ head_of h₄)
      goes_on s es₁ h₃ t₃ rest₁ later none₁ es₂ h₄ t₄ rest₂ never none₂ =
          let j = soup_bin_tcp deliver in
          let login : List ℕ = login_packet (head_of handle).line.session (head_of handle).line.next in
          let given = given-bytes session₀ held₀ bs es session s o₀.ours.bytes bytes own.ours.sound.name in
          let on : GoesOn session es es₁ es₂ (reader_in h₃) t₃ (reader_in h₄) t₄
          = resumed session₀ held₀ bs es session s own.ours.sound.range is-logged-in
          es₁ (reader_in h₃) t₃
          (ap (λ (st : State (Session Table)). reading j st (login ++ s.following)) (sym waits.state) ∙ calls-read later waits.ours given none₁)
          es₂ (reader_in h₄) t₄
          (ap (λ (st : State (Session Table)). reading j st bs) (sym begun) ∙ calls-read never o₀ bytes none₂) in
          (on, same-heads h₃ t₃ h₄ t₄ (calls-ours later waits.ours given) (calls-ours never o₀ bytes) on.state)
