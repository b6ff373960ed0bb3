-- DEMAND 3, SECOND HALF: stop, save, restore, log in again, and go on as the caller that never stopped.
-- Assumes nothing.
use mathlib.Core.Path.{◌≡◌, refl, sym, ap, ◌∙◌, subst}
use mathlib.Core.Logic.{◌⊎◌, inl, inr}
use mathlib.Core.List.{List, [], ◌++◌}
use mathlib.Core.Bool.{true, false}
use Prim.Native.Nat.{ℕ, ◌≤◌}
use native.Mathlib.Omega.{arith}
use lib.ListN.{length}
use Rattle.field.specs.Bytes.{part, Bytes}
use Rattle.packet.specs.Frame.{frame}
use Rattle.packet.specs.Stream.{State, live, NothingLeft, Run, first, ◌then◌, reading}
use Rattle.packet.specs.Line.{InRange, LoggedIn}
use Rattle.packet.specs.Session.{Session, Event, login, soup_bin_tcp, any_login, login_packet, restored}
use Rattle.packet.proofs.Cut.{reading-cut}
use Rattle.packet.proofs.Keep.{login-told, session-keeps, logged-stays, StateHas}
use Rattle.packet.proofs.Resume.{resume}
use Rattle.table.specs.Memory.{table_size, Memories}
use Rattle.table.specs.Index.{index_size}
use Rattle.image.specs.Save.{size_for}
use Rattle.reader.specs.Refusals.{standing}
use Rattle.reader.specs.Deliver.{Table, Said, deliver}
use Rattle.reader.specs.View.{session_of, held_of, state_of, session_in}
use Rattle.reader.specs.Saving.{Saves, Restores}
use Rattle.reader.specs.declared.Reader.{Reader}
use Rattle.reader.specs.declared.Restored.{Restored}
use Rattle.reader.proofs.Views.{session-in}
use Rattle.demands.specs.Callers.{Steps}
use Rattle.demands.specs.Sound.{SoundSession, Ours}
use Rattle.demands.specs.Stopped.{StoppedAt, GoesOn}
use Rattle.packet.proofs.Bytes.{bytes-none, bytes-append, bytes-right, login-bytes}
use Rattle.demands.proofs.View.{refusal_in, refusal-of}
use Rattle.demands.proofs.Kept.{Kept, kept-ours, unfinished-in}
use Rattle.demands.proofs.Callers.{steps-called, steps-read, steps-ours}
use Rattle.demands.proofs.Saved.{restored-unheld, ours-saved, comes_back}
use Rattle.demands.proofs.Stopped.{Took, called-took, stopped-at}
use Rattle.std.specs.Prelude.{Ok}
use Rattle.std.specs.Prelude.{Result}
use Rattle.image.specs.declared.Refusal.{Refusal}

abbrev ran : List (Event Said) → State (Session Table) → Run (Session Table) (Event Said)
ran es st = record { events = es; state = st }

-- ---- over the readings: what is read after a login to a restored session, and what is read without a stop

module _ (s₀ : Session Table) (held bs : List ℕ) (es : List (Event Said)) (s : Session Table) (at : StoppedAt s₀ held bs es s) where
  -- the line is logged in, if it was before or a login was told
  pub stopped-logged : LoggedIn s₀.line ⊎ (any_login es ≡ true) → LoggedIn s.line
  stopped-logged (inl l) =
      subst (StateHas (λ (x : Session Table). LoggedIn x.line) (λ _. Unit))
      (ap (λ (x : Run (Session Table) (Event Said)). x.state) at.told)
      (session-keeps deliver (logged-stays deliver) (live s₀ []) at.accepted l)
  stopped-logged (inr e) = login-told deliver s₀ [] at.accepted at.told e

  -- what a restored reader is given are bytes
  pub given-bytes : Bytes held → Bytes bs → Bytes s.line.session → Bytes (login_packet s.line.session s.line.next ++ at.following)
  given-bytes h b name =
      bytes-append (login_packet s.line.session s.line.next) at.following (login-bytes s.line.session s.line.next name)
      (bytes-right at.accepted at.following (subst Bytes (sym at.whole) (bytes-append held bs h b)))

  -- THEOREM
  pub resumed : InRange s.line → LoggedIn s.line → (es₁ : List (Event Said)) (r₁ : Reader) (t₁ : Memories)
      → reading (soup_bin_tcp deliver) (live (restored s) []) (login_packet s.line.session s.line.next ++ at.following) ≡ ran es₁ (state_of r₁ t₁)
      → (es₂ : List (Event Said)) (r₂ : Reader) (t₂ : Memories) → reading (soup_bin_tcp deliver) (live s₀ held) bs ≡ ran es₂ (state_of r₂ t₂)
      → GoesOn s es es₁ es₂ r₁ t₁ r₂ t₂
  unfolding reading
  resumed range logged es₁ r₁ t₁ after es₂ r₂ t₂ never =
      let j = soup_bin_tcp deliver in
      let rest : Run (Session Table) (Event Said) = reading j (live s []) at.following in
      let one : ran es₁ (state_of r₁ t₁) ≡ first (login s.line.next s.line.session) rest
      = sym after ∙ resume deliver s range logged at.following in
      let two : ran es₂ (state_of r₂ t₂) ≡ ran (es ++ rest.events) rest.state
      = sym never
      ∙ ap (λ (xs : List ℕ). reading j (live s₀ []) xs) (sym at.whole)
      ∙ reading-cut j (live s₀ []) at.accepted at.following
      ∙ ap (λ (x : Run (Session Table) (Event Said)). x then (λ st. reading j st at.following)) at.told in
      let same : state_of r₁ t₁ ≡ state_of r₂ t₂
      = ap (λ (x : Run (Session Table) (Event Said)). x.state) one ∙ sym (ap (λ (x : Run (Session Table) (Event Said)). x.state) two) in
      record {
        later = rest.events;
        stopped = ap (λ (x : Run (Session Table) (Event Said)). x.events) one;
        unstopped = ap (λ (x : Run (Session Table) (Event Said)). x.events) two;
        state = same;
        memory = ap (λ (x : Session Table). x.about.memory) (sym (session-in r₁ t₁) ∙ ap session_in same ∙ session-in r₂ t₂);
        refusal = sym (refusal-of r₁ t₁) ∙ ap refusal_in same ∙ refusal-of r₂ t₂;
      }

-- a session of ours that was saved and restored is one of ours
pub restored-kept : (s : Session Table) → SoundSession s → Kept (live (restored s) [])
unfolding frame standing
restored-kept s h =
    record {
      sound = record {
        range = record { some = h.range.some; most = h.range.most };
        name = h.name;
        ten = h.ten;
        about = h.about;
        whose = inl refl;
      };
      stands = refl;
      short = refl;
      bytes = bytes-none;
    }

-- ---- by the calls

-- A reader that our own calls made, and that has neither ended nor refused, is given bytes by steps and runs. It is logged in, or a login is among them,
-- and it is stopped before any end.
module _ (r₀ : Reader) (t₀ : Memories) (o₀ : Ours r₀ t₀) (open₀ : (r₀.refusal ≡ 0) × (r₀.ended ≡ false))
    (bs : List ℕ) (bytes : Bytes bs) (es : List (Event Said)) (r : Reader) (t : Memories) (left : List ℕ) (before : Steps r₀ t₀ bs es r t left)
    (logged : LoggedIn r₀.line ⊎ (any_login es ≡ true)) (unended : r.ended ≡ false) where
  abbrev session₀ : Session Table
  session₀ = session_of r₀.line r₀.board t₀

  abbrev session : Session Table
  session = session_of r.line r.board t

  begun : state_of r₀ t₀ ≡ live session₀ (held_of r₀)
  begun = rw (open₀.0, open₀.1)

  -- THEOREM: there is a last accepted packet, and bytes that follow it: those that are held or were refused, and those that were not taken
  pub stopped : StoppedAt session₀ (held_of r₀) bs es session
  stopped =
      stopped-at session₀ (held_of r₀) bs left r t
      (subst (λ (st : State (Session Table)). Took (soup_bin_tcp deliver) st bs es (state_of r t) left) begun
      (called-took (soup_bin_tcp deliver) (steps-called before o₀ bytes) (unfinished-in r₀ t₀ o₀)))
      unended

  ours : Ours r t
  ours = steps-ours before o₀ bytes

  is-logged-in : LoggedIn r.line
  is-logged-in = stopped-logged session₀ (held_of r₀) bs es session stopped logged

  -- it is saved to an output that is long enough, and restored from it to memories of the right lengths, whatever they hold
  module _ (out : List ℕ) (room : size_for r.board.rows ≤ length out) (a : Result ℕ Refusal) (z : List ℕ) (save : Saves r t.table out a z)
      (m : Memories) (long : length m.table ≡ table_size) (wide : length m.index ≡ index_size) (q : Restored) (m' : Memories)
      (restore : Restores (part z 0 (size_for r.board.rows)) m q m') where
    back : (q.verdict ≡ Ok (tt {0})) × (state_of q.reader m' ≡ live (restored session) [])
    back =
        let b = comes_back r t ours out room a z save m long wide q m' restore in
        (b.0, b.1 ∙ rw is-logged-in.known)

    -- THEOREM: neither is refused
    pub not-refused : (a ≡ Ok (size_for r.board.rows)) × (q.verdict ≡ Ok (tt {0}))
    not-refused = (ours-saved r t ours out room a z save, back.0)

    -- THEOREM: the restored reader is again one that our own calls made, so that it may be stopped again
    pub restored-ours : Ours q.reader m'
    restored-ours = kept-ours q.reader m' (subst Kept (sym back.1) (restored-kept session ours.sound)) (omega (arith, restored-unheld (part z 0 (size_for r.board.rows)) m q m' restore))

    -- THEOREM: the restored reader is given a login for the saved session and number, and then the bytes that follow the last accepted packet. Its
    -- later events, the table, its index and any refusal are those of the caller that never stopped.
    pub goes_on : (s : StoppedAt session₀ (held_of r₀) bs es session) (es₁ : List (Event Said)) (r₁ : Reader) (t₁ : Memories) (left₁ : List ℕ)
        → Steps q.reader m' (login_packet r.line.session r.line.next ++ s.following) es₁ r₁ t₁ left₁ → NothingLeft (state_of r₁ t₁) left₁
        → (es₂ : List (Event Said)) (r₂ : Reader) (t₂ : Memories) (left₂ : List ℕ)
        → Steps r₀ t₀ bs es₂ r₂ t₂ left₂ → NothingLeft (state_of r₂ t₂) left₂
        → GoesOn session es es₁ es₂ r₁ t₁ r₂ t₂
    goes_on s es₁ r₁ t₁ left₁ after none₁ es₂ r₂ t₂ left₂ never none₂ =
        let j = soup_bin_tcp deliver in
        let given = given-bytes session₀ (held_of r₀) bs es session s o₀.bytes bytes ours.sound.name in
        resumed session₀ (held_of r₀) bs es session s ours.sound.range is-logged-in
        es₁ r₁ t₁ (ap (λ (st : State (Session Table)). reading j st (login_packet r.line.session r.line.next ++ s.following)) (sym back.1) ∙ steps-read after restored-ours given none₁)
        es₂ r₂ t₂ (ap (λ (st : State (Session Table)). reading j st bs) (sym begun) ∙ steps-read never o₀ bytes none₂)
