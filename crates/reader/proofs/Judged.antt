-- The ways through a whole packet on a handle where it lies: a law for each.
-- Assumes nothing.
use mathlib.Core.Path.{◌≡◌, refl, sym, ap, subst, ◌∙◌}
use mathlib.Core.Bool.{Bool, true, false}
use mathlib.Core.List.{List, ◌++◌, append-nil}
use Prim.Native.Nat.{ℕ, ◌+◌, ◌*◌, ◌≤◌, ◌<◌}
use native.Mathlib.Omega.{arith}
use lib.ListN.{length, take, drop}
use lib.Seq.{take-length, drop-length}
use Rattle.field.specs.Bytes.{overlay}
use Rattle.field.specs.Limits.{highest_number}
use Rattle.field.proofs.Parts.{part_length, overlay-own}
use Rattle.field.proofs.Numbers.{Lent}
use Rattle.packet.specs.Frame.{held_size}
use Rattle.packet.specs.Line.{login_session, logged_in, packet_of, is_message}
use Rattle.packet.specs.Refusals.{fault_number}
use Rattle.packet.specs.Session.{delivered, does, soup_bin_tcp}
use Rattle.packet.specs.declared.Line.{Line}
use Rattle.packet.specs.declared.Fault.{Fault}
use Rattle.packet.specs.declared.Packet.{Packet}
use Rattle.packet.specs.declared.Packet.TheVariants as packet
use Rattle.packet.proofs.Rules.{never}
use Rattle.handle.specs.Handle.{head_size, handle_size, is_handle, head_of, head_bytes, handle_bytes, places_in, with_line, ended_field, refusal_field, with_field}
use Rattle.handle.specs.declared.Head.{Head}
use Rattle.handle.proofs.Rounds.{handle-length}
use Rattle.handle.proofs.Laid.{put-over}
use Rattle.handle.proofs.Single.{ended-put, refusal-put}
use Rattle.table.specs.Memory.{Memories}
use Rattle.reader.specs.Refusals.{refusal_number}
use Rattle.reader.specs.Deliver.{table_of, deliver}
use Rattle.reader.specs.Handles.{event_number, told_number, left}
use Rattle.reader.specs.Shapes.{Ready, session_at, closed_as}
use Rattle.reader.specs.declared.Refusal.{Refusal}
use Rattle.reader.proofs.Ways.{message-counts}
use Rattle.reader.proofs.Delivered.{own-ten, own-long, own}

-- ---- a login

pub logged-laid : (handle body : List ℕ) (h : Head) (l : Line) {handle' : List ℕ} → h ≡ head_of handle → l ≡ logged_in h.line (login_session body)
    → handle' ≡ overlay handle 0 (head_bytes (record { line = l; board = h.board; ended = h.ended; refusal = h.refusal; used = h.used }))
    → handle' ≡ overlay handle 0 (head_bytes (with_line (logged_in (head_of handle).line (login_session body)) (head_of handle)))
logged-laid handle body h l e f g =
    g ∙ ap (λ (x : Line). overlay handle 0 (head_bytes (with_line x h))) f
    ∙ ap (λ (x : Head). overlay handle 0 (head_bytes (with_line (logged_in x.line (login_session body)) x))) e

-- ---- any packet but a message

module _ (handle : List ℕ) (r : (t : Memories) × Ready handle t) (lent : Lent handle) (letter : ℕ) (body : List ℕ) where
  abbrev h : Head
  h = head_of handle

  abbrev held : List ℕ
  held = places_in handle

  is : is_handle handle ≡ true
  is = r.1.going.handle-is

  -- nothing is held, and it has neither ended nor refused
  abbrev idle : Line → Head
  idle l = record { line = l; board = h.board; ended = false; refusal = 0; used = 0 }

  idle-is : (l : Line) → with_line l h ≡ idle l
  idle-is l i = record { line = l; board = h.board; ended = r.1.going.live i; refusal = r.1.going.unrefused i; used = r.1.unheld i }

  idle-here : handle ≡ handle_bytes (idle h.line) held
  idle-here = own handle is lent ∙ ap (λ (x : Head). handle_bytes x held) (idle-is h.line)

  module _ {p : Packet} (e : p ≡ packet_of h.line letter body) where
    acts : {q : Packet} (t : Memories) → p ≡ q
        → closed_as (does deliver (session_at handle t) body q) handle ≡ closed_as (soup_bin_tcp deliver (session_at handle t) letter body) handle
    unfolding soup_bin_tcp
    acts t f = ap (λ (x : Packet). closed_as (does deliver (session_at handle t) body x) handle) (sym f ∙ e)

    pub other-login : {n : ℕ} {handle' : List ℕ} → 10 ≤ length body → p ≡ packet.Login n
        → handle' ≡ overlay handle 0 (head_bytes (with_line (logged_in h.line (login_session body)) h)) → (t : Memories)
        → left 256 handle' t ≡ closed_as (soup_bin_tcp deliver (session_at handle t) letter body) handle
    unfolding told_number event_number
    other-login {n} l f g t =
        let line : Line = logged_in h.line (login_session body) in
        let size = handle-length handle is in
        let put = put-over (with_line line h) handle held handle _ (part_length body 0 10 l) size (own-long handle is) (sym (overlay-own handle head_size held_size (omega (arith, size)))) g in
        ap (λ (x : List ℕ). left 256 x t) put ∙ ap (λ (x : Head). left 256 (handle_bytes x held) t) (idle-is line) ∙ acts t f

    pub other-rejected : {n : ℕ} {handle' : List ℕ} → p ≡ packet.Rejected n → handle' ≡ with_field ended_field 1 handle
        → (t : Memories) → left 512 handle' t ≡ closed_as (soup_bin_tcp deliver (session_at handle t) letter body) handle
    unfolding told_number event_number
    other-rejected f g t =
        ap (λ (x : List ℕ). left 512 x t) (ended-put (idle h.line) held (own-ten handle is) idle-here g) ∙ acts t f

    pub other-heartbeat : p ≡ packet.Heartbeat → (t : Memories)
        → left 1024 handle t ≡ closed_as (soup_bin_tcp deliver (session_at handle t) letter body) handle
    unfolding told_number event_number
    other-heartbeat f t = ap (λ (x : List ℕ). left 1024 x t) idle-here ∙ acts t f

    pub other-end : {handle' : List ℕ} → p ≡ packet.End → handle' ≡ with_field ended_field 1 handle → (t : Memories)
        → left 1280 handle' t ≡ closed_as (soup_bin_tcp deliver (session_at handle t) letter body) handle
    unfolding told_number event_number
    other-end f g t =
        ap (λ (x : List ℕ). left 1280 x t) (ended-put (idle h.line) held (own-ten handle is) idle-here g) ∙ acts t f

    pub other-skipped : p ≡ packet.Skipped → (t : Memories)
        → left 1536 handle t ≡ closed_as (soup_bin_tcp deliver (session_at handle t) letter body) handle
    unfolding told_number event_number
    other-skipped f t = ap (λ (x : List ℕ). left 1536 x t) idle-here ∙ acts t f

    pub other-refused : {d : Fault} (x : Refusal) {a : ℕ} {handle' : List ℕ} → p ≡ packet.Refused d → refusal_number x ≡ fault_number d
        → a ≡ 2048 + refusal_number x → handle' ≡ with_field refusal_field (refusal_number x) handle → (t : Memories)
        → left a handle' t ≡ closed_as (soup_bin_tcp deliver (session_at handle t) letter body) handle
    unfolding told_number
    other-refused x {a} f k m g t =
        let put = refusal-put (idle h.line) held (own-ten handle is) idle-here (refusal_number x) g in
        let count : a ≡ 2048 + refusal_number x + 0 * 65_536 = omega (arith, m) in
        (λ i. left (count i) (put i) t)
        ∙ (λ i. left (2048 + k i + 0 * 65_536)
        (handle_bytes (record { line = h.line; board = h.board; ended = false; refusal = k i; used = 0 }) held) t)
        ∙ acts t f

    -- a message is none of them
    pub other-never : {A : Type 0} → p ≡ packet.Message → is_message (packet_of h.line letter body) ≡ false → A
    other-never f g = absurd (never (sym g ∙ ap is_message (sym e ∙ f)))

-- ---- any packet

is-message : (p : Packet) → is_message p ≡ true → p ≡ packet.Message
is-message (packet.Login n) e = absurd (never e)
is-message (packet.Rejected n) e = absurd (never e)
is-message packet.Message e = refl
is-message packet.Heartbeat e = absurd (never e)
is-message packet.End e = absurd (never e)
is-message packet.Skipped e = absurd (never e)
is-message (packet.Refused f) e = absurd (never e)

module _ (handle : List ℕ) (table : Memories) (g : Ready handle table) (letter : ℕ) (body : List ℕ) {next : ℕ} {logged b : Bool}
    (n : next ≡ (head_of handle).line.next) (l : logged ≡ (head_of handle).line.logged)
    (w : (x : Line) (y : List ℕ) → x.logged ≡ logged → x.next ≡ next → b ≡ is_message (packet_of x letter y)) where
  found : b ≡ is_message (packet_of (head_of handle).line letter body)
  found = w (head_of handle).line body (sym l) (sym n)

  -- a message has a number to take
  pub act-counts : b ≡ true → next < highest_number
  act-counts e =
      omega (arith, n, message-counts (head_of handle).line letter body refl (is-message (packet_of (head_of handle).line letter body) (sym found ∙ e)) g.going.most)

  pub act-message : {a : ℕ} {handle' : List ℕ} {table' : Memories} → b ≡ true
      → left a handle' table' ≡ closed_as (delivered (head_of handle).line (deliver (table_of (head_of handle).board table) body)) handle
      → left a handle' table' ≡ closed_as (soup_bin_tcp deliver (session_at handle table) letter body) handle
  unfolding soup_bin_tcp
  act-message e f =
      f ∙ ap (λ (p : Packet). closed_as (does deliver (session_at handle table) body p) handle)
      (sym (is-message (packet_of (head_of handle).line letter body) (sym found ∙ e)))

  pub act-other : b ≡ false → is_message (packet_of (head_of handle).line letter body) ≡ false
  act-other e = sym found ∙ e

-- the whole handle, lent as so many bytes of it, and handed back
module _ (handle : List ℕ) (size : length handle ≡ handle_size) where
  all-lent : take 305 handle ≡ handle
  all-lent = ap (λ (n : ℕ). take n handle) (sym size) ∙ take-length handle

  none_left : (after : List ℕ) → after ++ drop 305 handle ≡ after
  none_left after = ap (λ (n : ℕ). after ++ drop n handle) (sym size) ∙ ap (λ (l : List ℕ). after ++ l) (drop-length handle) ∙ append-nil after

  pub act-lent : (m : Memories) → Ready handle m → (letter : ℕ) (body : List ℕ) → is_message (packet_of (head_of handle).line letter body) ≡ false
      → ((t : Memories) × Ready (take 305 handle) t) × (is_message (packet_of (head_of (take 305 handle)).line letter body) ≡ false)
  act-lent m ready letter body e =
      ((m, subst (λ (x : List ℕ). Ready x m) (sym all-lent) ready), ap (λ (x : List ℕ). is_message (packet_of (head_of x).line letter body)) all-lent ∙ e)

  pub act-back : (m : Memories) (letter : ℕ) (body after : List ℕ) {r : ℕ}
      → left r after m ≡ closed_as (soup_bin_tcp deliver (session_at (take 305 handle) m) letter body) (take 305 handle)
      → left r (after ++ drop 305 handle) m ≡ closed_as (soup_bin_tcp deliver (session_at handle m) letter body) handle
  act-back m letter body after {r} e =
      ap (λ (x : List ℕ). left r x m) (none_left after)
      ∙ e
      ∙ ap (λ (x : List ℕ). closed_as (soup_bin_tcp deliver (session_at x m) letter body) x) all-lent
