-- A HANDLE LAID FROM A HEAD AND PLACES: both come back from it, it is a handle, and every handle is laid so.
-- Assumes nothing.
use mathlib.Core.Path.{◌≡◌, sym, ap, ◌∙◌, subst}
use mathlib.Core.Bool.{true}
use mathlib.Core.List.{List, ◌++◌}
use Prim.Native.Nat.{ℕ, ◌+◌, ◌≤◌}
use native.Mathlib.Omega.{arith}
use lib.ListN.{length, drop, length-drop, length-append}
use lib.Seq.{drop_at}
use Rattle.field.specs.Bytes.{part, overlay, Bytes}
use Rattle.field.proofs.Parts.{part-whole, part-overlay, overlay-length}
use Rattle.packet.specs.Frame.{held_size}
use Rattle.handle.specs.Handle.{head_size, handle_size, is_handle, head_of, head_bytes, handle_bytes, places_in}
use Rattle.handle.specs.declared.Head.{Head}
use Rattle.handle.proofs.Rounds.{HeadFits, head-length, head-before, head-back, still-handle, handle-length, bytes-joined}

-- what stands behind the head, as the places of held bytes
behind : (bs : List ℕ) → length bs ≡ handle_size → places_in bs ≡ drop head_size bs
unfolding part
behind bs l = part-whole (drop head_size bs) held_size (omega (arith, length-drop head_size bs, l))

-- EVERY HANDLE IS LAID SO
pub handle-back : (bs : List ℕ) → is_handle bs ≡ true → Bytes bs → handle_bytes (head_of bs) (places_in bs) ≡ bs
unfolding handle_bytes
handle-back bs h b = ap (λ (x : List ℕ). head_bytes (head_of bs) ++ x) (behind bs (handle-length bs h)) ∙ bytes-joined bs h b

-- HEAD AND PLACES COME BACK
pub laid-head : (h : Head) (held : List ℕ) → HeadFits h → head_of (handle_bytes h held) ≡ h
unfolding handle_bytes
laid-head h held f = head-back h f held

module _ (h : Head) (held : List ℕ) (ten : length h.line.session ≡ 10) (long : length held ≡ held_size) where
  pub laid-places : places_in (handle_bytes h held) ≡ held
  unfolding handle_bytes part
  laid-places = ap (λ (x : List ℕ). part x 0 held_size) (drop_at (head_bytes h) held head_size (head-length h ten)) ∙ part-whole held held_size long

  pub laid-length : length (handle_bytes h held) ≡ handle_size
  unfolding handle_bytes
  laid-length = omega (arith, length-append (head_bytes h) held, head-length h ten, long)

  -- AND IT IS A HANDLE
  pub laid-handle : is_handle (handle_bytes h held) ≡ true
  unfolding handle_bytes
  laid-handle =
      let bs : List ℕ = head_bytes h ++ held in
      subst (λ (x : List ℕ). is_handle x ≡ true) (head-before h ten bs ∙ ap (λ (x : List ℕ). head_bytes h ++ x) (drop_at (head_bytes h) held head_size (head-length h ten)))
      (still-handle h ten bs laid-length)

-- ---- laid by the code: the places first, and then the head

places_behind : (handle held : List ℕ) → length handle ≡ handle_size → length held ≡ held_size → drop head_size (overlay handle head_size held) ≡ held
unfolding part
places_behind handle held l m =
    let room : head_size + length held ≤ length handle = omega (arith, l, m) in
    let d = drop head_size (overlay handle head_size held) in
    let n : length d ≡ held_size = omega (arith, length-drop head_size (overlay handle head_size held), overlay-length handle head_size held room, l) in
    sym (part-whole d held_size n) ∙ (rw m at (part-overlay handle head_size held room))

pub put-over : (h : Head) (handle held first all : List ℕ) → length h.line.session ≡ 10 → length handle ≡ handle_size → length held ≡ held_size
    → first ≡ overlay handle head_size held → all ≡ overlay first 0 (head_bytes h) → all ≡ handle_bytes h held
unfolding handle_bytes
put-over h handle held first all ten l m e f =
    f ∙ head-before h ten first ∙ ap (λ (x : List ℕ). head_bytes h ++ drop head_size x) e
    ∙ ap (λ (x : List ℕ). head_bytes h ++ x) (places_behind handle held l m)
