-- Handles that our own calls leave: what they hold has room in their bytes.
-- Assumes nothing.
use mathlib.Core.Path.{◌≡◌, refl, sym, ap, ◌∙◌, subst}
use mathlib.Core.Bool.{Bool, true, false, ◌||◌, ◌&&◌}
use mathlib.Core.List.{List, [], ◌∷◌}
use Prim.Native.Nat.{ℕ, ◌^◌, ◌≤◌, ◌<◌}
use native.Mathlib.Omega.{arith}
use borrow.Author.Tests.{eqb-true, leb-true}
use lib.Dec.{eqb, leb}
use lib.ListN.{length, length-replicate}
use lib.Seq.{length-take-le}
use Rattle.field.specs.Limits.{highest_number, number_in_range}
use Rattle.field.specs.Text.{every}
use Rattle.field.proofs.Bools.{both_left, both_right}
use Rattle.field.proofs.Parts.{part_length}
use Rattle.message.specs.Letters.{listed, event_codes}
use Rattle.message.proofs.Typed.{listed_below}
use Rattle.packet.specs.Frame.{held_size}
use Rattle.packet.specs.Stream.{live}
use Rattle.packet.specs.Session.{Session}
use Rattle.table.specs.Memory.{Memories}
use Rattle.table.specs.Rules.{board_keeps}
use Rattle.table.specs.declared.Board.{Board}
use Rattle.handle.specs.Handle.{head_size, is_handle, handle_bytes, places_in}
use Rattle.handle.specs.declared.Head.{Head}
use Rattle.handle.proofs.Rounds.{HeadFits, handle-length}
use Rattle.handle.proofs.Laid.{laid-handle}
use Rattle.reader.specs.Refusals.{standing}
use Rattle.reader.specs.Deliver.{Table}
use Rattle.reader.specs.View.{reader_with, state_of, held_in}
use Rattle.reader.specs.Handles.{reader_in, head_in}
use Rattle.reader.specs.declared.Reader.{Reader}
use Rattle.reader.proofs.Views.{held_in_lem, reader-back}
use Rattle.reader.proofs.Back.{Own}
use Rattle.nelqubat.specs.Host.{no_held}
use Rattle.demands.specs.Sound.{SoundSession, Ours}
use Rattle.demands.proofs.Kept.{Kept, kept-ours}

-- ---- a head has room for what it holds

pub stands-low : (n : ℕ) → standing n ≡ true → n ≤ 16
unfolding standing
stands-low n h = by (leb n 6) refl h
  where
    by : (y : Bool) → leb n 6 ≡ y → y || (leb 10 n && leb n 16) ≡ true → n ≤ 16
    by true e g = omega (arith, leb-true n 6 e)
    by false e g = leb-true n 16 (both_right (leb 10 n) (leb n 16) g)

live-low : (n : ℕ) (y : Bool) → eqb n 0 ≡ y → y || number_in_range n ≡ true → n < 256 ^ 8
live-low n true e h = omega (arith, eqb-true n 0 e)
live-low n false e h = omega (arith, leb-true n highest_number (both_right (leb 1 n) (leb n highest_number) h))

head-fits : (s : Session Table) → SoundSession s → (e : Bool) (n used : ℕ) → n ≤ 16 → used ≤ held_size
    → HeadFits (record { line = s.line; board = s.about.board; ended = e; refusal = n; used = used })
unfolding board_keeps every
head-fits s h e n used low few =
    let b : Board = s.about.board in
    let events : Bool = listed (0 ∷ event_codes) b.event in
    record {
      session = h.ten;
      next = omega (arith, h.range.most);
      live = live-low b.live (eqb b.live 0) refl (both_right events _ h.about.board);
      rows = omega (arith, h.about.rows.few);
      used = omega arith;
      refusal = omega arith;
      event = listed_below (0 ∷ event_codes) b.event refl (both_left events _ h.about.board);
    }

-- ---- a handle, a table and its index, as our own calls leave them

pub record HostOurs (handle : List ℕ) (memory : Memories) : Type 0 where
  pub handle-is : is_handle handle ≡ true
  pub ours : Ours (reader_in handle) memory

-- what a handle says that it holds, it holds
pub used-held : (handle : List ℕ) (memory : Memories) → is_handle handle ≡ true → (reader_in handle).used ≤ held_size
    → (reader_in handle).used ≡ length (held_in (state_of (reader_in handle) memory))
used-held handle memory is few =
    let l : length (places_in handle) ≡ held_size = part_length handle head_size held_size (omega (arith, handle-length handle is)) in
    sym (length-take-le (reader_in handle).used (places_in handle) (omega (arith, l, few))) ∙ ap length (sym (held_in_lem (reader_in handle) memory))

module _ (handle : List ℕ) (memory : Memories) (o : HostOurs handle memory) where
  pub host-own : Own handle
  host-own =
      let r = reader_in handle in
      record {
        is = o.handle-is;
        head = head-fits _ o.ours.sound r.ended r.refusal r.used (stands-low r.refusal o.ours.stands) o.ours.used;
        bytes = o.ours.bytes;
      }

  pub own-used : (reader_in handle).used ≡ length (held_in (state_of (reader_in handle) memory))
  own-used = used-held handle memory o.handle-is o.ours.used

-- ---- one that holds nothing

module _ (s : Session Table) (k : Kept (live s [])) where
  abbrev head : Head
  head = head_in (live s []) 0

  blank : length no_held ≡ held_size
  blank = length-replicate {A = ℕ} held_size 0

  back : reader_in (handle_bytes head no_held) ≡ reader_with head no_held
  back = reader-back head no_held (head-fits s k.sound false 0 0 (omega arith) (omega arith)) blank

  -- it is that reader
  pub unheld-state : state_of (reader_in (handle_bytes (head_in (live s []) 0) no_held)) s.about.memory ≡ live s []
  unheld-state = ap (λ (r : Reader). state_of r s.about.memory) back

  -- and the handle is ours
  pub unheld-ours : HostOurs (handle_bytes (head_in (live s []) 0) no_held) s.about.memory
  unheld-ours =
      record {
        handle-is = laid-handle head no_held k.sound.ten blank;
        ours =
            kept-ours (reader_in (handle_bytes head no_held)) s.about.memory (subst Kept (sym unheld-state) k)
            (omega (arith, ap (λ (r : Reader). r.used) back));
      }
