-- What a message does to a table of ours: an accepted one keeps it sound, and a refusal of it may stand.
-- Assumes nothing.
use mathlib.Core.Path.{◌≡◌, refl, sym, ap, ◌∙◌, subst}
use mathlib.Core.Bool.{true, false}
use mathlib.Core.List.{List}
use Prim.Native.Nat.{ℕ}
use lib.Dec.{eqb}
use Rattle.field.specs.Bytes.{Bytes}
use Rattle.message.specs.Message as messages
use Rattle.message.specs.Message.{read_of}
use Rattle.message.specs.declared.Message.{Message}
use Rattle.message.specs.declared.Texts.{Texts}
use Rattle.message.specs.declared.Refusal as message_refusal
use Rattle.message.specs.declared.Refusal.TheVariants as message_refusals
use Rattle.message.proofs.Typed.{read-typed}
use Rattle.packet.specs.Session.{Delivered, done, denied}
use Rattle.packet.proofs.Rules.{never}
use Rattle.table.specs.Board as tables
use Rattle.table.specs.Memory.{Memories}
use Rattle.table.specs.Index.{lent_fit}
use Rattle.table.specs.Sorted.{Sorted}
use Rattle.table.specs.Board.{Indexed, outcome, accepted, fits, apply_of}
use Rattle.table.specs.declared.Board.{Board}
use Rattle.table.specs.declared.Refusal.{Refusal}
use Rattle.table.specs.declared.Refusal.TheVariants.{Unfit, NoRow, NoQuotes, FixedField, TableFull}
use Rattle.table.proofs.Ways.{fitting-rows, fitting-lent}
use Rattle.table.proofs.Kept.{apply-sound, apply-board}
use Rattle.table.proofs.Exactly.{LeftBy, apply-leaves}
use Rattle.table.proofs.Truth.{never-astray, apply-sorted}
use Rattle.reader.specs.Refusals.{standing}
use Rattle.reader.specs.Deliver.{Table, table_of, table_by, Said, said, settled_by, heard, deliver}
use Rattle.demands.specs.Sound.{SoundTable}
use Rattle.std.specs.Prelude.{Err}
use Rattle.std.specs.Prelude.{Ok}
use Rattle.std.specs.Prelude.{Result}

-- ---- a refusal of the table other than 20 may stand

refusal-stands : (r : Refusal) → eqb (tables.refusal_number r) 20 ≡ false → standing (tables.refusal_number r) ≡ true
unfolding standing
refusal-stands Unfit e = absurd (never (sym e))
refusal-stands NoRow e = refl
refusal-stands NoQuotes e = refl
refusal-stands FixedField e = refl
refusal-stands TableFull e = refl

-- ---- EVERY MESSAGE KEEPS IT SOUND, where its bytes are bytes; a refusal of it may stand

pub sound-fits : (t : Table) → SoundTable t → fits t.board t.memory.table ≡ true
unfolding fits
sound-fits t s = fitting-rows t.board.rows t.memory.table (s.rows.sized, s.rows.few)

sound-lent : (t : Table) → SoundTable t → lent_fit t.board.rows t.memory ≡ true
sound-lent t s = fitting-lent t.board.rows t.memory ((s.rows.sized, s.rows.few), s.index.sized)

abbrev pub Delivers : Delivered Table Said → Type 0
Delivers (done x t) = SoundTable t
Delivers (denied n t) = SoundTable t × (standing n ≡ true)

read-stands : (r : message_refusal.Refusal) → standing (messages.refusal_number r) ≡ true
unfolding standing
read-stands message_refusals.UnknownLetter = refl
read-stands message_refusals.WrongLength = refl
read-stands message_refusals.BadField = refl

-- a search never goes astray there, so that no refusal is 20
settled-kept : (t : Table) (m : Message) (x : Said) (v : Result (Unit {0}) Refusal) (b : Board) (l : Memories) → SoundTable t → LeftBy t.board m t.memory v b l
    → (v ≡ Ok (tt {0}) → SoundTable (table_of b l)) → Delivers (settled_by v x (table_of b l))
settled-kept t m x (Ok u) b l s h k = k refl
settled-kept t m x (Err r) b l s h k =
    (rw (h.0, h.1) s, refusal-stands r (h.2 (sound-lent t s) (never-astray t.board m t.memory s.index)))

abbrev SortedBy : Indexed → Type 0
SortedBy o = Sorted o.outcome.applied.board.rows o.index o.outcome.memory

applied-sound : (t : Table) (m : Message) (texts : Texts) → SoundTable t → messages.Typed m texts × (messages.keeps m texts ≡ true)
    → (o : Indexed) → apply_of t.board m texts t.memory ≡ o → o.outcome.applied.verdict ≡ Ok (tt {0}) → SoundTable (table_by o)
applied-sound t m texts s f o e v =
    let p = o.outcome in
    let a : (apply_of t.board m texts t.memory).outcome ≡ accepted p.applied.board p.memory
    = ap (λ (i : Indexed). i.outcome) e ∙ ap (λ (w : Result (Unit {0}) Refusal). outcome (record { board = p.applied.board; verdict = w }) p.memory) v in
    record {
      rows = apply-sound t.board m texts t.memory p.applied.board p.memory s.rows s.index f.0 f.1 a;
      board = apply-board t.board m texts t.memory p.applied.board p.memory s.board f.1 a;
      index = subst SortedBy e (apply-sorted t.board m texts t.memory s.index s.rows.sized f.0);
    }

heard-kept : (t : Table) (texts : Texts) (a : Result Message message_refusal.Refusal) → SoundTable t
    → ((m : Message) → a ≡ Ok m → messages.Typed m texts × (messages.keeps m texts ≡ true)) → Delivers (heard t texts a)
heard-kept t texts (Err r) s f = (s, read-stands r)
heard-kept t texts (Ok m) s f =
    let o = apply_of t.board m texts t.memory in
    settled-kept t m (said m texts) o.outcome.applied.verdict o.outcome.applied.board (table_by o).memory s (apply-leaves t.board m texts t.memory)
    (applied-sound t m texts s (f m refl) o refl)

pub deliver-kept : (t : Table) (body : List ℕ) → Bytes body → SoundTable t → Delivers (deliver t body)
unfolding deliver
deliver-kept t body b s = heard-kept t (read_of body).texts (read_of body).answer s
    (λ m e.
    let y = read-typed body b m e in
    (y.0, y.1))
