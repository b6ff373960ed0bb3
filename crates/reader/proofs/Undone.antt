-- A REFUSED MESSAGE LEAVES THE TABLE, its rows and its index.
-- Assumes nothing.
use mathlib.Core.Path.{◌≡◌, refl, subst}
use mathlib.Core.List.{List}
use Prim.Native.Nat.{ℕ}
use Rattle.message.specs.Message.{read_of}
use Rattle.message.specs.declared.Texts.{Texts}
use Rattle.message.specs.declared.Message.{Message}
use Rattle.packet.specs.Session.{Delivered, done, denied}
use Rattle.table.specs.Memory.{Memories}
use Rattle.table.specs.Board.{apply_of}
use Rattle.table.specs.declared.Board.{Board}
use Rattle.table.proofs.Exactly.{LeftBy, apply-leaves}
use Rattle.reader.specs.Deliver.{Table, table_of, table_by, Said, said, settled_by, heard, deliver}
use Rattle.std.specs.Prelude.{Err}
use Rattle.std.specs.Prelude.{Ok}
use Rattle.std.specs.Prelude.{Result}
use Rattle.message.specs.declared.Refusal.{Refusal}
use Rattle.table.specs.declared.Refusal as table_refusal

abbrev Undone : Table → Delivered Table Said → Type 0
Undone t (done x t') = Unit
Undone t (denied n t') = t' ≡ t

settled-undone : (t : Table) (m : Message) (x : Said) (v : Result (Unit {0}) table_refusal.Refusal) (b : Board) (l : Memories) → LeftBy t.board m t.memory v b l
    → Undone t (settled_by v x (table_of b l))
settled-undone t m x (Ok u) b l h = tt
settled-undone t m x (Err r) b l h = rw (h.0, h.1)

heard-undone : (t : Table) (texts : Texts) (a : Result Message Refusal) → Undone t (heard t texts a)
heard-undone t texts (Err r) = refl
heard-undone t texts (Ok m) =
    let o = apply_of t.board m texts t.memory in
    settled-undone t m (said m texts) o.outcome.applied.verdict o.outcome.applied.board (table_by o).memory
    (apply-leaves t.board m texts t.memory)

pub deliver-undone : (t t' : Table) (body : List ℕ) (n : ℕ) → deliver t body ≡ denied n t' → t' ≡ t
unfolding deliver
deliver-undone t t' body n e = subst (Undone t) e (heard-undone t (read_of body).texts (read_of body).answer)
