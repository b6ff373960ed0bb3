-- QUOTES: a message that is told holds no zero as a price above zero, and a side that it sets is seen, reads as its price or as none, and has its time.
-- Assumes nothing.
use mathlib.Core.Path.{◌≡◌, refl, ap, ◌∙◌, subst}
use mathlib.Core.Bool.{true}
use mathlib.Core.List.{List}
use Prim.Native.Nat.{ℕ}
use native.Mathlib.Omega.{arith}
use Rattle.field.specs.Bytes.{Bytes}
use Rattle.message.specs.Letters.{prices_of, NoZero, LongNumbers}
use Rattle.message.specs.Message as messages
use Rattle.message.specs.Message.{read_of}
use Rattle.message.specs.declared.Message.{Message}
use Rattle.std.specs.Prelude.{None}
use Rattle.message.specs.declared.Side.{Side}
use Rattle.message.specs.declared.Texts.{Texts}
use Rattle.message.proofs.Typed.{read-typed}
use Rattle.message.proofs.NoZero.{kept-no-zero}
use Rattle.packet.specs.Session.{Delivered, done, denied}
use Rattle.row.specs.Fields.{sides_of, price_of, side_time_of, has_seen}
use Rattle.row.specs.Changes.{quoted}
use Rattle.table.specs.Memory.{Memories, row}
use Rattle.table.specs.Board.{Indexed, beside, outcome, accepted, look, apply_of}
use Rattle.table.specs.Places.{quoted_in, time_of}
use Rattle.table.specs.declared.Board.{Board}
use Rattle.table.specs.declared.index.Sought.TheVariants.{Here}
use Rattle.table.proofs.Quotes.{quoted-price, quoted-time}
use Rattle.table.proofs.Kept.{quoted-seen}
use Rattle.reader.specs.Deliver.{Table, table_of, table_by, Said, said, settled_by, heard, deliver}
use Rattle.demands.specs.Sound.{SoundTable}
use Rattle.std.specs.Prelude.{Err}
use Rattle.std.specs.Prelude.{Ok}
use Rattle.std.specs.Prelude.{Result}
use Rattle.message.specs.declared.Refusal.{Refusal}
use Rattle.table.specs.declared.Refusal as table_refusal

-- ---- an accepted message was read, and then applied

pub record Taken (t : Table) (body : List ℕ) (x : Said) (t' : Table) : Type 0 where
  pub read : (read_of body).answer ≡ Ok x.message
  pub texts : (read_of body).texts ≡ x.texts
  pub applied : apply_of t.board x.message x.texts t.memory ≡ beside t'.memory.index (accepted t'.board t'.memory.table)

no-denial : {A : Type 0} {n : ℕ} {t t' : Table} {x : Said} → ◌≡◌ {A = Delivered Table Said} (denied n t) (done x t') → A
no-denial {n = n} {t = t} {t' = t'} {x = x} e = let z : ◌≡◌ {A = ℕ} 0 1 = cc in absurd (omega arith)

settled-taken : (t t' : Table) (body : List ℕ) (m : Message) (x : Said) (v : Result (Unit {0}) table_refusal.Refusal) (b : Board) (l : Memories) → (read_of body).answer ≡ Ok m
    → apply_of t.board m (read_of body).texts t.memory ≡ beside l.index (outcome (record { board = b; verdict = v }) l.table)
    → settled_by v (said m (read_of body).texts) (table_of b l) ≡ done x t' → Taken t body x t'
settled-taken t t' body m x (Ok u) b l r a e =
    let f : said m (read_of body).texts ≡ x = cc in
    let g : table_of b l ≡ t' = cc in
    subst (λ (y : Said). Taken t body y t') f
    (subst (Taken t body (said m (read_of body).texts)) g (record { read = r; texts = refl; applied = a }))
settled-taken t t' body m x (Err n) b l r a e = no-denial e

heard-taken : (t t' : Table) (body : List ℕ) (x : Said) (a : Result Message Refusal) → (read_of body).answer ≡ a → heard t (read_of body).texts a ≡ done x t'
    → Taken t body x t'
heard-taken t t' body x (Err r) i e = no-denial e
heard-taken t t' body x (Ok m) i e =
    let o = apply_of t.board m (read_of body).texts t.memory in
    settled-taken t t' body m x o.outcome.applied.verdict o.outcome.applied.board (table_by o).memory i refl e

pub deliver-taken : (t t' : Table) (body : List ℕ) (x : Said) → deliver t body ≡ done x t' → Taken t body x t'
unfolding deliver
deliver-taken t t' body x e = heard-taken t t' body x (read_of body).answer refl e

-- ---- THE THEOREMS

-- no message that is told holds zero as a price above zero
pub told-no-zero : (t t' : Table) (body : List ℕ) → Bytes body → (x : Said) → deliver t body ≡ done x t' → NoZero (prices_of x.message)
told-no-zero t t' body b x d =
    let r = deliver-taken t t' body x d in
    kept-no-zero x.message (read_of body).texts (read-typed body b x.message r.read).1

module _ (t t' : Table) (body : List ℕ) (b : Bytes body) (s : SoundTable t) (x : Said) (d : deliver t body ≡ done x t')
    (k : ℕ) (w : look t.board x.message t.memory ≡ Here k) (side : Side) (n : LongNumbers) (e : quoted_in x.message side ≡ quoted n) where
  kept : messages.Typed x.message x.texts × (messages.keeps x.message x.texts ≡ true)
  kept =
      let r = deliver-taken t t' body x d in
      let y = read-typed body b x.message r.read in
      subst (λ (u : Texts). messages.Typed x.message u × (messages.keeps x.message u ≡ true)) r.texts (y.0, y.1)

  -- a message that is accepted, on a table that our own calls made, and sets a side: its row has seen that side, and reads as the message's price
  pub quote-shown : (has_seen side (sides_of (row k t'.memory.table)) ≡ true) × (price_of side (row k t'.memory.table) ≡ n.price)
  quote-shown =
      let a = ap (λ (i : Indexed). i.outcome) (deliver-taken t t' body x d).applied in (
        quoted-seen t.board x.message x.texts t.memory t'.board t'.memory.table s.rows kept.0 kept.1 a k w side n e,
        quoted-price t.board x.message x.texts t.memory t'.board t'.memory.table a k w side n e kept.0 kept.1,
      )

  -- so a price of 0 reads as none
  pub none-shown : n.price ≡ None → price_of side (row k t'.memory.table) ≡ None
  none-shown p = quote-shown.1 ∙ p

  -- and the time of that side is the message's (W-209)
  pub quote-timed : side_time_of side (row k t'.memory.table) ≡ time_of x.message
  quote-timed =
      let a = ap (λ (i : Indexed). i.outcome) (deliver-taken t t' body x d).applied in
      quoted-time t.board x.message x.texts t.memory t'.board t'.memory.table a k w side n e kept.0 kept.1
