-- The ways through a message that is delivered where its bytes lie: tested, applied to its row, its record written, its number counted.
-- Assumes nothing.
use mathlib.Core.Path.{◌≡◌, refl, sym, ap, ◌∙◌}
use mathlib.Core.Bool.{Bool, true, false, not}
use mathlib.Core.Logic.{◌⊎◌, inl, inr}
use mathlib.Core.List.{List, [], ◌∷◌}
use Prim.Native.Nat.{ℕ, ◌+◌, ◌*◌, ◌≤◌, ◌<◌}
use native.Mathlib.Decide.{ℕ_discrete}
use native.Mathlib.Omega.{arith}
use lib.ListN.{length, get_or}
use Rattle.field.specs.Bytes.{part, be}
use Rattle.field.proofs.Parts.{part_length}
use Rattle.field.proofs.Numbers.{Lent, lent-bytes}
use Rattle.message.specs.Layout.{values}
use Rattle.message.specs.Feed.{letter_among, listed_length, bytes_read}
use Rattle.message.specs.Letters.{letters, letter_in, end_of_replay_rows, end_of_replay_of}
use Rattle.message.specs.Message as messages
use Rattle.message.specs.Message.{accepted, read_of, read_as}
use Rattle.message.specs.Test as tests
use Rattle.message.specs.Test.{tested_as, tested, checked_as, checked, quote_letters, quote_length}
use Rattle.message.specs.declared.Message.{Message}
use Rattle.message.specs.declared.Texts.{Texts}
use Rattle.message.specs.declared.Reading.{Reading}
use Rattle.message.specs.declared.Refusal as message_refusal
use Rattle.message.specs.declared.Refusal.TheVariants as message_refusals
use Rattle.message.proofs.Tested.{test-empty}
use Rattle.message.proofs.Feeds.{unlisted_length}
use Rattle.packet.specs.Frame.{held_size}
use Rattle.packet.proofs.Rules.{never}
use Rattle.packet.specs.Numbering.{number_after}
use Rattle.packet.specs.Session.{Delivered, done, denied, delivered}
use Rattle.table.specs.Memory.{Memories}
use Rattle.table.specs.Index.{LentFitting}
use Rattle.table.specs.Board as tables
use Rattle.table.specs.Board.{Indexed, beside, with_event, with_live, effect, apply_of}
use Rattle.table.specs.Wire.{placed}
use Rattle.table.specs.declared.Board.{Board}
use Rattle.table.specs.declared.Refusal as table_refusal
use Rattle.table.specs.declared.Refusal.TheVariants as table_refusals
use Rattle.table.specs.declared.wire.Placed.{Placed}
use Rattle.table.specs.declared.wire.Placed.TheVariants.{Kept, Added, Refused}
use Rattle.table.proofs.Ways.{fitting-lent}
use Rattle.table.proofs.Wired.{event-wired, end-wired}
use Rattle.handle.specs.Handle.{is_handle, head_of, handle_bytes, places_in, with_board, next_field, live_field, rows_field, refusal_field, event_field, with_field}
use Rattle.handle.specs.declared.Head.{Head}
use Rattle.handle.proofs.Rounds.{handle-length, session-length}
use Rattle.handle.proofs.Laid.{handle-back}
use Rattle.handle.proofs.Single.{next-put, live-put, rows-put, refusal-put, event-put}
use Rattle.reader.specs.Deliver.{Table, table_of, table_by, Said, said, settled_by, settled, heard, deliver}
use Rattle.reader.specs.Calls.{verdict_number}
use Rattle.reader.specs.Refusals.{refusal_number, number_in}
use Rattle.reader.specs.declared.Refusal as own_refusal
use Rattle.reader.proofs.Ways.{some_number}
use borrow.Author.Tests.{eqb-false}
use Rattle.reader.specs.Handles.{event_number, told_number, Left, left}
use Rattle.reader.specs.Shapes.{Going, Ready, closed_as, applied_as, tried_as}
use Rattle.std.specs.Prelude.{Err}
use Rattle.std.specs.Prelude.{Ok}
use Rattle.std.specs.Prelude.{Result}
use Rattle.std.specs.Prelude.{Option}
use Rattle.std.specs.Prelude.{None}
use Rattle.std.specs.Prelude.{is_some}
use Rattle.message.specs.declared.Refusal.{Refusal}

-- ---- a handle as head and places

module _ (handle : List ℕ) (is : is_handle handle ≡ true) where
  pub own-ten : length (head_of handle).line.session ≡ 10
  own-ten = session-length handle (handle-length handle is)

  pub own-long : length (places_in handle) ≡ held_size
  own-long = part_length handle 47 held_size (omega (arith, handle-length handle is))

  pub own : Lent handle → handle ≡ handle_bytes (head_of handle) (places_in handle)
  own k = sym (handle-back handle is (lent-bytes handle k))

-- ---- the test

pub checked-by : (bs : List ℕ) (letter : ℕ) {v : Result (Unit {0}) Refusal} → (length bs ≡ 0 → ⊥) → letter ≡ get_or bs 0 0
    → v ≡ checked (read_as (letter_in letters letter) bs) → v ≡ checked (read_of bs)
unfolding read_of read_as bytes_read
checked-by [] letter some e p = absurd (some refl)
checked-by (c ∷ bs) letter some e p = p ∙ ap (λ (x : ℕ). checked (read_as (letter_in letters x) (c ∷ bs))) e

read_some : (x : message_refusal.Refusal) → messages.refusal_number x ≡ 0 → ⊥
read_some message_refusals.UnknownLetter e = omega arith
read_some message_refusals.WrongLength e = omega arith
read_some message_refusals.BadField e = omega arith

-- a reading that has passed its test is a message
abbrev Passed : Reading → Type 0
Passed r = (m : Message) × (t : Texts) × (r ≡ accepted m t)

passed : (r : Reading) → tested r ≡ 0 → Passed r
passed r = by r.answer refl
  where
    by : (a : Result Message Refusal) → r.answer ≡ a → tested_as a ≡ 0 → Passed r
    by (Ok m) f g = (m, r.texts, λ i. record { answer = f i; texts = r.texts })
    by (Err x) f g = absurd (read_some x g)

-- its number is 0, or that of the refusal
module _ (bs : List ℕ) {v : Result (Unit {0}) Refusal} (e : v ≡ checked (read_of bs)) where
  tested-number : tests.number_in v ≡ tested (read_of bs)
  tested-number = ap tests.number_in e ∙ by (read_of bs).answer
    where
      by : (a : Result Message Refusal) → tests.number_in (checked_as a) ≡ tested_as a
      by (Ok m) = refl
      by (Err x) = refl

  pub tested-passed : v ≡ Ok (tt {0}) → tested (read_of bs) ≡ 0
  tested-passed f = sym tested-number ∙ ap tests.number_in f

  tested-refused : {x : Refusal} → v ≡ Err x → messages.refusal_number x ≡ tested (read_of bs)
  tested-refused f = sym (ap tests.number_in f) ∙ tested-number

-- no test has a higher number
pub tested_low : (bs : List ℕ) {n : ℕ} → n ≡ tested (read_of bs) → n ≤ 12
tested_low bs e = rw e (by (read_of bs).answer)
  where
    by : (a : Result Message Refusal) → tested_as a ≤ 12
    by (Ok m) = omega arith
    by (Err message_refusals.UnknownLetter) = omega arith
    by (Err message_refusals.WrongLength) = omega arith
    by (Err message_refusals.BadField) = omega arith

-- ---- what a message does, by its reading

denied-is : (t : Table) (body : List ℕ) {n : ℕ} → n ≡ tested (read_of body) → (n ≡ 0 → ⊥) → deliver t body ≡ denied n t
unfolding deliver
denied-is t body {n} e d = by (read_of body).answer (λ z. d (e ∙ z)) ∙ ap (λ (k : ℕ). denied k t) (sym e)
  where
    by : (a : Result Message Refusal) → (tested_as a ≡ 0 → ⊥) → heard t (read_of body).texts a ≡ denied (tested_as a) t
    by (Ok m) h = absurd (h refl)
    by (Err x) h = refl

heard-is : (b : Board) (mem : Memories) (body : List ℕ) (m : Message) (t : Texts) → LentFitting b.rows mem → read_of body ≡ accepted m t
    → deliver (table_of b mem) body ≡ settled (said m t) (effect b m t mem)
unfolding deliver apply_of
heard-is b mem body m t f e =
    ap (λ (r : Reading). heard (table_of b mem) r.texts r.answer) e ∙ (rw (fitting-lent b.rows mem f))

-- ---- placed in its row

module _ (handle : List ℕ) (is : is_handle handle ≡ true) (lent : Lent handle) (body : List ℕ) (table : Memories) (rows : ℕ) (q : rows ≡ (head_of handle).board.rows)
    (w : Placed) (table' : Memories)
    (p : (b : Board) (m : Message) (t : Texts) → b.rows ≡ rows → read_of body ≡ accepted m t → beside table'.index (placed w b table'.table) ≡ effect b m t table) where
  abbrev b : Board
  b = (head_of handle).board

  placed-as : {x : Placed} → w ≡ x → (m : Message) (t : Texts) → read_of body ≡ accepted m t
      → applied_as (beside table'.index (placed x b table'.table)) handle ≡ applied_as (effect b m t table) handle
  placed-as e m t f =
      ap (λ (o : Indexed). applied_as o handle) (ap (λ (x : Placed). beside table'.index (placed x b table'.table)) (sym e) ∙ p b m t (sym q) f)

  pub place_kept : w ≡ Kept → (m : Message) (t : Texts) → read_of body ≡ accepted m t → left 0 handle table' ≡ applied_as (effect b m t table) handle
  place_kept e m t f = ap (λ (x : List ℕ). left 0 x table') (own handle is lent) ∙ placed-as e m t f

  pub place-added : {handle' : List ℕ} → w ≡ Added → handle' ≡ with_field rows_field (rows + 1) handle → (m : Message) (t : Texts) → read_of body ≡ accepted m t
      → left 0 handle' table' ≡ applied_as (effect b m t table) handle
  place-added e g m t f =
      ap (λ (x : List ℕ). left 0 x table') (rows-put (head_of handle) (places_in handle) (own-ten handle is) (own handle is lent) (b.rows + 1) (rw q at g))
      ∙ placed-as e m t f

  pub place-refused : {x : table_refusal.Refusal} {n : ℕ} → w ≡ Refused x → n ≡ tables.refusal_number x → (m : Message) (t : Texts) → read_of body ≡ accepted m t
      → left n handle table' ≡ applied_as (effect b m t table) handle
  place-refused e g m t f = (λ i. left (g i) (own handle is lent i) table') ∙ placed-as e m t f

-- ---- S and M

module _ (handle : List ℕ) (is : is_handle handle ≡ true) (lent : Lent handle) (body : List ℕ) (table : Memories) {handle' : List ℕ} where
  pub apply-event : {v : ℕ} → get_or body 0 0 ≡ 83 → v ≡ be (part body 11 1) → handle' ≡ with_field event_field v handle → (m : Message) (t : Texts)
      → read_of body ≡ accepted m t → left 0 handle' table ≡ applied_as (effect (head_of handle).board m t table) handle
  apply-event {v} k e g m t f =
      ap (λ (x : List ℕ). left 0 x table) (event-put (head_of handle) (places_in handle) (own-ten handle is) (own handle is lent) v g)
      ∙ ap (λ (n : ℕ). applied_as (beside table.index (tables.accepted (with_event n (head_of handle).board) table.table)) handle) e
      ∙ ap (λ (o : Indexed). applied_as o handle) (sym (event-wired body (head_of handle).board m t table f k))

  pub apply-live : {v : ℕ} → get_or body 0 0 ≡ 77 → v ≡ (end_of_replay_of (values end_of_replay_rows body)).number → handle' ≡ with_field live_field v handle
      → (m : Message) (t : Texts) → read_of body ≡ accepted m t → left 0 handle' table ≡ applied_as (effect (head_of handle).board m t table) handle
  apply-live {v} k e g m t f =
      ap (λ (x : List ℕ). left 0 x table) (live-put (head_of handle) (places_in handle) (own-ten handle is) (own handle is lent) v g)
      ∙ ap (λ (n : ℕ). applied_as (beside table.index (tables.accepted (with_live n (head_of handle).board) table.table)) handle) e
      ∙ ap (λ (o : Indexed). applied_as o handle) (sym (end-wired body (head_of handle).board m t table f k))

-- ---- delivered

table-some : (r : table_refusal.Refusal) → tables.refusal_number r ≡ 0 → ⊥
table-some table_refusals.Unfit e = omega arith
table-some table_refusals.NoRow e = omega arith
table-some table_refusals.NoQuotes e = omega arith
table-some table_refusals.FixedField e = omega arith
table-some table_refusals.TableFull e = omega arith

module _ (handle : List ℕ) (table : Memories) (g : Going handle table) (lent : Lent handle) (body : List ℕ) where
  abbrev here : Table
  here = table_of (head_of handle).board table

  refuses : {n : ℕ} → n ≡ tested (read_of body) → (n ≡ 0 → ⊥) → left n handle table ≡ tried_as (deliver here body) handle
  refuses {n} e d =
      ap (λ (x : List ℕ). left n x table) (own handle g.handle-is lent)
      ∙ ap (λ (x : Delivered Table Said). tried_as x handle) (sym (denied-is here body e d))

  pub tried-empty : length body ≡ 0 → left 10 handle table ≡ tried_as (deliver here body) handle
  tried-empty e = refuses (test-empty body e) (λ z. omega arith)

  pub tried-bad : {v : Result (Unit {0}) Refusal} {x : Refusal} (r : own_refusal.Refusal) → v ≡ checked (read_of body) → v ≡ Err x
      → refusal_number r ≡ messages.refusal_number x → left (refusal_number r) handle table ≡ tried_as (deliver here body) handle
  tried-bad r e f k = refuses (k ∙ tested-refused body e f) (eqb-false (refusal_number r) 0 (some_number r))

  -- what was promised of the message that the bytes are
  module _ {v : Result (Unit {0}) Refusal} {r : ℕ} (e : v ≡ checked (read_of body)) (z : v ≡ Ok (tt {0})) (handle' : List ℕ) (table' : Memories)
      (a : (m : Message) (t : Texts) → read_of body ≡ accepted m t → left r handle' table' ≡ applied_as (effect (head_of handle).board m t table) handle) where
    is-message : Passed (read_of body)
    is-message = passed (read_of body) (tested-passed body e z)

    abbrev effect_is : Indexed
    effect_is = effect (head_of handle).board is-message.0 is-message.1 table

    heard-here : deliver here body ≡ settled (said is-message.0 is-message.1) effect_is
    heard-here = heard-is (head_of handle).board table body is-message.0 is-message.1 g.fitting is-message.2

    left_is : left r handle' table' ≡ applied_as effect_is handle
    left_is = a is-message.0 is-message.1 is-message.2

    pub tried-applied : left r handle' table' ≡ tried_as (deliver here body) handle
    tried-applied =
        left_is
        ∙ by effect_is.outcome.applied.verdict
        ∙ ap (λ (x : Delivered Table Said). tried_as x handle) (sym heard-here)
      where
        by : (v : Result (Unit {0}) table_refusal.Refusal)
            → (let t = table_by effect_is in
            left (verdict_number v) (handle_bytes (with_board t.board (head_of handle)) (places_in handle)) t.memory
            ≡ tried_as (settled_by v (said is-message.0 is-message.1) t) handle)
        by (Ok u) = refl
        by (Err x) = refl

-- ---- counted, or refused

-- no refusal is 0
abbrev DeniedSome : Delivered Table Said → Type 0
DeniedSome (done x t) = Unit
DeniedSome (denied n t) = n ≡ 0 → ⊥

settled-some : (x : Said) (v : Result (Unit {0}) table_refusal.Refusal) (t : Table) → DeniedSome (settled_by v x t)
settled-some x (Ok u) t = tt
settled-some x (Err r) t = table-some r

heard-some : (t : Table) (texts : Texts) (a : Result Message Refusal) → DeniedSome (heard t texts a)
heard-some t texts (Err r) = read_some r
heard-some t texts (Ok m) =
    let o = apply_of t.board m texts t.memory in
    settled-some (said m texts) o.outcome.applied.verdict (table_by o)

deliver-some : (t : Table) (body : List ℕ) → DeniedSome (deliver t body)
unfolding deliver
deliver-some t body = heard-some t (read_of body).texts (read_of body).answer

module _ (handle : List ℕ) (table : Memories) (g : Ready handle table) (v : Result (Unit {0}) own_refusal.Refusal) (handle' : List ℕ) (table' : Memories) where
  abbrev h : Head
  h = head_of handle

  abbrev held : List ℕ
  held = places_in handle

  ten : length h.line.session ≡ 10
  ten = own-ten handle g.going.handle-is

  abbrev Tried : Delivered Table Said → Type 0
  Tried d = left (number_in v) handle' table' ≡ tried_as d handle

  -- a refusal stands
  refused_as : (d : Delivered Table Said) (r : own_refusal.Refusal) {a : ℕ} {handle'' : List ℕ} → Tried d → v ≡ Err r → a ≡ 2048 + refusal_number r
      → handle'' ≡ with_field refusal_field (refusal_number r) handle'
      → left a handle'' table' ≡ closed_as (delivered h.line d) handle
  unfolding told_number
  refused_as (done x t) r w z f p = absurd (eqb-false (refusal_number r) 0 (some_number r) (sym (ap number_in z) ∙ ap (λ (s : Left). s.number) w))
  refused_as (denied n t) r {a} w z f p =
      let same : refusal_number r ≡ n = sym (ap number_in z) ∙ ap (λ (s : Left). s.number) w in
      let put = refusal-put (with_board t.board h) held ten (ap (λ (s : Left). s.handle) w) (refusal_number r) p in
      let count : a ≡ 2048 + n + 0 * 65_536 = omega (arith, f, same) in
      (λ i. left (count i) (put i) (w i).memory)
      ∙ (λ i. left (2048 + n + 0 * 65_536)
      (handle_bytes (record { line = h.line; board = t.board; ended = g.going.live i; refusal = same i; used = g.unheld i }) held) t.memory)

  -- an accepted message takes the next number
  done-as : (d : Delivered Table Said) {handle'' : List ℕ} (next : ℕ) → DeniedSome d → Tried d → v ≡ Ok (tt {0}) → next ≡ number_after h.line.next
      → handle'' ≡ with_field next_field next handle' → left 768 handle'' table' ≡ closed_as (delivered h.line d) handle
  unfolding told_number event_number
  done-as (denied n t) next some w z f p = absurd (some (sym (ap (λ (s : Left). s.number) w) ∙ ap number_in z))
  done-as (done x t) next some w z f p =
      let put = next-put (with_board t.board h) held ten (ap (λ (s : Left). s.handle) w) next p in
      (λ i. left 768 (put i) (w i).memory)
      ∙ (λ i. left 768
      (handle_bytes (record {
        line = record { session = h.line.session; known = h.line.known; logged = h.line.logged; next = f i };
        board = t.board;
        ended = g.going.live i;
        refusal = g.going.unrefused i;
        used = g.unheld i;
      }) held) t.memory)

  module _ (body : List ℕ) (e : Tried (deliver (table_of h.board table) body)) where
    pub message-refused : (r : own_refusal.Refusal) {a : ℕ} {handle'' : List ℕ} → v ≡ Err r → a ≡ 2048 + refusal_number r
        → handle'' ≡ with_field refusal_field (refusal_number r) handle'
        → left a handle'' table' ≡ closed_as (delivered h.line (deliver (table_of h.board table) body)) handle
    message-refused r = refused_as (deliver (table_of h.board table) body) r e

    pub message-done : {handle'' : List ℕ} (next : ℕ) → v ≡ Ok (tt {0}) → next ≡ number_after h.line.next → handle'' ≡ with_field next_field next handle'
        → left 768 handle'' table' ≡ closed_as (delivered h.line (deliver (table_of h.board table) body)) handle
    message-done next = done-as (deliver (table_of h.board table) body) next (deliver-some (table_of h.board table) body) e

-- a letter that has a quote's length is a quote's
pub quote-some : (c : ℕ) {x : Option ℕ} {b : Bool} → x ≡ listed_length (letter_in quote_letters c) → is_some x ≡ not b → b ≡ false → quote_length c ≡ 0 → ⊥
unfolding quote_length
quote-some c {x} e k f z =
    let none : None ≡ x = unlisted_length (letter_in quote_letters c) refl z ∙ sym e in
    never (ap is_some none ∙ k ∙ ap not f)

-- a quote's letter is neither S nor M
module _ (c : ℕ) (some : quote_length c ≡ 0 → ⊥) where
  pub quote-no-event : c ≡ 83 → ⊥
  unfolding quote_length quote_letters letter_among
  quote-no-event e = some (ap quote_length e)

  pub quote-no-end : c ≡ 77 → ⊥
  unfolding quote_length quote_letters letter_among
  quote-no-end e = some (ap quote_length e)

-- bytes that have passed their test are some
pub passed-some : (bs : List ℕ) → tested (read_of bs) ≡ 0 → 0 < length bs
passed-some bs p = by (ℕ_discrete (length bs) 0)
  where
    by : Dec (length bs ≡ 0) → 0 < length bs
    by (yes e) = absurd (omega (arith, test-empty bs e, p))
    by (no n) = omega (arith, n)

-- what both of two ways give
pub either : {A B C : Type 0} → A ⊎ B → (A → C) → (B → C) → C
either (inl a) f g = f a
either (inr b) f g = g b
