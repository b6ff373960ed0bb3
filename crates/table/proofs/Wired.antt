-- What bytes say to the table is what the message that they are read as does to it; and each way through the code says it.
-- Assumes nothing.
use mathlib.Core.Path.{◌≡◌, refl, sym, ap, subst, ◌∙◌}
use mathlib.Core.Bool.{Bool, true, false, cond, not}
use mathlib.Core.List.{List, [], ◌∷◌}
use Prim.Native.Nat.{ℕ, ◌+◌, ◌-◌, ◌*◌, ◌≤◌, ◌<◌}
use native.Mathlib.Decide.{ℕ_discrete}
use native.Mathlib.Omega.{arith}
use borrow.Author.Tests.{ne_eqb, le-leb, lt-leb, lt-ltb, le-ltb, not-true, not-false}
use lib.ListN.{length, get_or}
use Rattle.field.specs.Bytes.{part, be}
use Rattle.field.proofs.Parts.{overlay-own}
use Rattle.message.specs.Layout.{values}
use Rattle.message.specs.Feed.{Letter, letter_among, Sized}
use Rattle.message.specs.Letters.{Content, letters, letter_in, unlisted, end_of_replay_rows, end_of_replay_of}
use Rattle.message.specs.Message.{refused, told, read_of}
use Rattle.message.specs.Message as message
use Rattle.message.specs.Test.{tested_as, tested, quote_length}
use Rattle.message.specs.declared.Message.{Message}
use Rattle.message.specs.declared.Texts.{Texts}
use Rattle.message.specs.declared.Reading.{Reading}
use Rattle.message.specs.declared.Refusal.TheVariants.{UnknownLetter, WrongLength, BadField}
use Rattle.message.proofs.Feeds.{Verdict, empty, unknown, long, field, whole, found}
use Rattle.message.proofs.Table.{room}
use Rattle.message.proofs.Verdicts.{Fine, Taken, read-verdict, accepted-exactly, clash}
use Rattle.message.proofs.Tested.{quotes, rare-last}
use Rattle.row.specs.Fields.{row_size, takes_quote}
use Rattle.row.specs.Changes.{changed, new_row, unchanged, directory_changes, action_changes, quote_changes}
use Rattle.row.specs.Wire.{sides_in, action_in, instrument_in, directory_in, texts_in, quote_in}
use Rattle.table.specs.Memory.{most_rows, table_size, Memories, memories, row, with_row, Found, At, Nothing}
use Rattle.table.specs.Index.{sought}
use Rattle.table.specs.Board as board
use Rattle.table.specs.Board.{Outcome, Indexed, beside, with_event, with_live, an_id, wanted_by, look_for, effect_at, entering, effect_by, effect, directory_at, action_at, quote_at}
use Rattle.table.specs.Wire.{placed, index_by, Rowed, Placeable, effect_in, AtRow, AtNone}
use Rattle.table.specs.declared.index.Sought.{Sought}
use Rattle.table.specs.declared.index.Sought.TheVariants.{Here, Absent, Astray}
use Rattle.table.specs.declared.Board.{Board}
use Rattle.table.specs.declared.Refusal.{Refusal}
use Rattle.table.specs.declared.Refusal.TheVariants.{Unfit, NoRow, NoQuotes, FixedField, TableFull}
use Rattle.table.specs.declared.wire.Placed.{Placed}
use Rattle.table.specs.declared.wire.Placed.TheVariants as placing
use Rattle.table.proofs.Ways.{lent_row, back, row-lent, row_back}
use Rattle.std.specs.Prelude.{Err, Ok, Result}
use Rattle.message.specs.declared.Refusal as message_refusal

infixr 5 ◌also◌
abbrev ◌also◌ : {A B : Type 0} → A → B → A × B
a also b = (a, b)

-- ---- bytes that have passed their test

passed-taken : (a : Result Message message_refusal.Refusal) → tested_as a ≡ 0 → Taken a
passed-taken (Ok m) e = tt
passed-taken (Err UnknownLetter) e = absurd (omega arith)
passed-taken (Err WrongLength) e = absurd (omega arith)
passed-taken (Err BadField) e = absurd (omega arith)

fine-sized : (bs : List ℕ) → Fine bs → Sized (letter_in letters (get_or bs 0 0)) bs
fine-sized [] f = absurd f
fine-sized (c ∷ bs) f = f.0

module _ (bs : List ℕ) (p : Rowed bs) where
  sized : Sized (letter_in letters (get_or bs 0 0)) bs
  sized = fine-sized bs ((accepted-exactly bs).0 (passed-taken (read_of bs).answer p.passed))

  pub action-room : get_or bs 0 0 ≡ 72 → 16 ≤ length bs
  unfolding letters letter_among
  action-room e = room 72 (get_or bs 0 0) bs e sized

  pub directory-room : get_or bs 0 0 ≡ 109 → 63 ≤ length bs
  unfolding letters letter_among
  directory-room e = room 109 (get_or bs 0 0) bs e sized

  pub quote-room : (get_or bs 0 0 ≡ 72 → ⊥) → (get_or bs 0 0 ≡ 109 → ⊥) → (quote_length (get_or bs 0 0) ≡ 0 → ⊥) × (length bs ≡ quote_length (get_or bs 0 0))
  unfolding quote_length
  quote-room n d =
      let some : quote_length (get_or bs 0 0) ≡ 0 → ⊥ = λ q. p.no_end (rare-last (get_or bs 0 0) p.no_event d n q sized.is_listed) in
      (some, sized.is_long ∙ ap (λ (l : Letter Content). l.size) (quotes bs (get_or bs 0 0) some).own)

  -- each of them has an id
  pub id-room : 11 + 4 ≤ length bs
  unfolding letters quote_length
  id-room = by (ℕ_discrete (get_or bs 0 0) 72) (ℕ_discrete (get_or bs 0 0) 109)
    where
      by : Dec (get_or bs 0 0 ≡ 72) → Dec (get_or bs 0 0 ≡ 109) → 11 + 4 ≤ length bs
      by (yes e) d = omega (arith, action-room e)
      by (no n) (yes e) = omega (arith, directory-room e)
      by (no n) (no d) = let q = quote-room n d in omega (arith, q.1, (quotes bs (get_or bs 0 0) q.0).head)

pub rowed : {rows : ℕ} {bs : List ℕ} {l : Memories} → Placeable rows bs l → Rowed bs
rowed p = record { passed = p.passed; no_event = p.no_event; no_end = p.no_end }

-- ---- what they are read as

abbrev made : List ℕ → Content
made bs = (letter_in letters (get_or bs 0 0)).makes (values (letter_in letters (get_or bs 0 0)).rows bs)

read_made : {bs : List ℕ} {r : Reading} → Verdict told refused (letter_in letters) bs r → (m : Message) (t : Texts) → r ≡ message.accepted m t
    → told (made bs) ≡ message.accepted m t
read_made empty m t e = clash (ap (λ (r : Reading). r.answer) e)
read_made (unknown c bs h) m t e = clash (ap (λ (r : Reading). r.answer) e)
read_made (long c bs h l) m t e = clash (ap (λ (r : Reading). r.answer) e)
read_made (field c bs s k) m t e = clash (ap (λ (r : Reading). r.answer) e)
read_made (whole c bs s k) m t e = e

-- what bytes that look for a row say of the message that they are
pub record Says (bs : List ℕ) (m : Message) (t : Texts) : Type 0 where
  pub wants : wanted_by m ≡ an_id (be (part bs 11 4))
  pub does : (b : Board) (mem : List ℕ) (w : Found) → effect_at b m t mem w ≡ effect_in bs b mem w

-- letter by letter
made-says : (bs : List ℕ) → (get_or bs 0 0 ≡ 83 → ⊥) → (get_or bs 0 0 ≡ 77 → ⊥) → ((letter_in letters (get_or bs 0 0)).size ≡ 0 → ⊥)
    → Says bs (made bs).0 (made bs).1
unfolding letters values effect_at effect_in sides_in
made-says bs no_event no_end =
    found unlisted
    (λ (l : Letter Content). (l.size ≡ 0 → ⊥) → Says bs (l.makes (values l.rows bs)).0 (l.makes (values l.rows bs)).1)
    (get_or bs 0 0) letters (λ h. absurd (h refl))
    ((λ e h. absurd (no_event (sym e)))
    also (λ e h. record { wants = refl; does = λ b mem w. rw (← e) })
    also (λ e h. record { wants = refl; does = λ b mem w. rw (← e) })
    also (λ e h. record { wants = refl; does = λ b mem w. rw (← e) })
    also (λ e h. record { wants = refl; does = λ b mem w. rw (← e) })
    also (λ e h. record { wants = refl; does = λ b mem w. rw (← e) })
    also (λ e h. record { wants = refl; does = λ b mem w. rw (← e) })
    also (λ e h. record { wants = refl; does = λ b mem w. rw (← e) })
    also (λ e h. record { wants = refl; does = λ b mem w. rw (← e) })
    also (λ e h. absurd (no_end (sym e)))
    also tt)

-- of a message that bytes are read as, what holds of the one that is made of them
module _ (bs : List ℕ) (m : Message) (t : Texts) (e : read_of bs ≡ message.accepted m t) where
  as-made : (P : Message → Texts → Type 0) → P (made bs).0 (made bs).1 → P m t
  as-made P p =
      let a : told (made bs) ≡ message.accepted m t = read_made (read-verdict bs) m t e in
      let i : Ok (made bs).0 ≡ Ok m = ap (λ (r : Reading). r.answer) a in
      let j : (made bs).0 ≡ m = cc in
      let k : (made bs).1 ≡ t = ap (λ (r : Reading). r.texts) a in
      subst (λ (x : Message). P x t) j (subst (P (made bs).0) k p)

  -- THEOREM: an accepted message looks for the row of the id in its bytes, and does there what they say
  pub effect-wired : Rowed bs → Says bs m t
  effect-wired p = as-made (Says bs) (made-says bs p.no_event p.no_end (sized bs p).is_listed)

-- ---- a row lent by itself

-- a row put back as it was
row_same : (k : ℕ) (mem : List ℕ) → k * row_size + row_size ≤ length mem → with_row k (row k mem) mem ≡ mem
unfolding row with_row
row_same k mem h = overlay-own mem (k * row_size) row_size h

-- what is refused or changed after a test of the row
module _ (does : Board → List ℕ → Found → Outcome) (test : List ℕ → Bool) (change : List ℕ → List ℕ) (why : Refusal)
    (is : (b : Board) (k : ℕ) (mem : List ℕ) → does b mem (At k)
    ≡ cond (test (row k mem)) (board.accepted b (with_row k (change (row k mem)) mem)) (board.refused why b mem)) where
  pub row-refused : {r : List ℕ} {ok : Bool} → ok ≡ test r → not ok ≡ true → AtRow does r r (placing.Refused why)
  row-refused {r} {ok} p n = record { told = λ b k mem h e. rw (is b k mem, e, ← p, not-true ok n, ← e, row_same k mem h) }

  pub row_kept : {r z : List ℕ} {ok : Bool} → ok ≡ test r → not ok ≡ false → z ≡ change r → AtRow does r z placing.Kept
  row_kept {r} {z} {ok} p y f = record { told = λ b k mem h e. rw (is b k mem, e, ← p, not-false ok y, f) }

module _ (bs : List ℕ) {r : List ℕ} where
  pub action-kept : {z : List ℕ} → z ≡ changed (action_changes (action_in bs)) r → AtRow (λ b. action_at b (action_in bs)) r z placing.Kept
  unfolding action_at
  action-kept = row_kept (λ b. action_at b (action_in bs)) (λ x. true) (changed (action_changes (action_in bs))) NoRow (λ b k mem. refl) refl refl

  module _ {ok : Bool} (p : ok ≡ takes_quote r) where
    pub quote-refused : not ok ≡ true → AtRow (λ b. quote_at b (quote_in bs)) r r (placing.Refused NoQuotes)
    unfolding quote_at
    quote-refused = row-refused (λ b. quote_at b (quote_in bs)) takes_quote (λ x. changed (quote_changes (quote_in bs) x) x) NoQuotes (λ b k mem. refl) p

    pub quote-kept : {z : List ℕ} → not ok ≡ false → z ≡ changed (quote_changes (quote_in bs) r) r → AtRow (λ b. quote_at b (quote_in bs)) r z placing.Kept
    unfolding quote_at
    quote-kept = row_kept (λ b. quote_at b (quote_in bs)) takes_quote (λ x. changed (quote_changes (quote_in bs) x) x) NoQuotes (λ b k mem. refl) p

  module _ {ok : Bool} (p : ok ≡ unchanged (instrument_in bs) (texts_in bs) r) where
    pub relist-refused : not ok ≡ true → AtRow (λ b. directory_at b (directory_in bs) (texts_in bs)) r r (placing.Refused FixedField)
    unfolding directory_at
    relist-refused =
        row-refused (λ b. directory_at b (directory_in bs) (texts_in bs)) (unchanged (instrument_in bs) (texts_in bs)) (changed (directory_changes (directory_in bs) (texts_in bs))) FixedField (λ b k mem. refl) p

    pub relist-kept : {z : List ℕ} → not ok ≡ false → z ≡ changed (directory_changes (directory_in bs) (texts_in bs)) r
        → AtRow (λ b. directory_at b (directory_in bs) (texts_in bs)) r z placing.Kept
    unfolding directory_at
    relist-kept =
        row_kept (λ b. directory_at b (directory_in bs) (texts_in bs)) (unchanged (instrument_in bs) (texts_in bs)) (changed (directory_changes (directory_in bs) (texts_in bs))) FixedField (λ b k mem. refl) p

-- by the letter
module _ (bs : List ℕ) (b : Board) (mem : List ℕ) (w : Found) where
  by-action : get_or bs 0 0 ≡ 72 → effect_in bs b mem w ≡ action_at b (action_in bs) mem w
  unfolding effect_in
  by-action e = rw e

  by-directory : get_or bs 0 0 ≡ 109 → effect_in bs b mem w ≡ directory_at b (directory_in bs) (texts_in bs) mem w
  unfolding effect_in
  by-directory e = rw e

  by-quote : (get_or bs 0 0 ≡ 72 → ⊥) → (get_or bs 0 0 ≡ 109 → ⊥) → effect_in bs b mem w ≡ quote_at b (quote_in bs) mem w
  unfolding effect_in
  by-quote n d = rw (ne_eqb (get_or bs 0 0) 72 n, ne_eqb (get_or bs 0 0) 109 d)

row_by : (bs : List ℕ) (does : Board → List ℕ → Found → Outcome) {before after : List ℕ} {r : Placed}
    → ((b : Board) (mem : List ℕ) (w : Found) → effect_in bs b mem w ≡ does b mem w) → AtRow does before after r → AtRow (effect_in bs) before after r
row_by bs does is f = record { told = λ b k mem h i. f.told b k mem h i ∙ sym (is b mem (At k)) }

module _ (bs : List ℕ) {before after : List ℕ} {r : Placed} where
  pub row-action : get_or bs 0 0 ≡ 72 → AtRow (λ b. action_at b (action_in bs)) before after r → AtRow (effect_in bs) before after r
  row-action e = row_by bs (λ b. action_at b (action_in bs)) (λ b mem w. by-action bs b mem w e)

  pub row-directory : get_or bs 0 0 ≡ 109 → AtRow (λ b. directory_at b (directory_in bs) (texts_in bs)) before after r → AtRow (effect_in bs) before after r
  row-directory e = row_by bs (λ b. directory_at b (directory_in bs) (texts_in bs)) (λ b mem w. by-directory bs b mem w e)

  pub row-quote : (get_or bs 0 0 ≡ 72 → ⊥) → (get_or bs 0 0 ≡ 109 → ⊥) → AtRow (λ b. quote_at b (quote_in bs)) before after r → AtRow (effect_in bs) before after r
  row-quote n d = row_by bs (λ b. quote_at b (quote_in bs)) (λ b mem w. by-quote bs b mem w n d)

-- ---- no row for the id

module _ (bs mem : List ℕ) {rows : ℕ} where
  pub none-refused : (get_or bs 0 0 ≡ 109 → ⊥) → AtNone (effect_in bs) rows mem mem (placing.Refused NoRow)
  unfolding action_at quote_at
  none-refused d = record { told = λ b q. by b (ℕ_discrete (get_or bs 0 0) 72) }
    where
      by : (b : Board) → Dec (get_or bs 0 0 ≡ 72) → placed (placing.Refused NoRow) b mem ≡ effect_in bs b mem Nothing
      by b (yes e) = sym (by-action bs b mem Nothing e)
      by b (no n) = sym (by-quote bs b mem Nothing n d)

  module _ (e : get_or bs 0 0 ≡ 109) where
    pub add-full : most_rows ≤ rows → AtNone (effect_in bs) rows mem mem (placing.Refused TableFull)
    unfolding directory_at
    add-full n = record { told = λ b q. sym (by-directory bs b mem Nothing e ∙ rw (q, le-leb most_rows rows n)) }

    pub add-put : {r : List ℕ} → length mem ≡ table_size → rows < most_rows → r ≡ new_row (directory_in bs) (texts_in bs)
        → length r ≡ rows * row_size + row_size - rows * row_size → AtNone (effect_in bs) rows mem (back rows mem r) placing.Added
    unfolding directory_at
    add-put {r} s h f l =
        record { told = λ b q. rw (row_back rows mem r (omega arith) l) (sym (by-directory bs b mem Nothing e ∙ rw (q, lt-leb most_rows rows h, f))) }

-- ---- by what the search answers

-- the index that a placed message leaves is the one that the definition enters its row in
entering-placed : (x : Placed) (b : Board) (p : ℕ) (ix mem : List ℕ) → entering ix b p (placed x b mem) ≡ index_by x b.rows p ix
entering-placed placing.Kept b p ix mem = rw (le-ltb b.rows b.rows (omega arith))
entering-placed placing.Added b p ix mem = rw (lt-ltb b.rows (b.rows + 1) (omega arith))
entering-placed (placing.Refused r) b p ix mem = rw (le-ltb b.rows b.rows (omega arith))

module _ (bs mem ix : List ℕ) (p : Rowed bs) {rows id : ℕ} {w : Sought} (i : id ≡ be (part bs 11 4)) (f : w ≡ sought ix mem rows id) where
  at-found : (s : Sought) → w ≡ s → (b : Board) (m : Message) (t : Texts) → b.rows ≡ rows → read_of bs ≡ message.accepted m t
      → effect b m t (memories mem ix) ≡ effect_by b m t (memories mem ix) s
  unfolding effect look_for
  at-found s e b m t q a = rw ((effect-wired bs m t a p).wants, q, ← i, ← f, e)

  pub place_found : {k : ℕ} {r : List ℕ} {x : Placed} → w ≡ Here k → k * row_size + row_size ≤ length mem → AtRow (effect_in bs) (lent_row k mem) r x
      → length r ≡ k * row_size + row_size - k * row_size → (b : Board) (m : Message) (t : Texts) → b.rows ≡ rows → read_of bs ≡ message.accepted m t
      → beside ix (placed x b (back k mem r)) ≡ effect b m t (memories mem ix)
  unfolding effect_by
  place_found {k} {r} {x} e h g l b m t q a =
      ap (beside ix)
      (ap (placed x b) (row_back k mem r h l) ∙ g.told b k mem h (sym (row-lent k mem)) ∙ sym ((effect-wired bs m t a p).does b mem (At k)))
      ∙ sym (at-found (Here k) e b m t q a)

  pub place_none : {place : ℕ} {zs jx : List ℕ} {x : Placed} → w ≡ Absent place → AtNone (effect_in bs) rows mem zs x → jx ≡ index_by x rows place ix
      → (b : Board) (m : Message) (t : Texts) → b.rows ≡ rows → read_of bs ≡ message.accepted m t
      → beside jx (placed x b zs) ≡ effect b m t (memories mem ix)
  unfolding effect_by
  place_none {place} {zs} {jx} {x} e g j b m t q a =
      let o : placed x b zs ≡ effect_at b m t mem Nothing = g.told b q ∙ sym ((effect-wired bs m t a p).does b mem Nothing) in
      let y : jx ≡ entering ix b place (placed x b zs) = j ∙ ap (λ (n : ℕ). index_by x n place ix) (sym q) ∙ sym (entering-placed x b place ix zs) in
      ap (λ (v : List ℕ). beside v (placed x b zs)) y
      ∙ ap (λ (v : Outcome). beside (entering ix b place v) v) o
      ∙ sym (at-found (Absent place) e b m t q a)

  pub place-astray : w ≡ Astray → (b : Board) (m : Message) (t : Texts) → b.rows ≡ rows → read_of bs ≡ message.accepted m t
      → beside ix (placed (placing.Refused Unfit) b mem) ≡ effect b m t (memories mem ix)
  unfolding effect_by
  place-astray e b m t q a = sym (at-found Astray e b m t q a)

-- ---- S and M, which look for no row

module _ (bs : List ℕ) (passed : tested (read_of bs) ≡ 0) where
  listed-sized : Sized (letter_in letters (get_or bs 0 0)) bs
  listed-sized = fine-sized bs ((accepted-exactly bs).0 (passed-taken (read_of bs).answer passed))

  pub event-room : get_or bs 0 0 ≡ 83 → 11 + 1 ≤ length bs
  unfolding letters letter_among
  event-room e = room 83 (get_or bs 0 0) bs e listed-sized

  pub end-room : get_or bs 0 0 ≡ 77 → 21 ≤ length bs
  unfolding letters letter_among
  end-room e = room 77 (get_or bs 0 0) bs e listed-sized

module _ (bs : List ℕ) (b : Board) (m : Message) (t : Texts) (l : Memories) (e : read_of bs ≡ message.accepted m t) where
  -- what the letter c does to a table
  abbrev effect_of : ℕ → Indexed
  effect_of c = let x = (letter_in letters c).makes (values (letter_in letters c).rows bs) in effect b x.0 x.1 l

  by-letter : (c : ℕ) → get_or bs 0 0 ≡ c → effect b m t l ≡ effect_of c
  by-letter c k = as-made bs m t e (λ (x : Message) (y : Texts). effect b x y l ≡ effect_of c) (ap effect_of k)

  -- nothing enters the index
  same_rows : {o : Outcome} → o.applied.board.rows ≡ b.rows → beside (entering l.index b 0 o) o ≡ beside l.index o
  same_rows {o} q = rw (q, le-ltb b.rows b.rows (omega arith))

  pub event-wired : get_or bs 0 0 ≡ 83 → effect b m t l ≡ beside l.index (board.accepted (with_event (be (part bs 11 1)) b) l.table)
  unfolding letters letter_among values effect effect_by effect_at look_for
  event-wired k = by-letter 83 k ∙ same_rows refl

  pub end-wired : get_or bs 0 0 ≡ 77
      → effect b m t l ≡ beside l.index (board.accepted (with_live (end_of_replay_of (values end_of_replay_rows bs)).number b) l.table)
  unfolding letters letter_among values effect effect_by effect_at look_for
  end-wired k = by-letter 77 k ∙ same_rows refl
