-- A record taken, and written straight as its message's bytes: each way through the code gives what the definitions say.
-- Assumes nothing.
use mathlib.Core.Path.{◌≡◌, refl, sym, ap, ◌∙◌}
use mathlib.Core.Bool.{Bool, true, false, ◌&&◌, not, cond, and_assoc, and-true}
use mathlib.Core.List.{List, [], ◌∷◌, ◌++◌}
use Prim.Native.Nat.{ℕ, ◌+◌, ◌*◌, ◌≤◌, ◌<◌}
use native.Mathlib.Omega.{arith}
use borrow.Author.Tests.{eqb-true, eqb-false, eq-eqb, ne_eqb, le-leb, lt-leb, not-true, not-false}
use lib.Dec.{eqb}
use lib.ListN.{length, get_or}
use Rattle.field.specs.Bytes.{part, overlay, be, bytes_be, same, Bytes}
use Rattle.field.proofs.Numbers.{be-one, Lent, lent-bytes, rewrites, part-below}
use Rattle.field.proofs.Parts.{part-one, overlay-none, overlay-length, overlay-next}
use Rattle.message.specs.Layout.{Value, num, Row, bytes_in, values, keeps_all, bytes_for, tiled, Fit}
use Rattle.message.specs.Feed.{Letter, letter_among}
use Rattle.message.specs.Letters.{Content, letters, letter_in, letter_for, unlisted, directory_letter, listed, event_codes, states, conditions, fields_of}
use Rattle.field.specs.Limits.{time_in_range, price_in_range, number_in_range}
use Rattle.message.specs.Test.{entry_keeps}
use Rattle.message.specs.Message.{keeps, bytes_of, write_of, Typed}
use Rattle.message.specs.declared.Message.{Message}
use Rattle.message.specs.declared.Texts.{Texts}
use Rattle.field.proofs.Bools.{both_left, both_right}
use Rattle.message.proofs.Amounts.{amount-from, from-is-price}
use Rattle.message.proofs.Layouts.{bytes-length, fields-length}
use Rattle.message.proofs.Feeds.{found, code-found, tiled-found}
use Rattle.message.proofs.Table.{found-makes, is-listed-letter, letters-tiled}
use Rattle.record.specs.Places.{record_size, letter_place, record_letters}
use Rattle.record.specs.Record.{laid, laid_over, record_bytes, held, no_record, said_by, said_of, confirmed, record_of, answered, written_as, write_from, write_answer, laid_back, is_own}
use Rattle.record.specs.declared.Held.{Held}
use Rattle.record.proofs.Rounds.{placed}
use Rattle.record.proofs.Typed.{said-roomy, record-makes, typed}

-- fields that stand one after the other are laid as one run
tiled-laid : (rs : List Row) (vs : List Value) (xs : List ℕ) (at end : ℕ) → tiled at rs end ≡ true → Fit rs vs → end ≤ length xs
    → laid rs vs xs ≡ overlay xs at (bytes_for rs vs)
unfolding laid bytes_for tiled
tiled-laid [] [] xs at end t f h = sym (overlay-none xs at)
tiled-laid [] (v ∷ vs) xs at end t f h = absurd f
tiled-laid (r ∷ rs) [] xs at end t f h = absurd f
tiled-laid (r ∷ rs) (v ∷ vs) xs at end t f h =
    let b = bytes_in r.rule r.width v in
    let here : r.at ≡ at = eqb-true r.at at (both_left (eqb r.at at) (tiled (at + r.width) rs end) t) in
    let w : length b ≡ r.width = bytes-length r.rule r.width v f.0 in
    let on : tiled (at + r.width) rs end ≡ true = both_right (eqb r.at at) (tiled (at + r.width) rs end) t in
    let most : at + r.width + length (bytes_for rs vs) ≡ end = fields-length rs vs (at + r.width) end on f.1 in
    let next : overlay (overlay xs at b) (at + r.width) (bytes_for rs vs) ≡ overlay xs at (b ++ bytes_for rs vs)
    = rw w at (overlay-next xs at b (bytes_for rs vs) (omega arith)) in
    rw here (tiled-laid rs vs (overlay xs at b) (at + r.width) end on f.1 (omega (arith, overlay-length xs at b (omega arith))) ∙ next)

-- a message's letter and fields, laid from its first byte on
letter-laid : (l : Letter Content) (vs : List Value) (c v : ℕ) (out : List ℕ) → tiled 1 l.rows l.size ≡ true → Fit l.rows vs → v < 256 → bytes_be 1 v ≡ c ∷ []
    → l.size ≤ length out → laid (letter_place ∷ l.rows) (num v ∷ vs) out ≡ overlay out 0 (c ∷ bytes_for l.rows vs)
unfolding bytes_for tiled
letter-laid l vs c v out t f b e h =
    tiled-laid (letter_place ∷ l.rows) (num v ∷ vs) out 0 l.size t (b, f) h
    ∙ ap (λ (x : List ℕ). overlay out 0 (x ++ bytes_for l.rows vs)) e

-- ---- what a record of a listed letter says

abbrev first : List ℕ → ℕ
first bs = get_or bs 0 0

module _ (bs : List ℕ) (h : length bs ≡ record_size) where
  -- a letter of the feed is one of the records, and the other way round
  record-listed : ((letter_in letters (first bs)).size ≡ 0 → ⊥) → (letter_in record_letters (first bs)).size ≡ 0 → ⊥
  record-listed some e =
      let w = found-makes (first bs) bs some in
      let m : Message = ((letter_in letters (first bs)).makes (values (letter_in letters (first bs)).rows bs)).0 in
      let code : (letter_for m).code ≡ first bs = ap (λ (x : Letter Content). x.code) w.own ∙ code-found unlisted refl letters (first bs) some in
      let size : (letter_in record_letters (first bs)).size ≡ record_size = rw code at (ap (λ (x : Letter Content). x.size) (placed m).letter) in
      omega arith

  feed-listed : ((letter_in record_letters (first bs)).size ≡ 0 → ⊥) → (letter_in letters (first bs)).size ≡ 0 → ⊥
  feed-listed some e =
      let w = record-makes (first bs) bs some in
      let k : Letter Content = letter_in record_letters (first bs) in
      let m : Message = (k.makes (values k.rows bs)).0 in
      let t : Texts = (k.makes (values k.rows bs)).1 in
      let code : (letter_for m).code ≡ first bs = w.code ∙ code-found unlisted refl record_letters (first bs) some in
      let o = is-listed-letter m t in
      o.some (sym (ap (λ (x : Letter Content). x.size) o.own) ∙ ap (λ (c : ℕ). (letter_in letters c).size) code ∙ e)

  -- what the tests of the code and its writing are of the message
  record Sent : Type 0 where
    said : Message
    texts : Texts
    is : said_of bs ≡ held said texts
    own : is_own (first bs) bs ≡ same (record_bytes said texts) bs
    rules : keeps_all (letter_in letters (first bs)).rows (values (letter_in record_letters (first bs)).rows bs) ≡ keeps said texts
    size : (letter_in letters (first bs)).size ≡ (letter_for said).size
    put : Bytes bs → (out : List ℕ) → (letter_for said).size ≤ length out → laid_back (first bs) bs out ≡ overlay out 0 (bytes_of said texts)

  sent : ((letter_in letters (first bs)).size ≡ 0 → ⊥) → Sent
  unfolding is_own laid_back said_of said_by record_bytes laid_over keeps bytes_of values bytes_for
  sent some =
      let c : ℕ = get_or bs 0 0 in
      let k : Letter Content = letter_in record_letters c in
      let listed : k.size ≡ 0 → ⊥ = record-listed some in
      let w = record-makes c bs listed in
      let m : Message = (k.makes (values k.rows bs)).0 in
      let t : Texts = (k.makes (values k.rows bs)).1 in
      let code : (letter_for m).code ≡ c = w.code ∙ code-found unlisted refl record_letters c listed in
      let own-letter : letter_in letters c ≡ letter_for m = rw code at (is-listed-letter m t).own in
      let byte : be (part bs 0 1) ≡ c = be-one bs 0 (omega arith) in
      let said : said_of bs ≡ held m t = rw (ne_eqb k.size 0 listed) in
      record {
        said = m;
        texts = t;
        is = said;
        own = rw (w.own, w.fields, code, byte);
        rules = rw (own-letter, w.fields);
        size = ap (λ (x : Letter Content). x.size) own-letter;
        put = λ s out room.
            let fit : Typed m t = typed m t (said-roomy bs s (omega arith) m t said) in
            let tiles : tiled 1 (letter_for m).rows (letter_for m).size ≡ true
            = ap (λ (x : Letter Content). tiled 1 x.rows x.size) (sym own-letter) ∙ tiled-found unlisted refl letters c letters-tiled some in
            let b : bytes_be 1 (be (part bs 0 1)) ≡ (letter_for m).code ∷ []
            = rewrites 1 bs 0 s (omega arith) ∙ part-one bs 0 (omega arith) ∙ ap (λ (x : ℕ). x ∷ []) (sym code) in
            ap (λ (x : Letter Content). laid (letter_place ∷ x.rows) (num (be (part bs 0 1)) ∷ values k.rows bs) out) own-letter
            ∙ ap (λ (vs : List Value). laid (letter_place ∷ (letter_for m).rows) (num (be (part bs 0 1)) ∷ vs) out) (sym w.fields)
            ∙ (letter-laid (letter_for m) (fields_of m t) (letter_for m).code (be (part bs 0 1)) out tiles fit (part-below bs 0 1 s (omega arith)) b room);
      }

  -- what the bytes are the record of
  by-own : (w : Sent) (b : Bool) → same (record_bytes w.said w.texts) bs ≡ b → record_of bs ≡ cond b (held w.said w.texts) no_record
  unfolding record_of confirmed
  by-own w b e = rw (eq-eqb (length bs) record_size h, w.is, e)

  unlisted-none : (letter_in letters (first bs)).size ≡ 0 → record_of bs ≡ no_record
  unfolding record_of said_of said_by confirmed
  unlisted-none e = rw (eq-eqb (length bs) record_size h) (by (eqb (letter_in record_letters (get_or bs 0 0)).size 0) refl)
    where
      k : Letter Content
      k = letter_in record_letters (get_or bs 0 0)

      by : (b : Bool) → eqb k.size 0 ≡ b
          → confirmed (cond b no_record (held (k.makes (values k.rows bs)).0 (k.makes (values k.rows bs)).1)).taken
          (cond b no_record (held (k.makes (values k.rows bs)).0 (k.makes (values k.rows bs)).1)).texts bs ≡ no_record
      by true q = refl
      by false q = absurd (feed-listed (eqb-false k.size 0 q) e)

  module _ (w : Sent) {ok : Bool} (q : ok ≡ is_own (first bs) bs) where
    stray-none : not ok ≡ true → record_of bs ≡ no_record
    stray-none y = by-own w false (sym w.own ∙ sym q ∙ not-true ok y)

    own_held : not ok ≡ false → record_of bs ≡ held w.said w.texts
    own_held y = by-own w true (sym w.own ∙ sym q ∙ not-false ok y)

  -- taken: each way through the code
  module _ {n : ℕ} (is : n ≡ (letter_in letters (get_or bs 0 0)).size) where
    pub take-unlisted : {r : Held} → n ≡ 0 → r ≡ no_record → r ≡ record_of bs
    take-unlisted e p = p ∙ sym (unlisted-none (sym is ∙ e))

    module _ {ok : Bool} (some : n ≡ 0 → ⊥) (q : ok ≡ is_own (get_or bs 0 0) bs) where
      pub take-stray : {r : Held} → not ok ≡ true → r ≡ no_record → r ≡ record_of bs
      take-stray y p = p ∙ sym (stray-none (sent (λ e. some (is ∙ e))) q y)

      pub take_own : {r : Held} → not ok ≡ false → r ≡ said_by (letter_in record_letters (get_or bs 0 0)) bs → r ≡ record_of bs
      unfolding said_of
      take_own y p = let w = sent (λ e. some (is ∙ e)) in p ∙ w.is ∙ sym (own_held w q y)

-- ---- the rules, where the fields lie in a record

pub head-kept : (bs : List ℕ) {a b : Bool} {v : ℕ} → a ≡ time_in_range (be (part bs 8 8)) → v ≡ be (part bs 1 1) → b ≡ listed conditions v
    → a && b ≡ time_in_range (be (part bs 8 8)) && listed conditions (be (part bs 1 1))
head-kept bs p i q = rw (p, q, i)

module _ (c : ℕ) (bs : List ℕ) where
  pub keep-arm : (k : ℕ) {r : Bool} → c ≡ k → r ≡ keeps_all (letter_in letters k).rows (values (letter_in record_letters k).rows bs)
      → r ≡ keeps_all (letter_in letters c).rows (values (letter_in record_letters c).rows bs)
  keep-arm k e p = rw e p

  module _ {a : Bool} (p : a ≡ time_in_range (be (part bs 8 8))) where
    pub event-kept : {b : Bool} {v : ℕ} → c ≡ 83 → v ≡ be (part bs 1 1) → b ≡ listed event_codes v
        → a && b ≡ keeps_all (letter_in letters c).rows (values (letter_in record_letters c).rows bs)
    unfolding letters record_letters letter_among keeps_all values
    event-kept e i q = rw (e, p, q, i) (simp and-true)

    pub action-kept : {b : Bool} {v : ℕ} → c ≡ 72 → v ≡ be (part bs 1 1) → b ≡ listed states v
        → a && b ≡ keeps_all (letter_in letters c).rows (values (letter_in record_letters c).rows bs)
    unfolding letters record_letters letter_among keeps_all values
    action-kept e i q = rw (e, p, q, i) (simp and-true)

    pub directory-kept : {b : Bool} → c ≡ 109 → b ≡ entry_keeps bs 75 68 64 71 83 72
        → a && b ≡ keeps_all (letter_in letters c).rows (values (letter_in record_letters c).rows bs)
    unfolding letters record_letters letter_among keeps_all values entry_keeps
    directory-kept e q = rw (e, p, q) (simp and-true)

  module _ {h : Bool} (t : h ≡ time_in_range (be (part bs 8 8)) && listed conditions (be (part bs 1 1))) where
    -- q b a
    pub short-kept : (k : ℕ) → c ≡ k → time_in_range (be (part bs 8 8)) && listed conditions (be (part bs 1 1)) ≡ keeps_all (letter_in letters k).rows (values (letter_in record_letters k).rows bs)
        → h ≡ keeps_all (letter_in letters c).rows (values (letter_in record_letters c).rows bs)
    short-kept k e q = keep-arm k e (t ∙ q)

    pub bid-kept : {u : Bool} → c ≡ 66 → u ≡ price_in_range (be (part bs 28 4)) → h && u ≡ keeps_all (letter_in letters c).rows (values (letter_in record_letters c).rows bs)
    unfolding letters record_letters letter_among keeps_all values
    bid-kept e q = rw (e, t, q) (simp (from-is-price, amount-from, and-true, and_assoc))

    pub ask-kept : {u : Bool} → c ≡ 65 → u ≡ price_in_range (be (part bs 48 4)) → h && u ≡ keeps_all (letter_in letters c).rows (values (letter_in record_letters c).rows bs)
    unfolding letters record_letters letter_among keeps_all values
    ask-kept e q = rw (e, t, q) (simp (from-is-price, amount-from, and-true, and_assoc))

    pub long_kept : {u v : Bool} → c ≡ 81 → u ≡ price_in_range (be (part bs 28 4)) → v ≡ price_in_range (be (part bs 48 4))
        → h && (u && v) ≡ keeps_all (letter_in letters c).rows (values (letter_in record_letters c).rows bs)
    unfolding letters record_letters letter_among keeps_all values
    long_kept e q r = rw (e, t, q, r) (simp (from-is-price, amount-from, and-true, and_assoc))

  pub number-kept : {r : Bool} {v : ℕ} → c ≡ 77 → v ≡ be (part bs 16 8) → r ≡ number_in_range v
      → r ≡ keeps_all (letter_in letters c).rows (values (letter_in record_letters c).rows bs)
  unfolding letters record_letters letter_among keeps_all values
  number-kept e i p = rw (e, p, i) (simp and-true)

-- ---- the ways through the code

-- no letter is longer than a directory
pub size-most : (c : ℕ) {n : ℕ} → n ≡ (letter_in letters c).size → n ≤ directory_letter.size
unfolding letters
size-most c e = rw e (found unlisted (λ (l : Letter Content). l.size ≤ directory_letter.size) c letters (omega arith) (search (tt, arith) depth 60))

module _ (bs out : List ℕ) (size : ℕ) (h : length bs ≡ record_size) (is : size ≡ (letter_in letters (get_or bs 0 0)).size) where
  as-taken : write_from (record_of bs).taken (record_of bs).texts out ≡ write_answer bs out
  unfolding write_answer
  as-taken = rw (eq-eqb (length bs) record_size h)

  no_record_lem : record_of bs ≡ no_record → answered 26 out ≡ write_answer bs out
  unfolding write_from
  no_record_lem e = ap (λ (x : Held). write_from x.taken x.texts out) (sym e) ∙ as-taken

  a-record : (m : Message) (t : Texts) → record_of bs ≡ held m t → written_as (write_of m t out).answer (write_of m t out).memory ≡ write_answer bs out
  unfolding write_from
  a-record m t e = ap (λ (x : Held). write_from x.taken x.texts out) (sym e) ∙ as-taken

  pub sent-unlisted : size ≡ 0 → answered 26 out ≡ write_answer bs out
  sent-unlisted e = no_record_lem (unlisted-none bs h (sym is ∙ e))

  module _ (some : size ≡ 0 → ⊥) where
    it : Sent bs h
    it = sent bs h (λ e. some (is ∙ e))

    pub sent-stray : {ok : Bool} → ok ≡ is_own (get_or bs 0 0) bs → not ok ≡ true → answered 26 out ≡ write_answer bs out
    sent-stray p n = no_record_lem (stray-none bs h it p n)

    pub sent-broken : {ok : Bool} → ok ≡ keeps_all (letter_in letters (get_or bs 0 0)).rows (values (letter_in record_letters (get_or bs 0 0)).rows bs) → not ok ≡ true
        → answered 26 out ≡ write_answer bs out
    unfolding write_of written_as
    sent-broken {ok} p n = by (same (record_bytes it.said it.texts) bs) refl
      where
        broken : keeps it.said it.texts ≡ false
        broken = sym it.rules ∙ sym p ∙ not-true ok n

        by : (b : Bool) → same (record_bytes it.said it.texts) bs ≡ b → answered 26 out ≡ write_answer bs out
        by true e = rw broken at (a-record it.said it.texts (by-own bs h it true e))
        by false e = no_record_lem (by-own bs h it false e)

    module _ {kept own : Bool} (p : kept ≡ keeps_all (letter_in letters (get_or bs 0 0)).rows (values (letter_in record_letters (get_or bs 0 0)).rows bs)) (y : not kept ≡ false)
        (q : own ≡ is_own (get_or bs 0 0) bs) (z : not own ≡ false) where
      keeps-it : keeps it.said it.texts ≡ true
      keeps-it = sym it.rules ∙ sym p ∙ not-false kept y

      is-it : record_of bs ≡ held it.said it.texts
      is-it = own_held bs h it q z

      size_is : (letter_for it.said).size ≡ size
      size_is = sym it.size ∙ sym is

      pub sent-short : length out < size → answered 25 out ≡ write_answer bs out
      unfolding write_of written_as
      sent-short l =
          rw (keeps-it, lt-leb (letter_for it.said).size (length out) (omega (arith, size_is))) at (a-record it.said it.texts is-it)

      pub sent-whole : {zs : List ℕ} → Lent bs → size ≤ length out → zs ≡ laid_back (get_or bs 0 0) bs out → answered (size * 256) zs ≡ write_answer bs out
      unfolding write_of written_as
      sent-whole k l e =
          let room : (letter_for it.said).size ≤ length out = omega (arith, size_is) in
          let w : answered ((letter_for it.said).size * 256) (overlay out 0 (bytes_of it.said it.texts)) ≡ write_answer bs out
          = rw (keeps-it, le-leb (letter_for it.said).size (length out) room) at (a-record it.said it.texts is-it) in
          ap (answered (size * 256)) (e ∙ it.put (lent-bytes bs k) out room)
          ∙ ap (λ (n : ℕ). answered (n * 256) (overlay out 0 (bytes_of it.said it.texts))) (sym size_is) ∙ w
