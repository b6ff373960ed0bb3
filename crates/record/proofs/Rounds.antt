-- THE ROUND TRIPS: messages and their records, and bytes read to a record and written from it.
-- Assumes nothing.
use mathlib.Core.Path.{◌≡◌, refl, sym, ap, ◌∙◌}
use mathlib.Core.Bool.{Bool, true, false, cond}
use mathlib.Core.List.{List, ◌∷◌}
use Prim.Native.Nat.{ℕ, zero, suc, ◌*◌, ◌≤◌, ◌<◌}
use native.Mathlib.Omega.{arith}
use borrow.Author.Tests.{eq-eqb, le-leb, leb-true}
use lib.Dec.{eqb, leb}
use lib.ListN.{length, get_or, drop, replicate, length-replicate}
use Rattle.field.specs.Bytes.{part, overlay, be, Bytes}
use Rattle.field.proofs.Numbers.{be-one}
use Rattle.field.proofs.Parts.{part-overlay}
use Rattle.field.proofs.Same.{same_test}
use Rattle.field.proofs.Answers.{equal-answers}
use Rattle.message.specs.Layout.{Value, num, Row, as_number, values, keeps_all}
use Rattle.message.specs.Feed.{Letter, letter_among}
use Rattle.message.specs.Letters.{Content, letter_in, letter_for, fields_of, prices_of, NoZero, short_side_code, short_side_letter, long_side_code, long_side_letter}
use Rattle.message.specs.Message.{refusal_number, write_refusal_number, accepted, read_of, bytes_of, keeps, outcome, write_of, Typed, texts_with}
use Rattle.message.specs.declared.Side.{Side}
use Rattle.message.specs.declared.Side.TheVariants.{Bid, Ask}
use Rattle.message.specs.declared.Message.{Message}
use Rattle.message.specs.declared.Message.TheVariants as message
use Rattle.message.specs.declared.Texts.{Texts}
use Rattle.message.specs.declared.Refusal.{Refusal}
use Rattle.message.specs.declared.Refusal.TheVariants.{UnknownLetter, WrongLength, BadField}
use Rattle.message.specs.declared.WriteRefusal.{WriteRefusal}
use Rattle.message.specs.declared.WriteRefusal.TheVariants.{BrokenRecord, ShortOutput}
use Rattle.message.proofs.Table.{is-listed-letter}
use Rattle.message.proofs.Rounds.{bytes-length, read-write, write_read}
use Rattle.message.proofs.Typed.{inside, accepted-typed}
use Rattle.message.proofs.NoZero.{kept-no-zero}
use Rattle.record.specs.Places.{record_size, letter_place, places_for, short_side_places, long_side_places, record_letters, record_letter, record_letter_for}
use Rattle.record.specs.Record.{laid_over, record_bytes, held, said_by, said_of, confirmed, record_of, Answered, answered, read_to, read_answer, written_as, write_from, write_answer, Roomy}
use Rattle.record.proofs.Laid.{apart, outside, laid-length, part-kept, fit_wide, values-laid, laid-own}
use Rattle.record.proofs.Typed.{is_said, is-record, record-roomy, roomy, typed}
use Rattle.record.proofs.NoZero.{no-zero-keeps}
use Rattle.std.specs.Prelude.{Err}
use Rattle.std.specs.Prelude.{Ok}
use Rattle.std.specs.Prelude.{Result}
use Rattle.std.specs.Prelude.{None}
use Rattle.std.specs.Prelude.{Option}
use Rattle.std.specs.Prelude.{Some}

-- ---- the places of a message

pub record Placed (code : ℕ) (rows : List Row) (l : Letter Content) : Type 0 where
  pub within : inside record_size (letter_place ∷ rows) ≡ true
  pub disjoint : apart (letter_place ∷ rows) ≡ true
  pub letter : letter_in record_letters code ≡ l
  pub byte : code < 256

short-placed : (s : Side) → Placed (short_side_code s) (short_side_places s) (record_letter (short_side_letter s) (short_side_places s))
unfolding inside apart outside record_letters letter_among
short-placed Bid = search (tt, arith) depth 60
short-placed Ask = search (tt, arith) depth 60

long-placed : (s : Side) → Placed (long_side_code s) (long_side_places s) (record_letter (long_side_letter s) (long_side_places s))
unfolding inside apart outside record_letters letter_among
long-placed Bid = search (tt, arith) depth 60
long-placed Ask = search (tt, arith) depth 60

pub placed : (m : Message) → Placed (letter_for m).code (places_for m) (record_letter_for m)
unfolding inside apart outside record_letters letter_among
placed (message.SystemEvent m) = search (tt, arith) depth 60
placed (message.Directory m) = search (tt, arith) depth 60
placed (message.TradingAction m) = search (tt, arith) depth 60
placed (message.ShortQuote m) = search (tt, arith) depth 60
placed (message.LongQuote m) = search (tt, arith) depth 60
placed (message.ShortSide m) = short-placed m.side
placed (message.LongSide m) = long-placed m.side
placed (message.EndOfReplay m) = search (tt, arith) depth 60

-- only a directory's texts count
own-texts : (m : Message) (t : Texts) → fields_of m (texts_with m t) ≡ fields_of m t
own-texts (message.SystemEvent m) t = refl
own-texts (message.Directory m) t = refl
own-texts (message.TradingAction m) t = refl
own-texts (message.ShortQuote m) t = refl
own-texts (message.LongQuote m) t = refl
own-texts (message.ShortSide m) t = refl
own-texts (message.LongSide m) t = refl
own-texts (message.EndOfReplay m) t = refl

own-record : (m : Message) (t : Texts) → record_bytes m (texts_with m t) ≡ record_bytes m t
unfolding record_bytes laid_over
own-record m t = rw (own-texts m t)

-- ---- the record of a message

module _ (m : Message) (t : Texts) (f : Roomy m t) where
  zeros : length {A = ℕ} (replicate record_size 0) ≡ record_size
  zeros = length-replicate {A = ℕ} record_size 0

  pub record-length : length (record_bytes m t) ≡ record_size
  unfolding record_bytes laid_over
  record-length =
      let p = placed m in
      laid-length (letter_place ∷ places_for m) (num (letter_for m).code ∷ fields_of m t) (replicate record_size 0) record_size
      (fit_wide (letter_place ∷ places_for m) (num (letter_for m).code ∷ fields_of m t) (p.byte, f)) (omega (arith, zeros)) p.within
      ∙ zeros

  -- zero held as a price above zero has the record of none
  module _ (z : NoZero (prices_of m)) where
    said-back : values (letter_place ∷ places_for m) (record_bytes m t) ≡ num (letter_for m).code ∷ fields_of m t
    unfolding record_bytes laid_over keeps_all
    said-back =
        let p = placed m in
        values-laid (letter_place ∷ places_for m) (num (letter_for m).code ∷ fields_of m t) (replicate record_size 0) record_size (no-zero-keeps m t z) (p.byte, f)
        (omega (arith, zeros)) p.within p.disjoint

    letter-back : get_or (record_bytes m t) 0 0 ≡ (letter_for m).code
    unfolding values
    letter-back =
        sym (be-one (record_bytes m t) 0 (omega (arith, record-length)))
        ∙ ap (λ (vs : List Value). as_number (get_or vs 0 (num 0))) said-back

    fields_back : values (places_for m) (record_bytes m t) ≡ fields_of m t
    unfolding values
    fields_back = ap (drop 1) said-back

    said-is : said_of (record_bytes m t) ≡ held m (texts_with m t)
    unfolding said_of said_by
    said-is =
        let l = is-listed-letter m t in
        rw (letter-back, (placed m).letter, fields_back, l.made)

    -- THEOREM: a message is taken back from its record, with its texts, unless it holds zero as a price above zero
    pub take_back : record_of (record_bytes m t) ≡ held m (texts_with m t)
    unfolding record_of confirmed
    take_back = rw (eq-eqb (length (record_bytes m t)) record_size record-length, said-is, same_test (own-record m t))

-- THEOREM: what bytes are the record of is put back as the same bytes
pub put_back : (bs : List ℕ) (m : Message) (t : Texts) → record_of bs ≡ held m t → record_bytes m t ≡ bs
put_back bs m t e = (is-record bs m t e).own

-- THEOREM: every byte of a record that is in no place of its letter is 0
pub zero-elsewhere : (bs : List ℕ) (m : Message) (t : Texts) (i n : ℕ) → Bytes bs → record_of bs ≡ held m t → outside i n (letter_place ∷ places_for m) ≡ true
    → part bs i n ≡ part (replicate record_size 0) i n
unfolding record_bytes laid_over
zero-elsewhere bs m t i n s e o =
    let p = placed m in
    let f = record-roomy bs s m t e in
    ap (λ (x : List ℕ). part x i n) (sym (put_back bs m t e))
    ∙ part-kept (letter_place ∷ places_for m) (num (letter_for m).code ∷ fields_of m t) (replicate record_size 0) record_size i n
    (fit_wide (letter_place ∷ places_for m) (num (letter_for m).code ∷ fields_of m t) (p.byte, f)) (omega (arith, length-replicate {A = ℕ} record_size 0))
    p.within o

get_or-zeros : (n i : ℕ) → ◌≡◌ {A = ℕ} (get_or (replicate n 0) i 0) 0
get_or-zeros zero i = refl
get_or-zeros (suc n) zero = refl
get_or-zeros (suc n) (suc i) = get_or-zeros n i

own-laid : (bs : List ℕ) (m : Message) (t : Texts) → Bytes bs → length bs ≡ record_size → said_of bs ≡ held m t
    → ((i : ℕ) → outside i 1 (letter_place ∷ places_for m) ≡ true → get_or (replicate record_size 0) i 0 ≡ get_or bs i 0) → record_bytes m t ≡ bs
unfolding record_bytes laid_over values keeps_all
own-laid bs m t s l e z =
    let p = placed m in
    let w = is_said bs m t e in
    let first : (letter_for m).code ≡ be (part bs 0 1) = w.letter ∙ sym (be-one bs 0 (omega (arith, l))) in
    rw (first, w.fields)
    (laid-own (letter_place ∷ places_for m) bs (replicate record_size 0) record_size w.kept s (omega (arith, l)) (length-replicate {A = ℕ} record_size 0 ∙ sym l) p.within z)

-- THEOREM: and 112 bytes of a listed letter with 0 in every other place are a record
pub record-exactly : (bs : List ℕ) (m : Message) (t : Texts) → Bytes bs → length bs ≡ record_size → said_of bs ≡ held m t
    → ((i : ℕ) → outside i 1 (letter_place ∷ places_for m) ≡ true → get_or bs i 0 ≡ 0) → record_of bs ≡ held m t
unfolding record_of confirmed
record-exactly bs m t s l e z = rw (eq-eqb (length bs) record_size l, e, same_test (own-laid bs m t s l e (λ i o. get_or-zeros record_size i ∙ sym (z i o))))

-- ---- what an answer that is no refusal tells

-- 0, and so the message is accepted and the memory is its record
record Read (bs memory : List ℕ) : Type 0 where
  said : Message
  texts : Texts
  is : read_of bs ≡ accepted said texts
  kept : memory ≡ record_bytes said texts

no-refusal : {A : Type 0} (r : Refusal) → refusal_number r ≡ 0 → A
no-refusal UnknownLetter e = absurd (omega arith)
no-refusal WrongLength e = absurd (omega arith)
no-refusal BadField e = absurd (omega arith)

is_read : (bs before memory : List ℕ) → read_answer bs before ≡ answered 0 memory → Read bs memory
unfolding read_answer read_to
is_read bs before memory = sized (eqb (length before) record_size)
  where
    told : (a : Result Message Refusal) → (read_of bs).answer ≡ a → read_to a (read_of bs).texts before ≡ answered 0 memory → Read bs memory
    told (Ok m) q e =
        record { said = m; texts = (read_of bs).texts; is = λ i. record { answer = q i; texts = (read_of bs).texts }; kept = sym (ap (λ (x : Answered). x.memory) e) }
    told (Err r) q e = no-refusal r (ap (λ (x : Answered). x.number) e)

    sized : (b : Bool) → cond b (read_to (read_of bs).answer (read_of bs).texts before) (answered 20 before) ≡ answered 0 memory → Read bs memory
    sized true e = told (read_of bs).answer refl e
    sized false e = absurd (omega (arith, ap (λ (x : Answered). x.number) e))

-- a multiple of 256, and so the bytes are a record, whose message is written
record Wrote (bs out memory : List ℕ) (n : ℕ) : Type 0 where
  said : Message
  texts : Texts
  is : record_of bs ≡ held said texts
  keep : keeps said texts ≡ true
  fits : (letter_for said).size ≤ length out
  count : n ≡ (letter_for said).size
  laid : memory ≡ overlay out 0 (bytes_of said texts)

no-write-refusal : {A : Type 0} (r : WriteRefusal) (n : ℕ) → write_refusal_number r ≡ n * 256 → A
no-write-refusal BrokenRecord n e = absurd (omega arith)
no-write-refusal ShortOutput n e = absurd (omega arith)

is-written : (bs out memory : List ℕ) (n : ℕ) → write_answer bs out ≡ answered (n * 256) memory → Wrote bs out memory n
unfolding write_answer write_from written_as write_of
is-written bs out memory n = sized (eqb (length bs) record_size)
  where
    t : Texts
    t = (record_of bs).texts

    kept : (m : Message) (k l : Bool) → (record_of bs).taken ≡ Some m → keeps m t ≡ k → leb (letter_for m).size (length out) ≡ l
        → written_as
        (cond k (cond l (outcome (Ok (letter_for m).size) (overlay out 0 (bytes_of m t))) (outcome (Err ShortOutput) out)) (outcome (Err BrokenRecord) out)).answer
        (cond k (cond l (outcome (Ok (letter_for m).size) (overlay out 0 (bytes_of m t))) (outcome (Err ShortOutput) out)) (outcome (Err BrokenRecord) out)).memory
        ≡ answered (n * 256) memory → Wrote bs out memory n
    kept m true true q p l e =
        record {
          said = m;
          texts = t;
          is = λ i. record { taken = q i; texts = t };
          keep = p;
          fits = leb-true (letter_for m).size (length out) l;
          count = omega (arith, ap (λ (x : Answered). x.number) e);
          laid = sym (ap (λ (x : Answered). x.memory) e);
        }
    kept m true false q p l e = no-write-refusal ShortOutput n (ap (λ (x : Answered). x.number) e)
    kept m false l q p r e = no-write-refusal BrokenRecord n (ap (λ (x : Answered). x.number) e)

    told : (x : Option Message) → (record_of bs).taken ≡ x → write_from x t out ≡ answered (n * 256) memory → Wrote bs out memory n
    told (Some m) q e = kept m (keeps m t) (leb (letter_for m).size (length out)) q refl refl e
    told None q e = absurd (omega (arith, ap (λ (x : Answered). x.number) e))

    sized : (b : Bool) → cond b (write_from (record_of bs).taken t out) (answered 20 out) ≡ answered (n * 256) memory → Wrote bs out memory n
    sized true e = told (record_of bs).taken refl e
    sized false e = absurd (omega (arith, ap (λ (x : Answered). x.number) e))

-- ---- bytes and records

own-write : (m : Message) (t : Texts) (out : List ℕ) → write_of m (texts_with m t) out ≡ write_of m t out
unfolding write_of keeps bytes_of
own-write m t out = rw (own-texts m t)

written : (m : Message) (t : Texts) (out : List ℕ) → keeps m t ≡ true → (letter_for m).size ≤ length out
    → write_of m t out ≡ outcome (Ok (letter_for m).size) (overlay out 0 (bytes_of m t))
unfolding write_of
written m t out k l = rw (k, le-leb (letter_for m).size (length out) l)

held-written : (bs out : List ℕ) (m : Message) (t : Texts) (n : ℕ) (zs : List ℕ) → length bs ≡ record_size → record_of bs ≡ held m t → write_of m t out ≡ outcome (Ok n) zs
    → write_answer bs out ≡ answered (n * 256) zs
unfolding write_answer write_from written_as
held-written bs out m t n zs l e w = rw (eq-eqb (length bs) record_size l, e, w)

-- THEOREM: bytes that are read to a record are written from it, the same bytes, where there is room
pub wire-back : (bs before memory out : List ℕ) → Bytes bs → read_answer bs before ≡ answered 0 memory → length bs ≤ length out
    → write_answer memory out ≡ answered (length bs * 256) (overlay out 0 bs)
wire-back bs before memory out s e room =
    let r = is_read bs before memory e in
    let m = r.said in
    let t = r.texts in
    let y = accepted-typed bs s m t r.is in
    let w = write_read bs s m t r.is in
    let f = roomy m t y.0 w.1 in
    let wrote : write_of m (texts_with m t) out ≡ outcome (Ok (length bs)) (overlay out 0 bs)
    = own-write m t out ∙ written m t out w.1 (omega (arith, y.1)) ∙ rw (w.0, y.1) in
    rw r.kept (held-written (record_bytes m t) out m (texts_with m t) (length bs) (overlay out 0 bs) (record-length m t f) (take_back m t f (kept-no-zero m t w.1)) wrote)

accepted-read : (bs before : List ℕ) (m : Message) (t : Texts) → length before ≡ record_size → read_of bs ≡ accepted m t
    → read_answer bs before ≡ answered 0 (record_bytes m t)
unfolding read_answer read_to
accepted-read bs before m t l e = rw (eq-eqb (length before) record_size l, e)

-- THEOREM: the bytes that a record is written as are read to the same record
pub record-back : (bs out memory before : List ℕ) (n : ℕ) → Bytes bs → write_answer bs out ≡ answered (n * 256) memory → length before ≡ record_size
    → read_answer (part memory 0 n) before ≡ answered 0 bs
record-back bs out memory before n s e l =
    let r = is-written bs out memory n e in
    let m = r.said in
    let t = r.texts in
    let f : Typed m t = typed m t (record-roomy bs s m t r.is) in
    let long : length (bytes_of m t) ≡ (letter_for m).size = bytes-length m t f in
    let there : part memory 0 n ≡ bytes_of m t
    = ap (λ (x : List ℕ). part x 0 n) r.laid ∙ ap (part (overlay out 0 (bytes_of m t)) 0) (r.count ∙ sym long)
    ∙ part-overlay out 0 (bytes_of m t) (omega (arith, long, r.fits)) in
    ap (λ (x : List ℕ). read_answer x before) there
    ∙ accepted-read (bytes_of m t) before m (texts_with m t) l (read-write m t f r.keep)
    ∙ ap (answered 0) (own-record m t ∙ put_back bs m t r.is)

-- ---- EQUAL ANSWERS: two answers of `read`, or of `write`, that meet its promise agree, and so do the memories that they leave
pub equal-answered : (p : Answered) (a b : ℕ) (x y : List ℕ) → answered a x ≡ p → answered b y ≡ p → (a ≡ b) × (x ≡ y)
equal-answered p a b x y e f =
    let o : answered a x ≡ answered b y = equal-answers e f in
    (ap (λ (q : Answered). q.number) o, ap (λ (q : Answered). q.memory) o)
