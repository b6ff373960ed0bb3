-- The writers: a run of writes makes the bytes of a record.
-- Assumes nothing.
use mathlib.Core.Path.{◌≡◌, refl, sym, ap, ◌∙◌}
use mathlib.Core.Bool.{Bool}
use mathlib.Core.List.{List, [], ◌∷◌, ◌++◌, append_assoc, append-nil}
use Prim.Native.Nat.{ℕ, ◌+◌, ◌*◌, ◌^◌, ◌≤◌, ◌<◌}
use native.Mathlib.Nat.{div-one, mod-eq_of_lt}
use native.Mathlib.Omega.{arith}
use lib.ListN.{length, length-append}
use Rattle.field.specs.Bytes.{part, overlay, digits, bytes_be}
use Rattle.field.specs.Decimal.{chars_then_spaces, digit_count}
use borrow.Rule.Slice.PartMut.{put_mid}
use Rattle.field.proofs.Parts.{part_length, part-back, overlay-length, overlay-whole}
use Rattle.field.proofs.Numbers.{digits-length, Lent, lent-bytes}
use Rattle.field.proofs.Decimals.{before-length, count_most}
use Rattle.field.proofs.Writes.{piece, run-joined}
use Rattle.message.specs.Layout.{amount, bytes_for, values}
use Rattle.message.specs.Letters.{stamp_rows, stamp_fields, system_event_rows, system_event_fields, instrument_rows, instrument_fields, directory_rows, directory_fields, quote_rows, quote_fields, numbers_rows, numbers_fields, numbers_of, long_numbers_rows, whole_quote_rows, whole_quote_fields, one_side_rows, one_side_fields, end_of_replay_rows, end_of_replay_fields, entry_size, system_event_letter, directory_letter, end_of_replay_letter}
use Rattle.message.proofs.Layouts.{fields-run}
use Rattle.message.specs.declared.Stamp.{Stamp}
use Rattle.message.specs.declared.SideNumbers.{SideNumbers}
use Rattle.message.specs.declared.SystemEvent.{SystemEvent}
use Rattle.message.specs.declared.Instrument.{Instrument}
use Rattle.message.specs.declared.Directory.{Directory}
use Rattle.message.specs.declared.Quote.{Quote}
use Rattle.message.specs.declared.OneSide.{OneSide}
use Rattle.message.specs.declared.EndOfReplay.{EndOfReplay}
use Rattle.message.specs.declared.Texts.{Texts}

byte : (l : ℕ) → l < 256 → bytes_be 1 l ≡ l ∷ []
unfolding digits
byte l h = rw (div-one l, mod-eq_of_lt h)

pub stamp-put : (xs : List ℕ) (l : ℕ) (s : Stamp) {us vs zs : List ℕ} → l < 256 → 11 ≤ length xs
    → us ≡ overlay xs 0 (bytes_be 1 l) → vs ≡ overlay us 1 (bytes_be 2 s.tracking) → zs ≡ overlay vs 3 (bytes_be 8 s.time)
    → zs ≡ overlay xs 0 (l ∷ bytes_for stamp_rows (stamp_fields s))
unfolding digits bytes_for
stamp-put xs l s {us} {vs} {zs} b h e f g =
    run-joined xs 0 (piece 1 (l ∷ [])) (piece 2 (bytes_be 2 s.tracking) ∷ piece 8 (bytes_be 8 s.time) ∷ []) (refl, (refl, (refl, tt))) h
    (e ∙ ap (overlay xs 0) (byte l b)) (vs, f, (zs, g, refl))

pub head-put : (xs : List ℕ) (l : ℕ) (s : Stamp) (id mark : ℕ) {us vs zs : List ℕ} → 16 ≤ length xs
    → us ≡ overlay xs 0 (l ∷ bytes_for stamp_rows (stamp_fields s)) → vs ≡ overlay us 11 (bytes_be 4 id) → zs ≡ overlay vs 15 (bytes_be 1 mark)
    → zs ≡ overlay xs 0 (l ∷ bytes_for quote_rows (quote_fields s id mark))
unfolding digits bytes_for
head-put xs l s id mark {us} {vs} {zs} h e f g =
    run-joined xs 0 (piece 11 (l ∷ bytes_for stamp_rows (stamp_fields s))) (piece 4 (bytes_be 4 id) ∷ piece 1 (bytes_be 1 mark) ∷ []) (refl, (refl, (refl, tt))) h
    e (vs, f, (zs, g, refl))

-- five numbers of one width
five-put : (w : ℕ) (xs : List ℕ) (at a b c d e : ℕ) {us vs ws ys zs : List ℕ} → at + 5 * w ≤ length xs
    → us ≡ overlay xs at (bytes_be w a) → vs ≡ overlay us (at + w) (bytes_be w b) → ws ≡ overlay vs (at + 2 * w) (bytes_be w c)
    → ys ≡ overlay ws (at + 3 * w) (bytes_be w d) → zs ≡ overlay ys (at + 4 * w) (bytes_be w e)
    → zs ≡ overlay xs at (bytes_be w a ++ (bytes_be w b ++ (bytes_be w c ++ (bytes_be w d ++ (bytes_be w e ++ [])))))
five-put w xs at a b c d e {us} {vs} {ws} {ys} {zs} h p q r s u =
    let l : (v : ℕ) → length (bytes_be w v) ≡ w = digits-length 256 w in
    let two : at + 2 * w ≡ at + (w + w) = omega arith in
    let three : at + 3 * w ≡ at + (w + w + w) = omega arith in
    let four : at + 4 * w ≡ at + (w + w + w + w) = omega arith in
    run-joined xs at (piece w (bytes_be w a)) (piece w (bytes_be w b) ∷ piece w (bytes_be w c) ∷ piece w (bytes_be w d) ∷ piece w (bytes_be w e) ∷ [])
    (l a, (l b, (l c, (l d, (l e, tt))))) (omega arith) p (vs, q, (ws, rw two at r, (ys, rw three at s, (zs, rw four at u, refl))))

pub numbers-put : (w : ℕ) (keeps : ℕ → Bool) (xs : List ℕ) (at : ℕ) (n : SideNumbers ℕ) {k p : ℕ} {us vs ws ys zs : List ℕ} → k ≡ w → p ≡ amount n.price
    → at + 5 * w ≤ length xs → us ≡ overlay xs at (bytes_be w n.market) → vs ≡ overlay us (at + k) (bytes_be w p)
    → ws ≡ overlay vs (at + 2 * k) (bytes_be w n.size) → ys ≡ overlay ws (at + 3 * k) (bytes_be w n.customer)
    → zs ≡ overlay ys (at + 4 * k) (bytes_be w n.professional)
    → zs ≡ overlay xs at (bytes_for (numbers_rows w keeps at) (numbers_fields n))
unfolding bytes_for
numbers-put w keeps xs at n {p = p} {us = us} {vs = vs} {ws = ws} {ys = ys} wide is h q r s u v =
    rw (← is)
    (five-put w xs at n.market p n.size n.customer n.professional h q (r ∙ ap (λ (j : ℕ). overlay us (at + j) (bytes_be w p)) wide)
    (s ∙ ap (λ (j : ℕ). overlay vs (at + 2 * j) (bytes_be w n.size)) wide) (u ∙ ap (λ (j : ℕ). overlay ws (at + 3 * j) (bytes_be w n.customer)) wide)
    (v ∙ ap (λ (j : ℕ). overlay ys (at + 4 * j) (bytes_be w n.professional)) wide))

numbers-length : (w : ℕ) (keeps : ℕ → Bool) (at : ℕ) (n : SideNumbers ℕ) → length (bytes_for (numbers_rows w keeps at) (numbers_fields n)) ≡ 5 * w
unfolding bytes_for
numbers-length w keeps at n =
    let l : (v : ℕ) → length (bytes_be w v) ≡ w = digits-length 256 w in
    simp (length-append, l) (omega arith)

-- carried from other bytes, with no number taken
pub long-carried : (xs bs : List ℕ) (at from : ℕ) {zs : List ℕ} → Lent bs → from + 20 ≤ length bs → zs ≡ overlay xs at (part bs from 20)
    → zs ≡ overlay xs at (bytes_for (long_numbers_rows at) (numbers_fields (numbers_of (values (long_numbers_rows from) bs))))
unfolding values bytes_for
long-carried xs bs at from k h e =
    e ∙ ap (overlay xs at) (sym (fields-run (long_numbers_rows from) bs from (refl, refl, (refl, refl, (omega arith, refl, (omega arith, refl, (omega arith, refl, tt))))) (lent-bytes bs k) h))

-- ---- an instrument

-- three marks of a byte each, side by side
pub three-marks : (a b c : ℕ) → a < 256 → b < 256 → c < 256 → a ∷ b ∷ c ∷ [] ≡ bytes_be 1 a ++ (bytes_be 1 b ++ bytes_be 1 c)
three-marks a b c p q r = rw (byte a p, byte b q, byte c r)

abbrev date_bytes : Instrument → List ℕ
date_bytes m = bytes_be 1 m.year ++ (bytes_be 1 m.month ++ bytes_be 1 m.day)

abbrev marks_bytes : Instrument → List ℕ
marks_bytes m = bytes_be 1 m.closing ++ (bytes_be 1 m.tradable ++ bytes_be 1 m.variation)

abbrev terms_bytes : Instrument → Texts → List ℕ
terms_bytes m t = t.symbol ++ (date_bytes m ++ (bytes_be 4 m.strike ++ bytes_be 1 m.kind))

abbrev market_bytes : Instrument → Texts → List ℕ
market_bytes m t = t.underlying ++ (marks_bytes m ++ t.reserved)

terms-length : (m : Instrument) (t : Texts) → length t.symbol ≡ 8 → length (terms_bytes m t) ≡ 16
unfolding digits
terms-length m t l = rw (length-append, l)

market-length : (m : Instrument) (t : Texts) → length t.underlying ≡ 13 → length t.reserved ≡ 16 → length (market_bytes m t) ≡ 32
unfolding digits
market-length m t l k = rw (length-append, l, k)

pub terms-put : (xs : List ℕ) (m : Instrument) (t : Texts) {us vs ws zs : List ℕ} → m.year < 256 → m.month < 256 → m.day < 256 → length t.symbol ≡ 8 → 20 ≤ length xs
    → us ≡ overlay xs 4 t.symbol → vs ≡ overlay us 12 (m.year ∷ m.month ∷ m.day ∷ []) → ws ≡ overlay vs 15 (bytes_be 4 m.strike) → zs ≡ overlay ws 19 (bytes_be 1 m.kind)
    → zs ≡ overlay xs 4 (terms_bytes m t)
unfolding digits
terms-put xs m t {us} {vs} {ws} {zs} y o d l h e f g i =
    run-joined xs 4 (piece 8 t.symbol) (piece 3 (date_bytes m) ∷ piece 4 (bytes_be 4 m.strike) ∷ piece 1 (bytes_be 1 m.kind) ∷ [])
    (l, (refl, (refl, (refl, tt)))) h e (vs, f ∙ ap (overlay us 12) (three-marks m.year m.month m.day y o d), (ws, g, (zs, i, refl)))

pub market-put : (xs : List ℕ) (m : Instrument) (t : Texts) {us vs zs : List ℕ} → m.closing < 256 → m.tradable < 256 → m.variation < 256 → length t.underlying ≡ 13
    → length t.reserved ≡ 16 → entry_size ≤ length xs → us ≡ overlay xs 20 t.underlying → vs ≡ overlay us 33 (m.closing ∷ m.tradable ∷ m.variation ∷ []) → zs ≡ overlay vs 36 t.reserved
    → zs ≡ overlay xs 20 (market_bytes m t)
unfolding digits
market-put xs m t {us} {vs} {zs} a b d l k h e f g =
    run-joined xs 20 (piece 13 t.underlying) (piece 3 (marks_bytes m) ∷ piece 16 t.reserved ∷ []) (l, (refl, (k, tt))) h e (vs, f ∙ ap (overlay us 33) (three-marks m.closing m.tradable m.variation a b d), (zs, g, refl))
    ∙ ap (λ (r : List ℕ). overlay xs 20 (t.underlying ++ (marks_bytes m ++ r))) (append-nil t.reserved)

pub instrument-put : (xs : List ℕ) (m : Instrument) (t : Texts) {us vs zs : List ℕ} → length t.symbol ≡ 8 → length t.underlying ≡ 13 → length t.reserved ≡ 16
    → entry_size ≤ length xs → us ≡ overlay xs 0 (bytes_be 4 m.id) → vs ≡ overlay us 4 (terms_bytes m t)
    → zs ≡ overlay vs 20 (market_bytes m t)
    → zs ≡ overlay xs 0 (bytes_for instrument_rows (instrument_fields m t))
unfolding digits bytes_for
instrument-put xs m t {us} {vs} {zs} l k j h e f g =
    run-joined xs 0 (piece 4 (bytes_be 4 m.id)) (piece 16 (terms_bytes m t) ∷ piece 32 (market_bytes m t) ∷ [])
    (refl, (terms-length m t l, (market-length m t k j, tt))) h e (vs, f, (zs, g, refl))
    ∙ ap (overlay xs 0) (simp (append_assoc, append-nil))

-- ---- messages

pub system-event-put : (xs : List ℕ) (m : SystemEvent) {us zs : List ℕ} → system_event_letter.size ≤ length xs
    → us ≡ overlay xs 0 (83 ∷ bytes_for stamp_rows (stamp_fields m.stamp)) → zs ≡ overlay us 11 (bytes_be 1 m.code)
    → zs ≡ overlay xs 0 (83 ∷ bytes_for system_event_rows (system_event_fields m))
unfolding digits bytes_for
system-event-put xs m {us} {zs} h e f =
    run-joined xs 0 (piece 11 (83 ∷ bytes_for stamp_rows (stamp_fields m.stamp))) (piece 1 (bytes_be 1 m.code) ∷ []) (refl, (refl, tt)) h e (zs, f, refl)

instrument-length : (m : Instrument) (t : Texts) → length t.symbol ≡ 8 → length t.underlying ≡ 13 → length t.reserved ≡ 16
    → length (bytes_for instrument_rows (instrument_fields m t)) ≡ entry_size
unfolding bytes_for
instrument-length m t l k j = simp (length-append, digits-length, l, k, j)

pub directory-put : (xs : List ℕ) (m : Directory) (t : Texts) {us vs : List ℕ} → length t.symbol ≡ 8 → length t.underlying ≡ 13 → length t.reserved ≡ 16
    → directory_letter.size ≤ length xs → us ≡ overlay xs 0 (109 ∷ bytes_for stamp_rows (stamp_fields m.stamp))
    → vs ≡ overlay (part us 11 entry_size) 0 (bytes_for instrument_rows (instrument_fields m.instrument t))
    → put_mid 11 entry_size us vs ≡ overlay xs 0 (109 ∷ bytes_for directory_rows (directory_fields m t))
unfolding digits bytes_for
directory-put xs m t {us} {vs} l k j h e f =
    let s : List ℕ = 109 ∷ bytes_for stamp_rows (stamp_fields m.stamp) in
    let i : List ℕ = bytes_for instrument_rows (instrument_fields m.instrument t) in
    let n : length i ≡ entry_size = instrument-length m.instrument t l k j in
    let u : length us ≡ length xs = ap length e ∙ overlay-length xs 0 s (omega arith) in
    let v : vs ≡ i = f ∙ overlay-whole (part us 11 entry_size) i (n ∙ sym (part_length us 11 entry_size (omega arith))) in
    run-joined xs 0 (piece 11 s) (piece entry_size i ∷ []) (refl, (n, tt)) h e
    (put_mid 11 entry_size us vs, part-back 11 directory_letter.size us vs (omega arith) (omega arith) (ap length v ∙ n) ∙ ap (overlay us 11) v, refl)
    ∙ ap (overlay xs 0) (ap (λ (r : List ℕ). s ++ r) (append-nil i))

module _ (w : ℕ) (keeps : ℕ → Bool) (xs : List ℕ) where
  -- both sides of a quote, under its letter c
  pub quote-put : (m : Quote ℕ) (c : ℕ) {k : ℕ} {us vs zs : List ℕ} → k ≡ w → 16 + 10 * w ≤ length xs
      → us ≡ overlay xs 0 (c ∷ bytes_for quote_rows (quote_fields m.stamp m.id m.condition))
      → vs ≡ overlay us 16 (bytes_for (numbers_rows w keeps 16) (numbers_fields m.bid))
      → zs ≡ overlay vs (16 + 5 * k) (bytes_for (numbers_rows w keeps (16 + 5 * k)) (numbers_fields m.ask))
      → zs ≡ overlay xs 0 (c ∷ bytes_for (whole_quote_rows w keeps) (whole_quote_fields m))
  unfolding digits bytes_for
  quote-put m c {k} {us} {vs} {zs} wide h e f g =
      run-joined xs 0 (piece 16 (c ∷ bytes_for quote_rows (quote_fields m.stamp m.id m.condition)))
      (piece (5 * w) (bytes_for (numbers_rows w keeps 16) (numbers_fields m.bid)) ∷ piece (5 * w) (bytes_for (numbers_rows w keeps (16 + 5 * w)) (numbers_fields m.ask)) ∷ [])
      (refl, (numbers-length w keeps 16 m.bid, (numbers-length w keeps (16 + 5 * w) m.ask, tt))) (omega arith) e
      (vs, f, (zs, rw wide at g ∙ ap (λ (j : ℕ). overlay vs j (bytes_for (numbers_rows w keeps (16 + 5 * w)) (numbers_fields m.ask))) (omega arith), refl))
      ∙ ap (overlay xs 0) (simp (append_assoc, append-nil))

  -- one side
  pub side-put : (m : OneSide ℕ) (c : ℕ) {us zs : List ℕ} → 16 + 5 * w ≤ length xs
      → us ≡ overlay xs 0 (c ∷ bytes_for quote_rows (quote_fields m.stamp m.id m.condition))
      → zs ≡ overlay us 16 (bytes_for (numbers_rows w keeps 16) (numbers_fields m.numbers))
      → zs ≡ overlay xs 0 (c ∷ bytes_for (one_side_rows w keeps) (one_side_fields m))
  unfolding digits bytes_for
  side-put m c {us} {zs} h e f =
      run-joined xs 0 (piece 16 (c ∷ bytes_for quote_rows (quote_fields m.stamp m.id m.condition)))
      (piece (5 * w) (bytes_for (numbers_rows w keeps 16) (numbers_fields m.numbers)) ∷ []) (refl, (numbers-length w keeps 16 m.numbers, tt)) (omega arith) e (zs, f, refl)
      ∙ ap (overlay xs 0) (simp (append_assoc, append-nil))

-- a number of eight bytes has at most twenty digits
pub twenty : (n : ℕ) → n < 2 ^ 64 → digit_count n ≤ 20
twenty n h = count_most n 19 (omega arith)

pub end-of-replay-put : (xs : List ℕ) (m : EndOfReplay) {us zs : List ℕ} → m.number < 2 ^ 64 → end_of_replay_letter.size ≤ length xs
    → us ≡ overlay xs 0 (bytes_be 1 77) → zs ≡ overlay us 1 (chars_then_spaces 20 m.number)
    → zs ≡ overlay xs 0 (77 ∷ bytes_for end_of_replay_rows (end_of_replay_fields m))
unfolding digits bytes_for
end-of-replay-put xs m {us} {zs} d h e f =
    run-joined xs 0 (piece 1 (bytes_be 1 77)) (piece 20 (chars_then_spaces 20 m.number) ∷ []) (refl, (before-length 20 m.number (twenty m.number d), tt)) h e (zs, f, refl)
