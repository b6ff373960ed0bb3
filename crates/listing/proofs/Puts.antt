-- The ways through the code: pieces of text, each put where the one before it ends, make a line.
-- Assumes nothing.
use mathlib.Core.Path.{◌≡◌, refl, sym, ap, subst, ◌∙◌}
use mathlib.Core.Bool.{Bool, true, false, cond, not}
use mathlib.Core.List.{List, [], ◌∷◌, ◌++◌}
use Prim.Native.Nat.{ℕ, ◌+◌, ◌-◌, ◌*◌, ◌/◌, ◌≤◌, ◌<◌}
use native.Mathlib.Nat.{div-one, mod-eq_of_lt, zero-add}
use native.Mathlib.Omega.{arith}
use borrow.Author.Tests.{eq-eqb, ne_eqb, le-leb, lt-leb, not-true, not-false}
use lib.Dec.{eqb, lit<}
use lib.ListN.{length, length-append, replicate}
use Rattle.field.specs.Bytes.{part, overlay, digits, bytes_be}
use Rattle.field.specs.Decimal.{chars, digit_chars, digit_count}
use Rattle.field.proofs.Parts.{overlay-next, overlay-length, part-whole}
use Rattle.field.proofs.Decimals.{chars-length}
use Rattle.std.specs.Prelude.{Option}
use Rattle.std.specs.Prelude.{Some, None}
use Rattle.message.specs.declared.Side.{Side}
use Rattle.message.specs.declared.Side.TheVariants.{Bid, Ask}
use Rattle.row.specs.Fields.{row_size, id_of, state_of, sides_of, price_of, has_seen}
use Rattle.table.specs.Memory.{rows_fit, row}
use Rattle.listing.specs.Lines.{none_word, ok_word, end_word, refused_word, line_end, next_line, dash, dollars, price_text, state_text, side_text, row_line, last_line, line_in, line_size, no_line, Put, Written, Short, shown_of}
use Rattle.listing.specs.declared.Text.{Text}
use Rattle.listing.specs.declared.Shown.{Shown}
use Rattle.listing.specs.declared.Shown.TheVariants.{Line, Past, Unfit}
use Rattle.listing.specs.declared.Ending.{Ending}
use Rattle.listing.specs.declared.Ending.TheVariants.{RanOut, Ended, Refused}

-- a piece, and then another
pub put_then : (xs : List ℕ) (at : ℕ) (ys zs : List ℕ) (most more : ℕ) {us vs : List ℕ} {a r : ℕ} → at + (most + more) ≤ length xs
    → Put xs at ys us a most → Put us a zs vs r more → Put xs at (ys ++ zs) vs r (most + more)
put_then xs at ys zs most more {us} {vs} {a} {r} h p q =
    let la : a ≡ at + length ys = p.1.0 in
    let lr : r ≡ a + length zs = q.1.0 in
    let ma : a ≤ at + most = p.1.1 in
    let mr : r ≤ a + more = q.1.1 in (
      q.0 ∙ ap (λ (l : List ℕ). overlay l a zs) p.0 ∙ ap (λ (i : ℕ). overlay (overlay xs at ys) i zs) la ∙ overlay-next xs at ys zs (omega arith),
      (omega (arith, length-append ys zs), omega arith),
    )

lengths : (xs : List ℕ) (at : ℕ) (ys : List ℕ) {us : List ℕ} → at + length ys ≤ length xs → us ≡ overlay xs at ys → length us ≡ length xs
lengths xs at ys h e = ap length e ∙ overlay-length xs at ys h

-- the same piece by another name, and a wider bound
put_as : (xs : List ℕ) (at : ℕ) {ys ys' zs : List ℕ} {r r' most most' : ℕ} → Put xs at ys zs r most → ys ≡ ys' → r ≡ r' → most ≤ most' → Put xs at ys' zs r' most'
put_as xs at p e f m = (p.0 ∙ ap (overlay xs at) e, (sym f ∙ p.1.0 ∙ ap (λ (y : List ℕ). at + length y) e, omega (arith, p.1.1)))

-- ---- pieces

byte : (v : ℕ) → v < 256 → bytes_be 1 v ≡ v ∷ []
unfolding digits
byte v h = rw (div-one v, mod-eq_of_lt h)

pub put_byte : (xs : List ℕ) (at v : ℕ) {zs : List ℕ} → v < 256 → zs ≡ overlay xs at (bytes_be 1 v) → Put xs at (v ∷ []) zs (at + 1) 1
put_byte xs at v h e = (e ∙ ap (overlay xs at) (byte v h), (refl, omega arith))

pub number_put : (xs : List ℕ) (at v : ℕ) {n : ℕ} {zs : List ℕ} → n ≡ digit_count v → n ≤ 20 → zs ≡ overlay xs at (digit_chars n v) → Put xs at (chars v) zs (at + n) 20
unfolding chars
number_put xs at v {n} {zs} e h p =
    (p ∙ ap (λ (i : ℕ). overlay xs at (digit_chars i v)) e, (omega (arith, chars-length (digit_count v) v), omega arith))

pub dollars-put : (xs : List ℕ) (at price : ℕ) {point : ℕ} {us vs zs : List ℕ} → at + 25 ≤ length xs
    → Put xs at (chars (price / 10_000)) us point 20 → vs ≡ overlay us point (bytes_be 1 46) → zs ≡ overlay vs (point + 1) (digit_chars 4 price)
    → Put xs at (dollars price) zs (point + 5) 25
unfolding dollars
dollars-put xs at price {point} {us} {vs} {zs} h p f g =
    let l : point ≡ at + length (chars (price / 10_000)) = p.1.0 in
    let m : point ≤ at + 20 = p.1.1 in
    let n = length-append (chars (price / 10_000)) (46 ∷ digit_chars 4 price) in
    let d : length (digit_chars 4 price) ≡ 4 = chars-length 4 price in
    let u : length us ≡ length xs = lengths xs at (chars (price / 10_000)) (omega arith) p.0 in
    let tail : Put us point (46 ∷ digit_chars 4 price) zs (point + 5) 5
    = put_then us point (46 ∷ []) (digit_chars 4 price) 1 4 (omega arith) (put_byte us point 46 (lit< tt) f) (g, (omega arith, omega arith)) in
    put_then xs at (chars (price / 10_000)) (46 ∷ digit_chars 4 price) 20 5 h p tail

module _ (xs : List ℕ) (at : ℕ) (price : Option ℕ) where
  pub above-put : (n : ℕ) {r : ℕ} {zs : List ℕ} → price ≡ Some n → Put xs at (dollars n) zs r 25 → Put xs at (price_text price) zs r 25
  unfolding price_text
  above-put n e p = rw e p

  pub none-put : {zs : List ℕ} → price ≡ None → zs ≡ overlay xs at none_word → Put xs at (price_text price) zs (at + 4) 25
  unfolding price_text
  none-put e p = rw e (p, (refl, omega arith))

-- ---- a row

pub mark-none : (state : ℕ) → state ≡ 0 → dash ≡ cond (eqb state 0) dash state
mark-none state e = rw (eq-eqb state 0 e)

pub mark-state : (state : ℕ) → (state ≡ 0 → ⊥) → state ≡ cond (eqb state 0) dash state
mark-state state e = rw (ne_eqb state 0 e)

pub state-put : (xs : List ℕ) (at : ℕ) (r : List ℕ) {state mark : ℕ} {us zs : List ℕ} → at + 2 ≤ length xs → mark < 256 → state ≡ state_of r
    → mark ≡ cond (eqb state 0) dash state → us ≡ overlay xs at (bytes_be 1 32) → zs ≡ overlay us (at + 1) (bytes_be 1 mark)
    → Put xs at (state_text r) zs (at + 2) 2
unfolding state_text
state-put xs at r {state} {mark} {us} {zs} h b e m f g =
    let t : mark ≡ cond (eqb (state_of r) 0) dash (state_of r) = rw e at m in
    put_as xs at (put_then xs at (32 ∷ []) (mark ∷ []) 1 1 h (put_byte xs at 32 (lit< tt) f) (put_byte us (at + 1) mark b g))
    (ap (λ (x : ℕ). 32 ∷ x ∷ []) t) (omega arith) (omega arith)

module _ (xs : List ℕ) (at : ℕ) (side : Side) (r : List ℕ) {sides : ℕ} {seen : Bool} {us : List ℕ} (h : at + 26 ≤ length xs) (e : sides ≡ sides_of r)
    (s : seen ≡ has_seen side sides) (f : us ≡ overlay xs at (bytes_be 1 32)) where
  side-text : (y : Bool) → seen ≡ y → side_text side r ≡ 32 ∷ cond y (price_text (price_of side r)) (dash ∷ [])
  unfolding side_text
  side-text y i = rw (← e, ← s, i)

  pub side-put : {price : Option ℕ} {q : ℕ} {zs : List ℕ} → seen ≡ true → price ≡ price_of side r → Put us (at + 1) (price_text price) zs q 25
      → Put xs at (side_text side r) zs q 26
  side-put {price} {q} {zs} y p g =
      put_as xs at (put_then xs at (32 ∷ []) (price_text price) 1 25 h (put_byte xs at 32 (lit< tt) f) g)
      (ap (λ (x : Option ℕ). 32 ∷ price_text x) p ∙ sym (side-text true y)) refl (omega arith)

  pub unseen-put : {zs : List ℕ} → seen ≡ false → zs ≡ overlay us (at + 1) (bytes_be 1 45) → Put xs at (side_text side r) zs (at + 2) 26
  unseen-put {zs} y g =
      put_as xs at (put_then xs at (32 ∷ []) (45 ∷ []) 1 1 (omega arith) (put_byte xs at 32 (lit< tt) f) (put_byte us (at + 1) 45 (lit< tt) g))
      (sym (side-text false y)) (omega arith) (omega arith)

pub row_put : (xs r : List ℕ) {id a b c d : ℕ} {s t u v zs : List ℕ} → line_size ≤ length xs → id ≡ id_of r → Put xs 0 (chars id) s a 20 → Put s a (state_text r) t b 2
    → Put t b (side_text Bid r) u c 26 → Put u c (side_text Ask r) v d 26 → zs ≡ overlay v d (bytes_be 1 10)
    → (zs ≡ overlay xs 0 (row_line r)) × ((d + 1 ≡ length (row_line r)) × (d + 1 ≤ line_size))
unfolding row_line
row_put xs r {id} {a} {b} {c} {d} {s} {t} {u} {v} {zs} h i p q w x f =
    let ls : length s ≡ length xs = lengths xs 0 (chars id) (omega (arith, p.1.0, p.1.1)) p.0 in
    let lt : length t ≡ length xs = lengths s a (state_text r) (omega (arith, p.1.1, q.1.0, q.1.1)) q.0 ∙ ls in
    let lu : length u ≡ length xs = lengths t b (side_text Bid r) (omega (arith, p.1.1, q.1.1, w.1.0, w.1.1)) w.0 ∙ lt in
    let z : Put v d line_end zs (d + 1) 1 = put_byte v d 10 (lit< tt) f in
    let four : Put u c (side_text Ask r ++ line_end) zs (d + 1) 27 = put_then u c (side_text Ask r) line_end 26 1 (omega (arith, p.1.1, q.1.1, w.1.1)) x z in
    let three = put_then t b (side_text Bid r) (side_text Ask r ++ line_end) 26 27 (omega (arith, p.1.1, q.1.1)) w four in
    let two = put_then s a (state_text r) (side_text Bid r ++ (side_text Ask r ++ line_end)) 2 53 (omega (arith, p.1.1)) q three in
    let one = put_then xs 0 (chars id) (state_text r ++ (side_text Bid r ++ (side_text Ask r ++ line_end))) 20 55 (omega arith) p two in
    let line = put_as xs 0 {most = 75} {most' = line_size} one (ap (λ (x : ℕ). chars x ++ (state_text r ++ (side_text Bid r ++ (side_text Ask r ++ line_end)))) i) refl (omega arith) in
    (line.0, (line.1.0 ∙ zero-add (length (row_line r)), omega (arith, line.1.1)))

-- ---- the other lines

-- a word, and then what follows it
word-put : (xs word : List ℕ) {us : List ℕ} → us ≡ overlay xs 0 (part word 0 (length word)) → length word ≤ 8 → Put xs 0 word us (length word) 8
word-put xs word e h = (e ∙ ap (overlay xs 0) (part-whole word (length word) refl), (sym (zero-add (length word)), omega arith))

module _ (xs word : List ℕ) {us : List ℕ} (h : line_size ≤ length xs) (short : length word ≤ 8) (e : us ≡ overlay xs 0 (part word 0 (length word))) where
  pub number-line : (v : ℕ) {end : ℕ} {vs zs : List ℕ} → Put us (length word) (chars v) vs end 20 → zs ≡ overlay vs end (bytes_be 1 10)
      → (zs ≡ overlay xs 0 (word ++ (chars v ++ line_end))) × ((end + 1 ≡ length (word ++ (chars v ++ line_end))) × (end + 1 ≤ line_size))
  number-line v {end} {vs} {zs} f g =
      let u : length us ≡ length xs = lengths xs 0 word (omega arith) (word-put xs word e short).0 in
      let rest = put_then us (length word) (chars v) line_end 20 1 (omega arith) f (put_byte vs end 10 (lit< tt) g) in
      let line = put_then xs 0 word (chars v ++ line_end) 8 21 (omega arith) (word-put xs word e short) rest in
      (line.0, (line.1.0 ∙ zero-add (length (word ++ (chars v ++ line_end))), omega (arith, line.1.1)))

  pub word_line : {zs : List ℕ} → zs ≡ overlay us (length word) (bytes_be 1 10)
      → (zs ≡ overlay xs 0 (word ++ line_end)) × ((length word + 1 ≡ length (word ++ line_end)) × (length word + 1 ≤ line_size))
  word_line {zs} g =
      let line = put_then xs 0 word line_end 8 1 (omega arith) (word-put xs word e short) (put_byte us (length word) 10 (lit< tt) g) in
      (line.0, (line.1.0 ∙ zero-add (length (word ++ line_end)), omega (arith, line.1.1)))

-- ---- which line

pub line_as : (xs : List ℕ) (ys ys' : List ℕ) {zs : List ℕ} {r : ℕ} → ys ≡ ys' → Written xs ys zs r → Written xs ys' zs r
line_as xs ys ys' e p = (p.0 ∙ ap (overlay xs 0) e, (p.1.0 ∙ ap length e, p.1.1))

module _ (k next rows : ℕ) (mem : List ℕ) (ending : Ending) where
  pub line-next : k ≡ 0 → next_line next ≡ line_in k next rows mem ending
  unfolding line_in
  line-next e = rw (eq-eqb k 0 e)

  pub line_row : (k ≡ 0 → ⊥) → k ≤ rows → row_line (part mem ((k - 1) * row_size) ((k - 1) * row_size + row_size - (k - 1) * row_size)) ≡ line_in k next rows mem ending
  unfolding line_in row
  line_row n h =
      let e : (k - 1) * row_size + row_size - (k - 1) * row_size ≡ row_size = omega arith in
      rw (ne_eqb k 0 n, le-leb k rows h, e)

  pub line-last : (k ≡ 0 → ⊥) → rows < k → last_line ending ≡ line_in k next rows mem ending
  unfolding line_in
  line-last n h = rw (ne_eqb k 0 n, lt-leb k rows h)

  -- what is shown, by the test of memory and rows
  module _ {w : Bool} (told : w ≡ rows_fit rows mem) where
    pub shown-unfit : not w ≡ true → no_line Unfit ≡ shown_of k next rows mem ending
    unfolding shown_of
    shown-unfit n = rw (← told, not-true w n)

    module _ (y : not w ≡ false) where
      pub shown-past : rows + 1 < k → no_line Past ≡ shown_of k next rows mem ending
      unfolding shown_of
      shown-past h = rw (← told, not-false w y, lt-leb k (rows + 1) h)

      pub shown-line : k ≤ rows + 1 → (zs : List ℕ) {r : ℕ} → Written (replicate line_size 0) (line_in k next rows mem ending) zs r
          → ◌≡◌ {A = Text} (record { text = zs; shown = Line r }) (shown_of k next rows mem ending)
      unfolding shown_of
      shown-line h zs p = rw (← told, not-false w y, le-leb k (rows + 1) h, p.0, p.1.0)

-- a line that is shown is not too long
pub short-line : (shown : Shown) (n : ℕ) → Short shown → shown ≡ Line n → n ≤ line_size
short-line shown n h e = subst Short e h

-- the last line, by how the input ended
module _ (ending : Ending) where
  pub last_ok : ending ≡ RanOut → ok_word ++ line_end ≡ last_line ending
  unfolding last_line
  last_ok e = rw e

  pub last_end : ending ≡ Ended → end_word ++ line_end ≡ last_line ending
  unfolding last_line
  last_end e = rw e

  pub last-refused : (n : ℕ) → ending ≡ Refused n → refused_word ++ (chars n ++ line_end) ≡ last_line ending
  unfolding last_line
  last-refused n e = rw e
