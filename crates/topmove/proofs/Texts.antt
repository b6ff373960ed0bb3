-- The line that says what was moved: pieces of text, each put where the one before it ends.
-- Assumes nothing.
use mathlib.Core.Path.{◌≡◌, refl, sym, ap, ◌∙◌}
use mathlib.Core.List.{List, ◌++◌}
use Prim.Native.Nat.{ℕ, ◌+◌, ◌≤◌}
use native.Mathlib.Nat.{zero-add}
use native.Mathlib.Omega.{arith}
use lib.ListN.{length}
use Rattle.field.specs.Bytes.{part, overlay}
use Rattle.field.specs.Decimal.{chars, digit_chars, digit_count}
use Rattle.field.proofs.Parts.{part-whole}
use Rattle.listing.specs.Lines.{Put}
use Rattle.listing.proofs.Puts.{put_then, number_put}
use Rattle.image.specs.declared.Way.{Way}
use Rattle.image.specs.declared.Way.TheVariants.{Forward, Back}
use Rattle.topmove.specs.Line.{version_word, comma, rows_word, lost_word, line_end, start_of, rest_of, line_of, line_size}
use Rattle.topmove.specs.declared.moving.Moved.{Moved}

-- a word of n bytes
word-put : (xs : List ℕ) (at : ℕ) (word : List ℕ) (n most : ℕ) {zs : List ℕ} → length word ≡ n → n ≤ most → zs ≡ overlay xs at (part word 0 n)
    → Put xs at word zs (at + n) most
word-put xs at word n most e h p = (p ∙ ap (overlay xs at) (part-whole word n e), (omega arith, omega arith))

pub number_behind : (xs : List ℕ) (at : ℕ) (word : List ℕ) (v : ℕ) {n : ℕ} {us zs : List ℕ} → at + 28 ≤ length xs → length word ≤ 8 → n ≡ digit_count v → n ≤ 20
    → us ≡ overlay xs at (part word 0 (length word)) → zs ≡ overlay us (at + length word) (digit_chars n v)
    → Put xs at (word ++ chars v) zs (at + length word + n) 28
number_behind xs at word v h short e few p q =
    put_then xs at word (chars v) 8 20 h (word-put xs at word (length word) 8 refl short p) (number_put _ (at + length word) v e few q)

-- text from the front on, and its end
abbrev Front : List ℕ → List ℕ → List ℕ → ℕ → ℕ → Type 0
Front xs ys zs r most = (zs ≡ overlay xs 0 ys) × ((r ≡ length ys) × (r ≤ most))

front : (xs ys : List ℕ) {zs : List ℕ} {r most : ℕ} → Put xs 0 ys zs r most → Front xs ys zs r most
front xs ys p = (p.0, (p.1.0 ∙ zero-add (length ys), omega (arith, p.1.1)))

module _ (xs : List ℕ) (h : line_size ≤ length xs) (m : Moved) {a r : ℕ} {us zs : List ℕ} where
  pub start-put : Put xs 0 (version_word ++ chars m.version) us a 28 → Put us a (comma ++ chars m.rows) zs r 28 → Front xs (start_of m) zs r 56
  unfolding start_of
  start-put p q =
      front xs (start_of m) (put_then xs 0 (version_word ++ chars m.version) (comma ++ chars m.rows) 28 28 (omega arith) p q)

  pub line-put : (way : Way) → Front xs (start_of m) us a 56 → Put us a (rest_of way m.lost) zs r 40 → Front xs (line_of way m) zs r line_size
  unfolding line_of
  line-put way p q =
      front xs (line_of way m)
      (put_then xs 0 (start_of m) (rest_of way m.lost) 56 40 (omega arith) (p.0, (p.1.0 ∙ sym (zero-add (length (start_of m))), omega (arith, p.1.1))) q)

module _ (xs : List ℕ) (at : ℕ) (way : Way) (lost : ℕ) where
  pub rest-forward : {zs : List ℕ} → way ≡ Forward → zs ≡ overlay xs at (part (rows_word ++ line_end) 0 6) → Put xs at (rest_of way lost) zs (at + 6) 40
  unfolding rest_of
  rest-forward e p = rw e (word-put xs at (rows_word ++ line_end) 6 40 refl (omega arith) p)

  pub rest_back : {end : ℕ} {us zs : List ℕ} → way ≡ Back → at + 40 ≤ length xs → Put xs at ((rows_word ++ comma) ++ chars lost) us end 28
      → zs ≡ overlay us end (part (lost_word ++ line_end) 0 12) → Put xs at (rest_of way lost) zs (end + 12) 40
  unfolding rest_of
  rest_back {end} {us} e h p q =
      rw e
      (put_then xs at ((rows_word ++ comma) ++ chars lost) (lost_word ++ line_end) 28 12 h p (word-put us end (lost_word ++ line_end) 12 12 refl (omega arith) q))
