-- The ten letters: what the code takes, letter by letter, and that records and fields go both ways.
-- Assumes nothing.
use mathlib.Core.Path.{◌≡◌, refl, sym}
use mathlib.Core.Bool.{true, false}
use mathlib.Core.List.{List}
use Prim.Native.Nat.{ℕ, ◌+◌, ◌≤◌, ◌<◌}
use native.Mathlib.Numerals.{add-one}
use native.Mathlib.Omega.{arith}
use borrow.Author.Tests.{eq-eqb, ne_eqb}
use lib.ListN.{length, drop, get_or, drop_of_length-le}
use lib.Seq.{drop-cons}
use Rattle.message.specs.Layout.{values, tiled}
use Rattle.message.specs.Feed.{Letter, letter_among, Sized}
use Rattle.message.specs.Letters.{Content, letters, letter_in, letter_for, unlisted, listed, fields_of, short_side_code, short_side_letter, long_side_code, long_side_letter}
use Rattle.message.specs.Message.{read_fields, texts_with}
use Rattle.message.specs.declared.Message.{Message}
use Rattle.message.specs.declared.Message.TheVariants as message
use Rattle.message.specs.declared.Side.{Side}
use Rattle.message.specs.declared.Side.TheVariants.{Bid, Ask}
use Rattle.message.specs.declared.Texts.{Texts}
use Rattle.message.specs.declared.Reading.{Reading}
use Rattle.message.proofs.Feeds.{found, all_tiled}

infixr 5 ◌also◌
abbrev ◌also◌ : {A B : Type 0} → A → B → A × B
a also b = (a, b)

-- ---- a list looked through

module _ (xs : List ℕ) (c i : ℕ) where
  pub listed_here : i < length xs → get_or xs i 0 ≡ c → listed (drop i xs) c ≡ true
  unfolding listed
  listed_here h e = rw (drop-cons xs i 0 h, eq-eqb (get_or xs i 0) c e)

  pub listed-on : i < length xs → (get_or xs i 0 ≡ c → ⊥) → listed (drop i xs) c ≡ listed (drop (i + 1) xs) c
  unfolding listed
  listed-on h d = rw (add-one, drop-cons xs i 0 h, ne_eqb (get_or xs i 0) c d)

  pub listed-none : length xs ≤ i → listed (drop i xs) c ≡ false
  unfolding listed
  listed-none h = rw (drop_of_length-le xs h)

-- ---- what the code takes, letter by letter

-- in the arm of code k the letter is k
pub arm : (k : ℕ) (c : ℕ) (bs : List ℕ) {r : Reading} → c ≡ k → r ≡ read_fields (letter_in letters k) (values (letter_in letters k).rows bs)
    → r ≡ read_fields (letter_in letters c) (values (letter_in letters c).rows bs)
arm k c bs e p = rw e p

pub room : (k : ℕ) (c : ℕ) (bs : List ℕ) → c ≡ k → Sized (letter_in letters c) bs → (letter_in letters k).size ≤ length bs
room k c bs e s = let s' : Sized (letter_in letters k) bs = rw e at s in omega (arith, s'.is_long)

-- a listed code that none of the other nine arms has is M
pub last_arm : (c : ℕ) → (c ≡ 83 → ⊥) → (c ≡ 109 → ⊥) → (c ≡ 72 → ⊥) → (c ≡ 113 → ⊥) → (c ≡ 81 → ⊥) → (c ≡ 98 → ⊥) → (c ≡ 97 → ⊥) → (c ≡ 66 → ⊥) → (c ≡ 65 → ⊥)
    → ((letter_in letters c).size ≡ 0 → ⊥) → c ≡ 77
unfolding letters
last_arm c n1 n2 n3 n4 n5 n6 n7 n8 n9 =
    found unlisted (λ (l : Letter Content). (l.size ≡ 0 → ⊥) → c ≡ 77) c letters (λ h. absurd (h refl))
    ((λ e h. absurd (n1 (sym e)))
    also (λ e h. absurd (n2 (sym e)))
    also (λ e h. absurd (n3 (sym e)))
    also (λ e h. absurd (n4 (sym e)))
    also (λ e h. absurd (n5 (sym e)))
    also (λ e h. absurd (n6 (sym e)))
    also (λ e h. absurd (n7 (sym e)))
    also (λ e h. absurd (n8 (sym e)))
    also (λ e h. absurd (n9 (sym e)))
    also (λ e h. sym e)
    also tt)

-- ---- records and fields, both ways

-- the rows of every letter stand one after the other
pub letters-tiled : all_tiled letters ≡ true
unfolding all_tiled letters tiled
letters-tiled = refl

-- a letter makes a message of its own, whose fields are those that it was made of
pub record Makes (l : Letter Content) (bs : List ℕ) : Type 0 where
  pub own : letter_for (l.makes (values l.rows bs)).0 ≡ l
  pub fields : fields_of (l.makes (values l.rows bs)).0 (l.makes (values l.rows bs)).1 ≡ values l.rows bs

pub found-makes : (c : ℕ) (bs : List ℕ) → ((letter_in letters c).size ≡ 0 → ⊥) → Makes (letter_in letters c) bs
unfolding letters values
found-makes c bs =
    found unlisted (λ (l : Letter Content). (l.size ≡ 0 → ⊥) → Makes l bs) c letters (λ h. absurd (h refl))
    ((λ e h. record { own = refl; fields = refl })
    also (λ e h. record { own = refl; fields = refl })
    also (λ e h. record { own = refl; fields = refl })
    also (λ e h. record { own = refl; fields = refl })
    also (λ e h. record { own = refl; fields = refl })
    also (λ e h. record { own = refl; fields = refl })
    also (λ e h. record { own = refl; fields = refl })
    also (λ e h. record { own = refl; fields = refl })
    also (λ e h. record { own = refl; fields = refl })
    also (λ e h. record { own = refl; fields = refl })
    also tt)

-- the letter of a message is listed, and makes the message of its fields
pub record Listed (m : Message) (t : Texts) : Type 0 where
  pub own : letter_in letters (letter_for m).code ≡ letter_for m
  pub some : (letter_for m).size ≡ 0 → ⊥
  pub made : (letter_for m).makes (fields_of m t) ≡ (m, texts_with m t)

side-listed : (s : Side) → (letter_in letters (short_side_code s) ≡ short_side_letter s) × (letter_in letters (long_side_code s) ≡ long_side_letter s)
unfolding letters letter_among
side-listed Bid = (refl, refl)
side-listed Ask = (refl, refl)

pub is-listed-letter : (m : Message) (t : Texts) → Listed m t
unfolding letters letter_among
is-listed-letter (message.SystemEvent m) t = record { own = refl; some = λ e. omega arith; made = refl }
is-listed-letter (message.Directory m) t = record { own = refl; some = λ e. omega arith; made = refl }
is-listed-letter (message.TradingAction m) t = record { own = refl; some = λ e. omega arith; made = refl }
is-listed-letter (message.ShortQuote m) t = record { own = refl; some = λ e. omega arith; made = refl }
is-listed-letter (message.LongQuote m) t = record { own = refl; some = λ e. omega arith; made = refl }
is-listed-letter (message.ShortSide m) t = record { own = (side-listed m.side).0; some = λ e. omega arith; made = refl }
is-listed-letter (message.LongSide m) t = record { own = (side-listed m.side).1; some = λ e. omega arith; made = refl }
is-listed-letter (message.EndOfReplay m) t = record { own = refl; some = λ e. omega arith; made = refl }
