-- A message's fields keep the rules of their places in a record exactly when none holds zero as a price above zero, and none that a record holds does.
-- Assumes nothing.
use mathlib.Core.Path.{◌≡◌, refl, sym, ap, ◌∙◌}
use mathlib.Core.Bool.{Bool, true, ◌&&◌, and-true}
use mathlib.Core.List.{List, [], ◌∷◌}
use Prim.Native.Nat.{ℕ}
use native.Mathlib.Omega.{arith}
use borrow.Author.Tests.{le-leb}
use Rattle.field.proofs.Bools.{both_left, both_right}
use Rattle.message.specs.Layout.{is_price, keeps_all}
use Rattle.message.specs.Letters.{fields_of, prices_of, NoZero}
use Rattle.std.specs.Prelude.{Option}
use Rattle.std.specs.Prelude.{Some, None}
use Rattle.message.specs.declared.Message.{Message}
use Rattle.message.specs.declared.Message.TheVariants as message
use Rattle.message.specs.declared.Texts.{Texts}
use Rattle.message.proofs.Layouts.{never}
use Rattle.record.specs.Places.{places_for}
use Rattle.record.specs.Record.{held, record_of}
use Rattle.record.proofs.Typed.{is_said, is-record}

abbrev are_prices : List (Option ℕ) → Bool
are_prices [] = true
are_prices (x ∷ xs) = is_price x && are_prices xs

above_zero : (x : Option ℕ) → (x ≡ Some 0 → ⊥) → is_price x ≡ true
above_zero (Some n) h = let some : n ≡ 0 → ⊥ = λ e. h (ap Some e) in le-leb 1 n (omega arith)
above_zero None h = refl

are-prices : (xs : List (Option ℕ)) → NoZero xs → are_prices xs ≡ true
are-prices [] z = refl
are-prices (x ∷ xs) z = rw (above_zero x z.0, are-prices xs z.1)

no_zero : (xs : List (Option ℕ)) → are_prices xs ≡ true → NoZero xs
no_zero [] k = tt
no_zero (x ∷ xs) k =
    (λ e. never (sym (ap is_price e) ∙ both_left (is_price x) (are_prices xs) k), no_zero xs (both_right (is_price x) (are_prices xs) k))

-- a record asks nothing else of its fields
places-keep : (m : Message) (t : Texts) → keeps_all (places_for m) (fields_of m t) ≡ are_prices (prices_of m)
unfolding keeps_all
places-keep (message.SystemEvent m) t = refl
places-keep (message.Directory m) t = refl
places-keep (message.TradingAction m) t = refl
places-keep (message.ShortQuote m) t = simp and-true
places-keep (message.LongQuote m) t = simp and-true
places-keep (message.ShortSide m) t = simp and-true
places-keep (message.LongSide m) t = simp and-true
places-keep (message.EndOfReplay m) t = refl

pub no-zero-keeps : (m : Message) (t : Texts) → NoZero (prices_of m) → keeps_all (places_for m) (fields_of m t) ≡ true
no-zero-keeps m t z = places-keep m t ∙ are-prices (prices_of m) z

-- THEOREM: no message that is taken from a record holds zero as a price above zero
pub record-no-zero : (bs : List ℕ) (m : Message) (t : Texts) → record_of bs ≡ held m t → NoZero (prices_of m)
record-no-zero bs m t e =
    let w = is_said bs m t (is-record bs m t e).said in
    no_zero (prices_of m) (sym (places-keep m t) ∙ ap (keeps_all (places_for m)) w.fields ∙ w.kept)
