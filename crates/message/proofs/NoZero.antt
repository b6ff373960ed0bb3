-- No message that was read holds zero as a price above zero, and none that does is written.
-- Assumes nothing.
use mathlib.Core.Path.{◌≡◌, refl, sym, ap, ◌∙◌}
use mathlib.Core.Bool.{Bool, true, false, ◌&&◌}
use mathlib.Core.List.{List, [], ◌∷◌}
use Prim.Native.Nat.{ℕ}
use Rattle.field.specs.Limits.{time_in_range, price_in_range}
use Rattle.field.specs.Bytes.{Bytes}
use Rattle.field.proofs.Bools.{both_left}
use Rattle.message.specs.Layout.{amount, is_price, priced, price, holds, keeps_all}
use Rattle.message.specs.Letters.{listed, anything, conditions, prices_of, NoZero}
use Rattle.message.specs.Message.{accepted, read_of, keeps, outcome, write_of}
use Rattle.message.specs.declared.Message.{Message}
use Rattle.message.specs.declared.Message.TheVariants as message
use Rattle.std.specs.Prelude.{Option}
use Rattle.std.specs.Prelude.{Some}
use Rattle.message.specs.declared.Texts.{Texts}
use Rattle.message.specs.declared.WriteRefusal.TheVariants.{BrokenRecord}
use Rattle.message.proofs.Layouts.{never}
use Rattle.message.proofs.Rounds.{write_read}
use Rattle.message.proofs.Ways.{write-broken, side-rules, quote-rules}
use Rattle.std.specs.Prelude.{Err}

-- a price that keeps its rule, whatever else is asked of its number
kept_above : (x : Option ℕ) (p : ℕ → Bool) → holds (price p) (priced x) ≡ true → x ≡ Some 0 → ⊥
kept_above x p k e = never (sym (ap is_price e) ∙ both_left (is_price x) (p (amount x)) k)

-- the prices of a quote that keeps its rules, one or two
one : (a b : Bool) (p : ℕ → Bool) (x : Option ℕ) → a && (b && (holds (price p) (priced x) && true)) ≡ true → NoZero (x ∷ [])
one a b p x e = (kept_above x p (side-rules a b (holds (price p) (priced x)) e).2, tt)

two : (a b : Bool) (p : ℕ → Bool) (x y : Option ℕ) → a && (b && (holds (price p) (priced x) && (holds (price p) (priced y) && true))) ≡ true → NoZero (x ∷ y ∷ [])
two a b p x y e =
    let r = quote-rules a b (holds (price p) (priced x)) (holds (price p) (priced y)) e in
    (kept_above x p r.2, (kept_above y p r.3, tt))

-- a message that keeps its rules
pub kept-no-zero : (m : Message) (t : Texts) → keeps m t ≡ true → NoZero (prices_of m)
unfolding keeps keeps_all
kept-no-zero (message.SystemEvent m) t k = tt
kept-no-zero (message.Directory m) t k = tt
kept-no-zero (message.TradingAction m) t k = tt
kept-no-zero (message.ShortQuote m) t k =
    two (time_in_range m.stamp.time) (listed conditions m.condition) anything m.bid.price m.ask.price k
kept-no-zero (message.LongQuote m) t k =
    two (time_in_range m.stamp.time) (listed conditions m.condition) price_in_range m.bid.price m.ask.price k
kept-no-zero (message.ShortSide m) t k =
    one (time_in_range m.stamp.time) (listed conditions m.condition) anything m.numbers.price k
kept-no-zero (message.LongSide m) t k =
    one (time_in_range m.stamp.time) (listed conditions m.condition) price_in_range m.numbers.price k
kept-no-zero (message.EndOfReplay m) t k = tt

-- THEOREM: no message that was read holds zero as a price above zero
pub read-no-zero : (bs : List ℕ) → Bytes bs → (m : Message) (t : Texts) → read_of bs ≡ accepted m t → NoZero (prices_of m)
read-no-zero bs s m t e = kept-no-zero m t (write_read bs s m t e).1

-- THEOREM: a message that does is refused with 26, before 25, whatever else it holds, and nothing is written
pub zero-unwritten : (m : Message) (t : Texts) (out : List ℕ) → (NoZero (prices_of m) → ⊥) → write_of m t out ≡ outcome (Err BrokenRecord) out
zero-unwritten m t out z = by (keeps m t) refl
  where
    by : (b : Bool) → keeps m t ≡ b → write_of m t out ≡ outcome (Err BrokenRecord) out
    by true k = absurd (z (kept-no-zero m t k))
    by false k = sym (write-broken m t out (keeps m t) refl k)
