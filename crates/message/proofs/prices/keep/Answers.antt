-- `message::prices::keep` meets its contract.
use mathlib.Core.Path.{◌≡◌}
use mathlib.Core.Bool.{Bool, ◌&&◌}
use Prim.Native.Nat.{ℕ}
use native.Mathlib.Omega.{arith}
use borrow.Author.Rules.{rules}
use borrow.Author.Tests.{le-leb}
use lib.Dec.{leb}
use Rattle.message.specs.Layout.{priced, price, holds}
use Rattle.message.proofs.Amounts.{above-keeps}
use Rattle.message.proofs.prices.keep.Goals as goal
use Rattle.std.specs.Prelude.{Option, Some, option_map}

-- whatever the code asks for at least, it is 1
least-keeps : {T : Type 0} (f : T → ℕ) (p : ℕ → Bool) (o : Option T) (x : T) {a v : ℕ} {r : Bool} → o ≡ Some x → v ≡ f x → r ≡ p (f x) → a ≡ 1
    → leb a v && r ≡ holds (price p) (priced (option_map f o))
least-keeps f p o x e v k one = rw one (above-keeps f p o x e v k)

pub returns-in-Some : goal.returns-in-Some
returns-in-Some g c = least-keeps g.T.Number.number g.T.Width.form.keeps c.args.side.price c.in-Some.n c.in-Some.is c.value.ensures c.keeps.ensures (omega arith)

pub returns-in-None : goal.returns-in-None
returns-in-None g c = rw (c.in-None.is, g.met.T.Width.none_keeps) (search (le-leb, rules))
