-- `field::wide4` meets its contract.
use mathlib.Core.List.{[], ◌∷◌}
use native.Mathlib.Omega.{arith}
use borrow.Author.Rules.{rules}
use Rattle.field.proofs.Numbers.{be-gather}
use Rattle.field.proofs.wide4.Goals as goal

pub returns : goal.returns
returns c = let s = c.args in (omega (arith, be-gather s.s.now s.at 1 (1 ∷ 1 ∷ 1 ∷ []) (search rules)), search rules)
