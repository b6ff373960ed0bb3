-- The front of a list, as long as is asked for or as was read there.
-- Assumes nothing.
use mathlib.Core.Path.{◌≡◌}
use mathlib.Core.List.{List}
use Prim.Native.Nat.{ℕ, ◌≤◌}
use native.Mathlib.Omega.{arith}
use lib.ListN.{length, take, length-take}
use Rattle.files.specs.Loading.{LoadedIn}
use Rattle.std.specs.Prelude.{Option, Some}

pub front_length : (n : ℕ) (xs : List ℕ) → n ≤ length xs → n ≡ length (take n xs)
front_length n xs h = omega (arith, length-take n xs)

pub loaded-within : {x : Option ℕ} {n : ℕ} (space : List ℕ) → x ≡ Some n → LoadedIn x space → n ≤ length space
loaded-within space e f = rw e at f
