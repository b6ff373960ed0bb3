-- What reading a file promises: as many bytes as it says lie in the memory that it was lent.
-- Assumes nothing.
use Rattle.std.specs.Prelude.{ℕ, ◌≤◌, List, length, Option, IfSome}

abbrev pub LoadedIn : Option ℕ → List ℕ → Type 0
LoadedIn loaded space = IfSome loaded (λ n. n ≤ length space)
