-- Equal answers, once for every promise that is one equation with a definition: two answers that meet it are equal.
-- Assumes nothing.
use mathlib.Core.Path.{◌≡◌, sym, ◌∙◌}

pub equal-answers {ℓ} : {A : Type ℓ} {promised one other : A} → one ≡ promised → other ≡ promised → one ≡ other
equal-answers a b = a ∙ sym b
