-- `packet::joined` meets its contract.
use mathlib.Core.Path.{ap, ◌∙◌}
use mathlib.Core.List.{List}
use Prim.Native.Nat.{ℕ}
use Rattle.field.specs.Bytes.{part, overlay}
use Rattle.field.proofs.Parts.{part-whole}
use Rattle.packet.specs.Frame.{held_size}
use Rattle.packet.proofs.joined.Goals as goal

pub returns : goal.returns
returns c =
    let s = c.args in
    c.copy.ensures
    ∙ ap (λ (x : List ℕ). overlay x s.used (part s.piece.now 0 s.n)) (c.bytes-out.ensures ∙ part-whole s.held.now held_size c.requires.0)
