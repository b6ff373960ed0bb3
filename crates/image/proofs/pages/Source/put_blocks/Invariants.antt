-- `image::pages::Source::put_blocks` meets its contract.
use mathlib.Core.Path.{◌≡◌}
use Rattle.field.specs.Bytes.{overlay}
use Rattle.image.specs.Save.{blocks}
use Rattle.image.proofs.pages.Source.put_blocks.Given as goal

abbrev pub invariant-loop-k : goal.invariant-loop-k
invariant-loop-k g l =
    l.out ≡ overlay l.initial.out 0 (blocks (g.Self.Source.version l.self) (g.Self.Source.header l.self) (g.Self.Source.rows l.self) l.k)
