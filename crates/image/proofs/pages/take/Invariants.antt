-- `image::pages::take` meets its contract.
use mathlib.Core.Path.{◌≡◌}
use Rattle.field.specs.Bytes.{overlay}
use Rattle.block.specs.Block.{block_size}
use Rattle.image.specs.Shape.{pages, first_page}
use Rattle.image.proofs.pages.take.Given as goal

abbrev pub invariant-loop-k : goal.invariant-loop-k
invariant-loop-k l =
    l.table ≡ overlay l.initial.table 0 (pages l.image first_page block_size l.k)
