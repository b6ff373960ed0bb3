-- `image::judge::Blocks::slots_keep` meets its contract.
use native.Mathlib.Omega.{arith}
use Rattle.image.proofs.Judged.{slots-other, slots-pages, slots-few, slots-rows, slots-broken, slots-spare}
use Rattle.image.proofs.judge.Blocks.slots_keep.Goals as goal

pub returns-then-blocks_for-self : goal.returns-then-blocks_for-self
returns-then-blocks_for-self c =
    let b = c.args.self.now in
    slots-other b.image.now b.header.board.rows b.count c.blocks_for.result c.blocks_for.ensures (λ e. omega arith)

pub invariant_of-slots : goal.invariant_of-slots
invariant_of-slots c = record { inside = search slots-pages }

pub keep-requires : goal.keep-requires
keep-requires c = search slots-few

pub returns-then-not-keep : goal.returns-then-not-keep
returns-then-not-keep c = search slots-broken

pub overflow_sub-spare-2 : goal.overflow_sub-spare-2
overflow_sub-spare-2 c = search slots-rows

pub returns : goal.returns
returns c = search slots-spare depth 14
