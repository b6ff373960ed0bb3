-- `image::judge::Blocks::heads_keep` meets its contract.
use Rattle.image.proofs.Below.{below_none}
use Rattle.image.proofs.Judged.{head-fits, heads-range, heads-stop, heads-on, heads-end}
use Rattle.image.proofs.judge.Blocks.heads_keep.Goals as goal

pub returns-then-not-fit : goal.returns-then-not-fit
returns-then-not-fit c = search (heads-range, head-fits)

pub loop-k-init : goal.loop-k-init
loop-k-init c = below_none _

pub returns-then-not-head_keeps : goal.returns-then-not-head_keeps
returns-then-not-head_keeps c = search (heads-stop, head-fits) depth 12

pub loop-k-preserved : goal.loop-k-preserved
loop-k-preserved c = search heads-on

pub returns : goal.returns
returns c = search (heads-end, head-fits) depth 12
