-- `image::judge::checks_keep` meets its contract.
use Rattle.image.proofs.Judged.{checks-none, checks-stop, checks-on}
use Rattle.image.proofs.judge.checks_keep.Goals as goal

pub loop-k-init : goal.loop-k-init
loop-k-init c = checks-none _

pub returns-then-not-check_keeps : goal.returns-then-not-check_keeps
returns-then-not-check_keeps c = search checks-stop

pub loop-k-preserved : goal.loop-k-preserved
loop-k-preserved c = search checks-on
