-- `image::judge::Blocks::contents_keep` meets its contract.
use Rattle.image.specs.Restore.{contents_keep}
use Rattle.image.proofs.Judged.{and_no, and-on}
use Rattle.image.proofs.judge.Blocks.contents_keep.Goals as goal

pub returns-then-not-only_facts : goal.returns-then-not-only_facts
unfolding contents_keep
returns-then-not-only_facts c = search (and_no, and-on) depth 14

pub returns-then-not-keep : goal.returns-then-not-keep
unfolding contents_keep
returns-then-not-keep c = search (and_no, and-on) depth 14

pub returns : goal.returns
unfolding contents_keep
returns c = search (and_no, and-on) depth 14
