-- `image::judge::judge` meets its contract.
use native.Mathlib.Omega.{arith}
use Rattle.image.proofs.Judged.{Long, judge-length, judge-long, judge-check, judge-head, judge-contents, judge-accepts, rows-small}
use Rattle.image.proofs.judge.judge.Goals as goal

pub returns-then-not-length_keeps : goal.returns-then-not-length_keeps
returns-then-not-length_keeps c = search judge-length

pub returns-then-not-checks_keep : goal.returns-then-not-checks_keep
returns-then-not-checks_keep c = search judge-check

pub read-requires : goal.read-requires
read-requires c = let j : Long c.args.image.now = search judge-long in j.some

pub version-requires : goal.version-requires
version-requires c = let j : Long c.args.image.now = search judge-long in j.some

pub invariant_of-blocks : goal.invariant_of-blocks
invariant_of-blocks c =
    let j : Long c.args.image.now = search judge-long in
    record {
      there = omega arith;
      least = j.least;
      few = j.few;
      version_is = c.version.ensures;
      rows_small = rows-small c.args.image.now c.read.result (λ i. let b = c.type_inv.image i in omega arith) j.some c.read.ensures;
    }

pub returns-then-not-fit : goal.returns-then-not-fit
returns-then-not-fit c = search judge-head depth 14

pub returns-then-not-contents_keep : goal.returns-then-not-contents_keep
returns-then-not-contents_keep c = search judge-contents depth 14

pub returns : goal.returns
returns c = search judge-accepts depth 14
