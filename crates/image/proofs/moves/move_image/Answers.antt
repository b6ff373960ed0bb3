-- `image::moves::move_image` meets its contract.
use mathlib.Core.Path.{◌≡◌}
use native.Mathlib.Omega.{arith}
use Rattle.image.specs.Restore.{verdict_of}
use Rattle.std.specs.Prelude.{Ok, Err}
use Rattle.std.proofs.lemmas.Result.{err_from_is_err_and}
use Rattle.image.proofs.Writes.{sizes, count-here, move-any, move-long, move-refused, move-short, move-whole}
use Rattle.image.proofs.moves.move_image.Goals as goal

pub returns-then-out-size : goal.returns-then-out-size
returns-then-out-size c = let f : c.judge.result ≡ Ok (tt {0}) = c.in_ok-judge.was in search move-short depth 14

pub read-header-requires : goal.read-header-requires
read-header-requires c = let f : c.judge.result ≡ Ok (tt {0}) = c.in_ok-judge.was in search move-long depth 14

pub invariant_of-moving : goal.invariant_of-moving
invariant_of-moving c =
    let f : c.judge.result ≡ Ok (tt {0}) = c.in_ok-judge.was in
    let a : verdict_of c.args.image.now ≡ Ok (tt {0}) = search move-any depth 14 in
    record { judged = a; header_is = c.read-header.ensures; sizes = sizes c.args.image.now a c.read-header.result c.read-header.ensures c.args.way }

pub put_blocks-requires : goal.put_blocks-requires
put_blocks-requires c =
    let f : c.judge.result ≡ Ok (tt {0}) = c.in_ok-judge.was in
    let a : verdict_of c.args.image.now ≡ Ok (tt {0}) = search move-any depth 14 in
    let n = count-here c.args.image.now a c.read-header.result c.read-header.ensures in (omega (arith, n.1), n.0)

pub returns : goal.returns
returns c = let f : c.judge.result ≡ Ok (tt {0}) = c.in_ok-judge.was in search move-whole depth 14

pub returns-in_err-judge : goal.returns-in_err-judge
returns-in_err-judge c =
    let p = err_from_is_err_and c.from_residual.result c.from_residual.ensures.1 in
    let f : c.judge.result ≡ Err c.in_err-judge.field-0.0 = c.in_err-judge.was in
    rw (p.1, p.2) (move-refused c.args.way c.args.image.now c.args.out.now c.wanted.ensures c.judge.ensures _ f)
