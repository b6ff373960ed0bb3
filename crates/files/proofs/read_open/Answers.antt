-- What the first read brought and what the others brought lie in the memory one behind the other.
use Rattle.std.proofs.Common.{◌≡◌, ◌-◌, ◌≤◌, length, rules, arith}
use borrow.Rule.Slice.PartMut.{put_mid}
use Rattle.files.proofs.read_open.Goals as goal

pub returns-in-Ok : goal.returns-in-Ok
returns-in-Ok c =
    let first : c.in-Ok.n ≤ length c.read.new.space = search rules in
    let others : c.read_full-more.result ≤ length c.read.new.space - c.in-Ok.n = search rules in
    let whole : length (put_mid c.in-Ok.n (length c.read.new.space - c.in-Ok.n) c.read.new.space c.read_full-more.new.space) ≡ length c.read.new.space = search rules in
    omega (arith, first, others, whole)
