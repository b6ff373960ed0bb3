-- `field::decimal::write_digits` meets its contract. The digits from i on are written, and `rest` has those before them.
use borrow.Author.Rules.{rules}
use Rattle.field.proofs.Decimals.{rest-turn, write-turn, rest-none-yet, write-none-yet, write-all}
use Rattle.field.proofs.decimal.write_digits.Goals as goal

pub loop-i-init : goal.loop-i-init
loop-i-init c = (rest-none-yet c.args.n c.args.v, write-none-yet c.args.out.now c.args.at c.args.n c.args.v)

pub loop-i-preserved : goal.loop-i-preserved
loop-i-preserved c = let s = c.args in let i = c.loop-i.i in (cc (rest-turn s.out.now s.at s.n s.v i (search rules) (search rules)), rw (c.loop-i.invariant.1, c.loop-i.invariant.0) (write-turn s.out.now s.at s.n s.v i (search rules) (search rules) (search rules)))

pub returns : goal.returns
returns c = let s = c.args in cc (write-all s.out.now s.at s.n s.v c.loop-i.i (search rules))
