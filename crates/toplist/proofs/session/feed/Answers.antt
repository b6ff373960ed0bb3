-- Each turn is a run into what is left of the piece, and where no more is taken the reader stands as after the whole of it.
use Rattle.std.proofs.Common.{ℕ, ◌-◌, ◌≡◌, ◌<◌, length, arith, subst, true, false}
use Rattle.table.specs.Memory.{memories}
use Rattle.toplist.specs.Feeding.{takes_more}
use Rattle.toplist.proofs.Feeding.{Along, begins, from-within, goes_on, ends}
use Rattle.toplist.proofs.session.feed.Goals as goal

pub returns-then-not-takes_more : goal.returns-then-not-takes_more
returns-then-not-takes_more c o =
    let refused : takes_more c.loop.reached.reader ≡ false = cc in
    ends c.args.reader (memories c.args.table.now c.args.index.now) c.args.piece.now c.loop.reached (memories c.loop.table c.loop.index) _
    c.loop.invariant.within (λ e. absurd cc) (c.loop.invariant.along o)

pub returns-then-reached-piece : goal.returns-then-reached-piece
returns-then-reached-piece c o =
    ends c.args.reader (memories c.args.table.now c.args.index.now) c.args.piece.now c.loop.reached (memories c.loop.table c.loop.index) _
    c.loop.invariant.within (λ e. omega (arith, c.if-reached-piece.true)) (c.loop.invariant.along o)

pub loop-init : goal.loop-init
loop-init c = record {
  within = omega arith;
  along = λ o.
      subst (λ (turns : ℕ). Along c.args.reader (memories c.args.table.now c.args.index.now) c.args.piece.now (record { reader = c.args.reader; at = 0 }) (memories c.args.table.now c.args.index.now) turns)
      (omega arith) (begins c.args.reader (memories c.args.table.now c.args.index.now) c.args.piece.now o);
}

pub loop-preserved : goal.loop-preserved
loop-preserved c =
    let more : takes_more c.loop.reached.reader ≡ true = cc in
    let some : c.loop.reached.at < length c.args.piece.now = omega (arith, c.loop.invariant.within, c.if-reached-piece.false) in
    record {
      within = from-within c.args.piece.now (memories c.loop.table c.loop.index) c.loop.reached c.run_from-reached.result _ c.loop.invariant.within c.run_from-reached.ensures;
      along = λ o.
          subst (λ (turns : ℕ). Along c.args.reader (memories c.args.table.now c.args.index.now) c.args.piece.now c.run_from-reached.result (memories c.run_from-reached.new.table c.run_from-reached.new.index) turns)
          (omega arith)
          (goes_on c.args.reader (memories c.args.table.now c.args.index.now) c.args.piece.now c.loop.reached c.run_from-reached.result
          (memories c.loop.table c.loop.index) _ (length c.args.piece.now - c.loop.counter) (λ i. omega (arith, c.type_inv.piece i)) more some c.run_from-reached.ensures
          (omega (arith, c.loop-test.true)) (c.loop.invariant.along o));
    }

pub returns : goal.returns
returns c o =
    let along = c.loop.invariant.along o in
    ends c.args.reader (memories c.args.table.now c.args.index.now) c.args.piece.now c.loop.reached (memories c.loop.table c.loop.index) _
    c.loop.invariant.within (λ e. omega (arith, c.loop-test.false, along.room e)) along
