-- `record::wire::numbers` meets its contract.
use mathlib.Core.Path.{sym, ap, ◌∙◌}
use native.Mathlib.Omega.{arith}
use Prim.Native.Nat.{ℕ, ◌+◌, ◌-◌}
use Rattle.message.specs.Layout.{values}
use Rattle.message.specs.Letters.{numbers_rows}
use Rattle.record.specs.Places.{low_places}
use Rattle.record.specs.Record.{laid}
use Rattle.record.proofs.Moved.{numbers-moved, long-moved}
use Rattle.record.proofs.wire.numbers.Goals as goal

pub returns-then-size-eq4 : goal.returns-then-size-eq4
returns-then-size-eq4 g c =
    long-moved g.T.Number.width g.T.Width.form.keeps (sym c.size-size.ensures.0 ∙ c.if-size-eq4.true) c.args.bytes.now c.args.out.now c.args.at c.args.from (omega arith) c.carry_long.ensures

pub returns : goal.returns
returns g c =
    let w = g.T.Number.width in
    numbers-moved w g.T.Width.form.keeps c.args.out.now c.args.bytes.now c.type_inv.bytes c.size-size.ensures.0 (c.args.at + (4 - c.size-size.result)) c.args.from c.requires.0
    c.read.ensures c.write.ensures c.read-2.ensures c.write-2.ensures c.read-3.ensures c.write-3.ensures c.read-4.ensures c.write-4.ensures c.read-5.ensures c.write-5.ensures
    ∙ ap (λ (k : ℕ). laid (low_places w (c.args.at + (4 - k))) (values (numbers_rows w g.T.Width.form.keeps c.args.from) c.args.bytes.now) c.args.out.now) c.size-size.ensures.0
