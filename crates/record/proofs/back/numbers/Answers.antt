-- `record::back::numbers` meets its contract.
use mathlib.Core.Path.{◌≡◌, sym, ap, ◌∙◌}
use native.Mathlib.Omega.{arith}
use Prim.Native.Nat.{ℕ, ◌+◌, ◌-◌}
use Rattle.message.specs.Layout.{values}
use Rattle.message.specs.Letters.{numbers_rows}
use Rattle.record.specs.Places.{low_places}
use Rattle.record.specs.Record.{laid}
use Rattle.record.proofs.Moved.{numbers-back, long-back}
use Rattle.record.proofs.back.numbers.Goals as goal

pub returns-then-size-eq4 : goal.returns-then-size-eq4
returns-then-size-eq4 g c =
    let four : g.T.Number.width ≡ 4 = sym c.size-size.ensures.0 ∙ c.if-size-eq4.true in
    long-back g.T.Number.width g.T.Width.form.keeps four c.args.kept.now c.args.out.now c.args.at c.args.to (omega arith) c.carry_long.ensures

pub returns : goal.returns
returns g c =
    let w = g.T.Number.width in
    let wide : c.size-size.result ≡ w = c.size-size.ensures.0 in
    numbers-back w g.T.Width.form.keeps c.args.out.now c.args.kept.now c.type_inv.kept wide (c.args.at + (4 - c.size-size.result)) c.args.to (omega (arith, c.size-size.ensures.1, c.requires.0))
    c.read.ensures c.write.ensures c.read-2.ensures c.write-2.ensures c.read-3.ensures c.write-3.ensures c.read-4.ensures c.write-4.ensures c.read-5.ensures c.write-5.ensures
    ∙ ap (λ (k : ℕ). laid (numbers_rows w g.T.Width.form.keeps c.args.to) (values (low_places w (c.args.at + (4 - k))) c.args.kept.now) c.args.out.now) wide
