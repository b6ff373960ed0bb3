-- `message::judge::keep_side` meets its contract.
use mathlib.Core.Path.{ap, ◌∙◌}
use Prim.Native.Nat.{ℕ, ◌+◌}
use Rattle.field.specs.Bytes.{part, be}
use Rattle.message.specs.Layout.{values, keeps_all}
use Rattle.message.specs.Letters.{one_side_rows}
use Rattle.message.proofs.Layouts.{read-as-numbers}
use Rattle.message.proofs.Ways.{side-kept}
use Rattle.message.proofs.judge.keep_side.Goals as goal

pub returns : goal.returns
unfolding values keeps_all
returns g c =
    let bs = c.args.bytes.now in
    let w = g.T.Number.width in
    let keeps = g.T.Width.form.keeps in
    side-kept (be (part bs 3 8)) (be (part bs 15 1)) c.keep_head.ensures _ (keeps (be (part bs (16 + w) w))) (read-as-numbers (one_side_rows w keeps) bs)
    (c.price_keeps.ensures ∙ ap (λ (k : ℕ). keeps (be (part bs (16 + k) w))) c.size.ensures.0)
