-- `message::judge::keep_quote` meets its contract.
use mathlib.Core.Path.{◌≡◌, ap, ◌∙◌}
use native.Mathlib.Omega.{arith}
use Prim.Native.Nat.{ℕ, ◌+◌, ◌*◌}
use Rattle.field.specs.Bytes.{part, be}
use Rattle.message.specs.Layout.{values, keeps_all}
use Rattle.message.specs.Letters.{whole_quote_rows}
use Rattle.message.proofs.Layouts.{read-as-numbers}
use Rattle.message.proofs.Ways.{quote-kept, both-are}
use Rattle.message.proofs.judge.keep_quote.Goals as goal

pub returns : goal.returns
unfolding values keeps_all
returns g c =
    let bs = c.args.bytes.now in
    let w = g.T.Number.width in
    let keeps = g.T.Width.form.keeps in
    let k = c.size-size.result in
    let wide : k ≡ w = c.size-size.ensures.0 in
    let bid : 16 + k ≡ 16 + w = omega arith in
    let ask : 16 + 6 * k ≡ 16 + 5 * w + w = omega arith in
    quote-kept (be (part bs 3 8)) (be (part bs 15 1)) c.keep_head.ensures _ (keeps (be (part bs (16 + w) w))) (keeps (be (part bs (16 + 5 * w + w) w))) (read-as-numbers (whole_quote_rows w keeps) bs)
    (both-are (c.price_keeps.ensures ∙ ap (λ (j : ℕ). keeps (be (part bs j w))) bid) (c.price_keeps-2.ensures ∙ ap (λ (j : ℕ). keeps (be (part bs j w))) ask))
