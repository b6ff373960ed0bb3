-- `message::judge::side` meets its contract.
use mathlib.Core.Path.{refl, ap, ◌∙◌}
use Rattle.message.specs.Layout.{values}
use Rattle.message.specs.Letters.{side_letter, no_texts}
use Rattle.message.specs.Message.{accepted}
use Rattle.message.proofs.Ways.{judged-yes, judged-no}
use Rattle.message.proofs.judge.side.Goals as goal

pub returns-then-keep_side : goal.returns-then-keep_side
unfolding values
returns-then-keep_side g c =
    judged-yes (side_letter g.T.Number.width g.T.Width.form c.args.side) _ g.T.Width.form.side _ refl c.keep_side.ensures c.if-keep_side.true c.side.ensures (c.whole.ensures ∙ ap (λ m. accepted m no_texts) c.side-then-keep_side.ensures)

pub returns : goal.returns
unfolding values
returns g c = judged-no (side_letter g.T.Number.width g.T.Width.form c.args.side) _ c.keep_side.ensures c.if-keep_side.false c.refuse.ensures
