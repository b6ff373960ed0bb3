-- `message::judge::quote` meets its contract.
use mathlib.Core.Path.{refl, ap, ◌∙◌}
use Rattle.message.specs.Layout.{values}
use Rattle.message.specs.Letters.{quote_letter, no_texts}
use Rattle.message.specs.Message.{accepted}
use Rattle.message.proofs.Ways.{judged-yes, judged-no}
use Rattle.message.proofs.judge.quote.Goals as goal

pub returns-then-keep_quote : goal.returns-then-keep_quote
unfolding values
returns-then-keep_quote g c =
    judged-yes (quote_letter g.T.Number.width g.T.Width.form) _ g.T.Width.form.quote _ refl c.keep_quote.ensures c.if-keep_quote.true c.quote.ensures (c.whole.ensures ∙ ap (λ m. accepted m no_texts) c.quote-then-keep_quote.ensures)

pub returns : goal.returns
unfolding values
returns g c = judged-no (quote_letter g.T.Number.width g.T.Width.form) _ c.keep_quote.ensures c.if-keep_quote.false c.refuse.ensures
