-- `message::rules::keep_quote` meets its contract.
use mathlib.Core.Path.{refl}
use Rattle.message.specs.Layout.{priced, price, holds, keeps_all}
use Rattle.message.proofs.Ways.{quote-kept, both-are}
use Rattle.message.proofs.rules.keep_quote.Goals as goal
use Rattle.std.specs.Prelude.{option_map}

pub returns : goal.returns
unfolding keeps_all
returns g c =
    let m = c.args.m in
    let f = g.T.Number.number in
    let keeps = g.T.Width.form.keeps in
    quote-kept m.stamp.time m.condition c.keep_head.ensures _ (holds (price keeps) (priced (option_map f m.bid.price))) (holds (price keeps) (priced (option_map f m.ask.price))) refl
    (both-are c.keep.ensures c.keep-2.ensures)
