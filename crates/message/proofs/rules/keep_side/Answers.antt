-- `message::rules::keep_side` meets its contract.
use mathlib.Core.Path.{refl}
use Rattle.message.specs.Layout.{priced, price, holds, keeps_all}
use Rattle.message.proofs.Ways.{side-kept}
use Rattle.message.proofs.rules.keep_side.Goals as goal
use Rattle.std.specs.Prelude.{option_map}

pub returns : goal.returns
unfolding keeps_all
returns g c =
    let m = c.args.m in
    side-kept m.stamp.time m.condition c.keep_head.ensures _ (holds (price g.T.Width.form.keeps) (priced (option_map g.T.Number.number m.numbers.price))) refl c.keep.ensures
