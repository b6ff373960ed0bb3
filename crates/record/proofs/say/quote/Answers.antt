-- `record::say::quote` meets its contract.
use mathlib.Core.Path.{◌≡◌, ap, ◌∙◌}
use native.Mathlib.Omega.{arith}
use Rattle.message.specs.Layout.{values}
use Rattle.message.specs.Letters.{no_texts, numbers_of, map_numbers}
use Rattle.record.specs.Places.{side_places}
use Rattle.record.specs.Record.{held, said_by}
use Rattle.record.proofs.Ways.{said-as, side-at}
use Rattle.record.proofs.say.quote.Goals as goal

pub returns : goal.returns
unfolding values said_by
returns g c =
    let w = g.T.Number.width in
    let bs = c.args.bytes.now in
    let bid : map_numbers g.T.Number.number c.numbers.result ≡ numbers_of (values (side_places w 24) bs) = side-at w bs c.numbers.ensures (omega arith) in
    let ask : map_numbers g.T.Number.number c.numbers-2.result ≡ numbers_of (values (side_places w 44) bs) = side-at w bs c.numbers-2.ensures (omega arith) in
    c.bare.ensures ∙ ap (λ m. held m no_texts) c.quote.ensures ∙ said-as g.T.Width.form.quote (λ i. record {
      stamp = c.stamp.ensures i;
      id = c.read.ensures i;
      condition = c.read-2.ensures i;
      bid = bid i;
      ask = ask i;
    })
