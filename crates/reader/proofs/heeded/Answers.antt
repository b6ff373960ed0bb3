-- `reader::heeded` meets its contract.
use mathlib.Core.Path.{ap, ◌∙◌}
use borrow.Author.Tests.{eq-eqb, ne_eqb}
use Rattle.handle.specs.Handle.{used_field, with_field}
use Rattle.reader.proofs.heeded.Goals as goal

pub returns-then-number-ne-UNFIT : goal.returns-then-number-ne-UNFIT
returns-then-number-ne-UNFIT c = record { number = rw (ne_eqb _ 2068 c.if-number-ne-UNFIT.true); handle_after = rw (ne_eqb _ 2068 c.if-number-ne-UNFIT.true) }

pub returns : goal.returns
returns c =
    let e = eq-eqb _ 2068 c.if-number-ne-UNFIT.false in record { number = rw e; handle_after = rw e (c.put_used.ensures ∙ ap (with_field used_field c.args.used) c.put_refusal.ensures) }
