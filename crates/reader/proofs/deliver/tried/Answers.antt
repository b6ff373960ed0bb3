-- `reader::deliver::tried` meets its contract.
use borrow.Author.Rules.{rules}
use mathlib.Core.Path.{◌≡◌}
use Rattle.std.specs.Prelude.{Ok, Err}
use Rattle.std.proofs.lemmas.Result.{err_from_is_err_and}
use Rattle.table.specs.Memory.{Memories, memories}
use Rattle.reader.proofs.Delivered.{tried-empty, tried-bad, tried-applied}
use Rattle.reader.proofs.deliver.tried.Goals as goal

pub returns-then-body-eq0 : goal.returns-then-body-eq0
returns-then-body-eq0 c = search (tried-empty, rules)

pub returns-in_err-test : goal.returns-in_err-test
returns-in_err-test c =
    let memory : Memories = memories c.args.table.now c.args.index.now in
    let p = err_from_is_err_and c.from_residual.result c.from_residual.ensures.1 in
    let f : c.test.result ≡ Err c.in_err-test.field-0.0 = c.in_err-test.was in
    rw p.1 (tried-bad c.args.handle.now memory c.requires.0 (search rules) c.args.body.now p.0 c.test.ensures f p.2)

pub returns : goal.returns
returns c =
    let memory : Memories = memories c.args.table.now c.args.index.now in
    let f : c.test.result ≡ Ok (tt {0}) = c.in_ok-test.was in
    tried-applied c.args.handle.now memory c.requires.0 (search rules) c.args.body.now c.test.ensures f _ (memories _ _) c.apply.ensures
