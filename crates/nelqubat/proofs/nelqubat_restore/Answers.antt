-- `nelqubat::nelqubat_restore` meets its contract.
use borrow.Author.Rules.{rules}
use Rattle.table.specs.Memory.{Memories, memories}
use Rattle.handle.proofs.Rounds.{HeadFits}
use Rattle.nelqubat.proofs.Ways.{start_none, restore-unfit, restore-goes, restore-on}
use Rattle.nelqubat.proofs.nelqubat_restore.Goals as goal

-- the head of what comes back has room in its fields

pub returns-then-handle-ne-HANDLE_SIZE : goal.returns-then-handle-ne-HANDLE_SIZE
returns-then-handle-ne-HANDLE_SIZE c = let memory : Memories = memories c.args.table.now c.args.index.now in record { host_restores = search restore-unfit; restores_on = start_none c.args.handle.now memory c.if-handle-ne-HANDLE_SIZE.true }

pub returns : goal.returns
returns c =
    let memory : Memories = memories c.args.table.now c.args.index.now in
    let fits : HeadFits c.head.result = record {
      session = search (rules, c.head.type_inv.1.1.0);
      next = search (rules, c.head.type_inv.1.1.0);
      live = search (rules, c.head.type_inv.1.1.1.0);
      rows = search (rules, c.head.type_inv.1.1.1.0);
      used = search (rules, c.head.type_inv.1.1.1.1);
      refusal = search (rules, c.head.type_inv.1.1.1.1);
      event = search (rules, c.head.type_inv.1.1.1.0);
    } in record { host_restores = restore-goes c.args.handle.now memory c.args.saved.now _ (memories _ _) c.restore-restored.result c.head.result c.if-handle-ne-HANDLE_SIZE.false c.restore-restored.ensures c.head.ensures c.put_unheld.ensures c.verdict_number.ensures; restores_on = restore-on c.args.handle.now memory c.args.saved.now _ (memories _ _) c.restore-restored.result c.head.result fits c.restore-restored.ensures c.head.ensures c.put_unheld.ensures }
