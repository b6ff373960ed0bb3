-- `nelqubat::nelqubat_start` meets its contract.
use borrow.Author.Rules.{rules}
use Rattle.table.specs.Memory.{Memories, memories}
use Rattle.handle.proofs.Rounds.{HeadFits}
use Rattle.nelqubat.proofs.Ways.{start_none, start-unfit, start-goes, start-on, started-ready, started-refused}
use Rattle.nelqubat.proofs.nelqubat_start.Goals as goal

-- the head of what comes back has room in its fields

pub returns-then-handle-ne-HANDLE_SIZE : goal.returns-then-handle-ne-HANDLE_SIZE
returns-then-handle-ne-HANDLE_SIZE c = let memory : Memories = memories c.args.table.now c.args.index.now in record { host_starts = search start-unfit; starts_on = start_none c.args.handle.now memory c.if-handle-ne-HANDLE_SIZE.true }

pub returns-in-Ok : goal.returns-in-Ok
returns-in-Ok c =
    let memory : Memories = memories c.args.table.now c.args.index.now in
    let fits : HeadFits c.head.result = record {
      session = search (rules, c.head.type_inv.1.1.0);
      next = search (rules, c.head.type_inv.1.1.0);
      live = search (rules, c.head.type_inv.1.1.1.0);
      rows = search (rules, c.head.type_inv.1.1.1.0);
      used = search (rules, c.head.type_inv.1.1.1.1);
      refusal = search (rules, c.head.type_inv.1.1.1.1);
      event = search (rules, c.head.type_inv.1.1.1.0);
    } in record { host_starts = start-goes c.args.handle.now memory _ (memories _ _) c.start-started.result c.head.result c.if-handle-ne-HANDLE_SIZE.false c.start-started.ensures c.head.ensures c.put_unheld.ensures (started-ready c.in-Ok.is); starts_on = start-on c.args.handle.now memory _ (memories _ _) c.start-started.result c.head.result fits c.start-started.ensures c.head.ensures c.put_unheld.ensures }

pub returns-in-Err : goal.returns-in-Err
returns-in-Err c =
    let memory : Memories = memories c.args.table.now c.args.index.now in
    let fits : HeadFits c.head.result = record {
      session = search (rules, c.head.type_inv.1.1.0);
      next = search (rules, c.head.type_inv.1.1.0);
      live = search (rules, c.head.type_inv.1.1.1.0);
      rows = search (rules, c.head.type_inv.1.1.1.0);
      used = search (rules, c.head.type_inv.1.1.1.1);
      refusal = search (rules, c.head.type_inv.1.1.1.1);
      event = search (rules, c.head.type_inv.1.1.1.0);
    } in record { host_starts = start-goes c.args.handle.now memory _ (memories _ _) c.start-started.result c.head.result c.if-handle-ne-HANDLE_SIZE.false c.start-started.ensures c.head.ensures c.put_unheld.ensures (search started-refused); starts_on = start-on c.args.handle.now memory _ (memories _ _) c.start-started.result c.head.result fits c.start-started.ensures c.head.ensures c.put_unheld.ensures }
