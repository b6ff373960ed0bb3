-- `reader::Reader::step` meets its contract.
use borrow.Author.Rules.{rules, elem_Fits}
use mathlib.Core.Path.{◌≡◌}
use Prim.Native.Nat.{ℕ}
use lib.ListN.{length, length-replicate}
use mir.Syntax.{w8}
use Rattle.field.specs.Bytes.{Bytes}
use Rattle.packet.specs.Frame.{held_size}
use Rattle.record.specs.Places.{record_size}
use Rattle.handle.proofs.Rounds.{HeadFits}
use Rattle.table.specs.Memory.{memories}
use Rattle.reader.specs.View.{head_part}
use Rattle.reader.proofs.Back.{by_value}
use Rattle.reader.proofs.Reader.step.Goals as goal

-- what the code holds has room in its fields

pub returns : goal.returns
returns c =
    let long : length c.args.self.held ≡ held_size = search rules in
    let fits : HeadFits (head_part c.args.self) = record {
      session = search rules;
      next = search rules;
      live = search rules;
      rows = search rules;
      used = search rules;
      refusal = search rules;
      event = search rules;
    } in
    let ok = c.laid-handle.type_inv in
    let bytes : Bytes c.laid-handle.result = λ i. (elem_Fits w8 w8 c.laid-handle.result ok.0 i ok.1.1 tt).fits in
    by_value c.args.self c.read.result c.laid-handle.result (memories c.args.table.now c.args.index.now) c.args.piece.now _ _ _ _ c.step-number.result c.read_back-heard.result fits long (length-replicate {A = ℕ} record_size 0) bytes (λ i. (c.type_inv.piece i).fits) c.laid-handle.ensures c.step-number.ensures.host_steps c.read_back-heard.ensures c.read.ensures
