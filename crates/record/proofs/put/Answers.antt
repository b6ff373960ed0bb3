-- `record::put` meets its contract.
use borrow.Author.Rules.{rules}
use Rattle.record.proofs.Joined.{tested-sized, wire-put}
use Rattle.record.proofs.put.Goals as goal

pub lay-requires : goal.lay-requires
lay-requires c = search (tested-sized, rules)

pub returns : goal.returns
returns c = search (wire-put, rules)
