-- `packet::judge` meets its contract.
use borrow.Author.Rules.{rules}
use Rattle.packet.proofs.Ways.{judge-missing, judge-place, judge-size, judge-fits, judge-meant}
use Rattle.packet.proofs.judge.Goals as goal

pub returns-then-not-in_place : goal.returns-then-not-in_place
returns-then-not-in_place c = search (judge-place, rules)

pub returns-then-not-of_size : goal.returns-then-not-of_size
returns-then-not-of_size c = search (judge-size, rules)

pub meant-requires : goal.meant-requires
meant-requires c = search (judge-fits, rules)

pub returns-in_default : goal.returns-in_default
returns-in_default c = search (judge-missing, rules)

pub returns : goal.returns
returns c = search (judge-meant, rules)
