-- `reader::refusals::named` meets its contract.
use borrow.Author.Rules.{rules}
use borrow.Author.Tests.{ne_eqb}
use Rattle.packet.proofs.Rules.{if_no}
use Rattle.reader.specs.Refusals.{named, named_in}
use Rattle.reader.proofs.Ways.{named-at}
use Rattle.reader.proofs.refusals.named.Goals as goal

pub returns-in-1 : goal.returns-in-1
unfolding named named_in
returns-in-1 c = search named-at

pub returns-in-2 : goal.returns-in-2
unfolding named named_in
returns-in-2 c = search named-at

pub returns-in-3 : goal.returns-in-3
unfolding named named_in
returns-in-3 c = search named-at

pub returns-in-4 : goal.returns-in-4
unfolding named named_in
returns-in-4 c = search named-at

pub returns-in-5 : goal.returns-in-5
unfolding named named_in
returns-in-5 c = search named-at

pub returns-in-6 : goal.returns-in-6
unfolding named named_in
returns-in-6 c = search named-at

pub returns-in-10 : goal.returns-in-10
unfolding named named_in
returns-in-10 c = search named-at

pub returns-in-11 : goal.returns-in-11
unfolding named named_in
returns-in-11 c = search named-at

pub returns-in-12 : goal.returns-in-12
unfolding named named_in
returns-in-12 c = search named-at

pub returns-in-13 : goal.returns-in-13
unfolding named named_in
returns-in-13 c = search named-at

pub returns-in-14 : goal.returns-in-14
unfolding named named_in
returns-in-14 c = search named-at

pub returns-in-15 : goal.returns-in-15
unfolding named named_in
returns-in-15 c = search named-at

pub returns-in-16 : goal.returns-in-16
unfolding named named_in
returns-in-16 c = search named-at

pub returns-in-27 : goal.returns-in-27
unfolding named named_in
returns-in-27 c = search named-at

pub returns-in_default : goal.returns-in_default
unfolding named named_in
returns-in_default c = search (if_no, ne_eqb, rules) depth 30
