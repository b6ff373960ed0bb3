-- `message::test::fields_keep` meets its contract.
use native.Mathlib.Omega.{arith}
use Rattle.message.specs.Letters.{letters}
use Rattle.message.specs.Feed.{letter_among}
use Rattle.message.proofs.Table.{room}
use borrow.Author.Rules.{rules}
use Rattle.field.specs.Bytes.{part}
use Rattle.message.proofs.Tested.{number-room, event-tested, directory-tested, action-tested, number-tested}
use Rattle.message.proofs.test.fields_keep.Goals as goal

pub time_keeps-requires : goal.time_keeps-requires
unfolding letters letter_among
time_keeps-requires c = omega (arith, room 83 _ _ c.in-83.is c.requires.1)

pub read-requires : goal.read-requires
unfolding letters letter_among
read-requires c = room 83 _ _ c.in-83.is c.requires.1

pub time_keeps-requires-in-109 : goal.time_keeps-requires-in-109
unfolding letters letter_among
time_keeps-requires-in-109 c = omega (arith, room 109 _ _ c.in-109.is c.requires.1)

pub slice_bounds-keep_bytes-end : goal.slice_bounds-keep_bytes-end
unfolding letters letter_among
slice_bounds-keep_bytes-end c = room 109 _ _ c.in-109.is c.requires.1

pub time_keeps-requires-in-72 : goal.time_keeps-requires-in-72
unfolding letters letter_among
time_keeps-requires-in-72 c = omega (arith, room 72 _ _ c.in-72.is c.requires.1)

pub read-requires-in-72 : goal.read-requires-in-72
unfolding letters letter_among
read-requires-in-72 c = room 72 _ _ c.in-72.is c.requires.1

pub number-requires : goal.number-requires
number-requires c = search (number-room, rules)

pub returns-in-83 : goal.returns-in-83
returns-in-83 c = search (event-tested, rules)

pub returns-in-109 : goal.returns-in-109
unfolding part
returns-in-109 c = search (directory-tested, rules)

pub returns-in-72 : goal.returns-in-72
returns-in-72 c = search (action-tested, rules)

pub returns-in_default : goal.returns-in_default
returns-in_default c = search (number-tested, rules)
