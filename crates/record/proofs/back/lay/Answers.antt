-- `record::back::lay` meets its contract.
use Rattle.message.specs.Layout.{values}
use Rattle.record.specs.Record.{laid}
use Rattle.message.specs.Feed.{letter_among}
use Rattle.message.specs.Letters.{letters}
use Rattle.message.proofs.Table.{last_arm}
use Rattle.record.specs.Places.{record_letters}
use Rattle.record.proofs.Moved.{back-arm, back-room}
use Rattle.record.proofs.back.lay.Goals as goal

pub system_event-requires : goal.system_event-requires
unfolding letters letter_among
system_event-requires c = back-room 83 _ _ c.in-83.is c.requires.1

pub directory-requires : goal.directory-requires
unfolding letters letter_among
directory-requires c = back-room 109 _ _ c.in-109.is c.requires.1

pub head-requires : goal.head-requires
unfolding letters letter_among
head-requires c = back-room 72 _ _ c.in-72.is c.requires.1

pub quote-requires : goal.quote-requires
unfolding letters letter_among
quote-requires c = back-room 113 _ _ c.in-113.is c.requires.1

pub quote-requires-in-81 : goal.quote-requires-in-81
unfolding letters letter_among
quote-requires-in-81 c = back-room 81 _ _ c.in-81.is c.requires.1

pub side-requires : goal.side-requires
unfolding letters letter_among
side-requires c = back-room 98 _ _ c.in-98.is c.requires.1

pub side-requires-in-97 : goal.side-requires-in-97
unfolding letters letter_among
side-requires-in-97 c = back-room 97 _ _ c.in-97.is c.requires.1

pub side-requires-in-66 : goal.side-requires-in-66
unfolding letters letter_among
side-requires-in-66 c = back-room 66 _ _ c.in-66.is c.requires.1

pub side-requires-in-65 : goal.side-requires-in-65
unfolding letters letter_among
side-requires-in-65 c = back-room 65 _ _ c.in-65.is c.requires.1

pub end_of_replay-requires : goal.end_of_replay-requires
unfolding letters letter_among
end_of_replay-requires c =
    let r = c.in_default.in_default-own.rest in
    back-room 77 _ _ (last_arm _ r.0.0.0.0.0.0.0.0.1 r.0.0.0.0.0.0.0.1 r.0.0.0.0.0.0.1 r.0.0.0.0.0.1 r.0.0.0.0.1 r.0.0.0.1 r.0.0.1 r.0.1 r.1 c.requires.0) c.requires.1

pub returns-in-83 : goal.returns-in-83
unfolding letters record_letters letter_among
returns-in-83 c = back-arm 83 _ _ _ c.in-83.is c.system_event.ensures

pub returns-in-109 : goal.returns-in-109
unfolding letters record_letters letter_among
returns-in-109 c = back-arm 109 _ _ _ c.in-109.is c.directory.ensures

pub returns-in-72 : goal.returns-in-72
unfolding letters record_letters letter_among laid values
returns-in-72 c = back-arm 72 _ _ _ c.in-72.is c.head.ensures

pub returns-in-113 : goal.returns-in-113
unfolding letters record_letters letter_among
returns-in-113 c = back-arm 113 _ _ _ c.in-113.is c.quote.ensures

pub returns-in-81 : goal.returns-in-81
unfolding letters record_letters letter_among
returns-in-81 c = back-arm 81 _ _ _ c.in-81.is c.quote-in-81.ensures

pub returns-in-98 : goal.returns-in-98
unfolding letters record_letters letter_among
returns-in-98 c = back-arm 98 _ _ _ c.in-98.is c.side.ensures

pub returns-in-97 : goal.returns-in-97
unfolding letters record_letters letter_among
returns-in-97 c = back-arm 97 _ _ _ c.in-97.is c.side-in-97.ensures

pub returns-in-66 : goal.returns-in-66
unfolding letters record_letters letter_among
returns-in-66 c = back-arm 66 _ _ _ c.in-66.is c.side-in-66.ensures

pub returns-in-65 : goal.returns-in-65
unfolding letters record_letters letter_among
returns-in-65 c = back-arm 65 _ _ _ c.in-65.is c.side-in-65.ensures

pub returns-in_default : goal.returns-in_default
unfolding letters record_letters letter_among
returns-in_default c =
    let r = c.in_default.in_default-own.rest in
    back-arm 77 _ _ _ (last_arm _ r.0.0.0.0.0.0.0.0.1 r.0.0.0.0.0.0.0.1 r.0.0.0.0.0.0.1 r.0.0.0.0.0.1 r.0.0.0.0.1 r.0.0.0.1 r.0.0.1 r.0.1 r.1 c.requires.0) c.end_of_replay.ensures
