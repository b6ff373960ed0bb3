-- `message::judge::message` meets its contract.
use Rattle.message.specs.Feed.{letter_among}
use Rattle.message.specs.Letters.{letters}
use Rattle.message.proofs.Table.{arm, room, last_arm}
use Rattle.message.proofs.judge.message.Goals as goal

pub system_event-requires : goal.system_event-requires
unfolding letters letter_among
system_event-requires c = room 83 _ _ c.in-83.is c.requires

pub directory-requires : goal.directory-requires
unfolding letters letter_among
directory-requires c = room 109 _ _ c.in-109.is c.requires

pub trading_action-requires : goal.trading_action-requires
unfolding letters letter_among
trading_action-requires c = room 72 _ _ c.in-72.is c.requires

pub quote-requires : goal.quote-requires
unfolding letters letter_among
quote-requires c = room 113 _ _ c.in-113.is c.requires

pub quote-requires-in-81 : goal.quote-requires-in-81
unfolding letters letter_among
quote-requires-in-81 c = room 81 _ _ c.in-81.is c.requires

pub side-requires : goal.side-requires
unfolding letters letter_among
side-requires c = room 98 _ _ c.in-98.is c.requires

pub side-requires-in-97 : goal.side-requires-in-97
unfolding letters letter_among
side-requires-in-97 c = room 97 _ _ c.in-97.is c.requires

pub side-requires-in-66 : goal.side-requires-in-66
unfolding letters letter_among
side-requires-in-66 c = room 66 _ _ c.in-66.is c.requires

pub side-requires-in-65 : goal.side-requires-in-65
unfolding letters letter_among
side-requires-in-65 c = room 65 _ _ c.in-65.is c.requires

pub end_of_replay-requires : goal.end_of_replay-requires
unfolding letters letter_among
end_of_replay-requires c = let r = c.in_default.in_default-own.rest in room 77 _ _ (last_arm _ r.0.0.0.0.0.0.0.0.1 r.0.0.0.0.0.0.0.1 r.0.0.0.0.0.0.1 r.0.0.0.0.0.1 r.0.0.0.0.1 r.0.0.0.1 r.0.0.1 r.0.1 r.1 c.requires.is_listed) c.requires

pub returns-in-83 : goal.returns-in-83
unfolding letters letter_among
returns-in-83 c = arm 83 _ _ c.in-83.is c.system_event.ensures

pub returns-in-109 : goal.returns-in-109
unfolding letters letter_among
returns-in-109 c = arm 109 _ _ c.in-109.is c.directory.ensures

pub returns-in-72 : goal.returns-in-72
unfolding letters letter_among
returns-in-72 c = arm 72 _ _ c.in-72.is c.trading_action.ensures

pub returns-in-113 : goal.returns-in-113
unfolding letters letter_among
returns-in-113 c = arm 113 _ _ c.in-113.is c.quote.ensures

pub returns-in-81 : goal.returns-in-81
unfolding letters letter_among
returns-in-81 c = arm 81 _ _ c.in-81.is c.quote-in-81.ensures

pub returns-in-98 : goal.returns-in-98
unfolding letters letter_among
returns-in-98 c = arm 98 _ _ c.in-98.is c.side.ensures

pub returns-in-97 : goal.returns-in-97
unfolding letters letter_among
returns-in-97 c = arm 97 _ _ c.in-97.is c.side-in-97.ensures

pub returns-in-66 : goal.returns-in-66
unfolding letters letter_among
returns-in-66 c = arm 66 _ _ c.in-66.is c.side-in-66.ensures

pub returns-in-65 : goal.returns-in-65
unfolding letters letter_among
returns-in-65 c = arm 65 _ _ c.in-65.is c.side-in-65.ensures

pub returns-in_default : goal.returns-in_default
unfolding letters letter_among
returns-in_default c = let r = c.in_default.in_default-own.rest in arm 77 _ _ (last_arm _ r.0.0.0.0.0.0.0.0.1 r.0.0.0.0.0.0.0.1 r.0.0.0.0.0.0.1 r.0.0.0.0.0.1 r.0.0.0.0.1 r.0.0.0.1 r.0.0.1 r.0.1 r.1 c.requires.is_listed) c.end_of_replay.ensures
