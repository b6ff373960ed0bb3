-- `record::say::message` meets its contract.
use Rattle.message.specs.Feed.{letter_among}
use Rattle.record.specs.Places.{record_letters}
use Rattle.record.proofs.Ways.{arm, no_arm}
use Rattle.record.proofs.say.message.Goals as goal

pub returns-in-83 : goal.returns-in-83
unfolding record_letters letter_among
returns-in-83 c = arm 83 _ _ c.in-83.is c.system_event.ensures

pub returns-in-109 : goal.returns-in-109
unfolding record_letters letter_among
returns-in-109 c = arm 109 _ _ c.in-109.is c.directory.ensures

pub returns-in-72 : goal.returns-in-72
unfolding record_letters letter_among
returns-in-72 c = arm 72 _ _ c.in-72.is c.trading_action.ensures

pub returns-in-113 : goal.returns-in-113
unfolding record_letters letter_among
returns-in-113 c = arm 113 _ _ c.in-113.is c.quote.ensures

pub returns-in-81 : goal.returns-in-81
unfolding record_letters letter_among
returns-in-81 c = arm 81 _ _ c.in-81.is c.quote-in-81.ensures

pub returns-in-98 : goal.returns-in-98
unfolding record_letters letter_among
returns-in-98 c = arm 98 _ _ c.in-98.is c.side.ensures

pub returns-in-97 : goal.returns-in-97
unfolding record_letters letter_among
returns-in-97 c = arm 97 _ _ c.in-97.is c.side-in-97.ensures

pub returns-in-66 : goal.returns-in-66
unfolding record_letters letter_among
returns-in-66 c = arm 66 _ _ c.in-66.is c.side-in-66.ensures

pub returns-in-65 : goal.returns-in-65
unfolding record_letters letter_among
returns-in-65 c = arm 65 _ _ c.in-65.is c.side-in-65.ensures

pub returns-in-77 : goal.returns-in-77
unfolding record_letters letter_among
returns-in-77 c = arm 77 _ _ c.in-77.is c.end_of_replay.ensures

pub returns-in_default : goal.returns-in_default
returns-in_default c = let r = c.in_default.in_default-own.rest in no_arm _ _ r.0.0.0.0.0.0.0.0.0.1 r.0.0.0.0.0.0.0.0.1 r.0.0.0.0.0.0.0.1 r.0.0.0.0.0.0.1 r.0.0.0.0.0.1 r.0.0.0.0.1 r.0.0.0.1 r.0.0.1 r.0.1 r.1 c.none.ensures
