-- `record::back::keep` meets its contract.
use mathlib.Core.Bool.{and-true}
use Rattle.message.specs.Layout.{values, keeps_all}
use Rattle.message.specs.Feed.{letter_among}
use Rattle.message.specs.Letters.{letters}
use Rattle.message.proofs.Amounts.{from-is-price}
use Rattle.message.proofs.Table.{last_arm}
use Rattle.record.specs.Places.{record_letters}
use Rattle.record.proofs.Sent.{event-kept, directory-kept, action-kept, short-kept, long_kept, bid-kept, ask-kept, number-kept}
use Rattle.record.proofs.back.keep.Goals as goal

pub returns-in-83 : goal.returns-in-83
returns-in-83 c = event-kept c.args.letter c.args.kept.now c.time_keeps.ensures c.in-83.is c.read.ensures c.is_event.ensures

pub returns-in-109 : goal.returns-in-109
returns-in-109 c = directory-kept c.args.letter c.args.kept.now c.time_keeps-in-109.ensures c.in-109.is c.keep_at.ensures

pub returns-in-72 : goal.returns-in-72
returns-in-72 c = action-kept c.args.letter c.args.kept.now c.time_keeps-in-72.ensures c.in-72.is c.read-in-72.ensures c.is_state.ensures

pub returns-in-113 : goal.returns-in-113
unfolding letters record_letters letter_among keeps_all values
returns-in-113 c = short-kept c.args.letter c.args.kept.now c.head_keeps.ensures 113 c.in-113.is (simp (from-is-price, and-true))

pub returns-in-81 : goal.returns-in-81
returns-in-81 c = long_kept c.args.letter c.args.kept.now c.head_keeps-in-81.ensures c.in-81.is c.price_keeps.ensures c.price_keeps-in-81.ensures

pub returns-in-98 : goal.returns-in-98
unfolding letters record_letters letter_among keeps_all values
returns-in-98 c = short-kept c.args.letter c.args.kept.now c.head_keeps-in-98.ensures 98 c.in-98.is (simp (from-is-price, and-true))

pub returns-in-97 : goal.returns-in-97
unfolding letters record_letters letter_among keeps_all values
returns-in-97 c = short-kept c.args.letter c.args.kept.now c.head_keeps-in-97.ensures 97 c.in-97.is (simp (from-is-price, and-true))

pub returns-in-66 : goal.returns-in-66
returns-in-66 c = bid-kept c.args.letter c.args.kept.now c.head_keeps-in-66.ensures c.in-66.is c.price_keeps-in-66.ensures

pub returns-in-65 : goal.returns-in-65
returns-in-65 c = ask-kept c.args.letter c.args.kept.now c.head_keeps-in-65.ensures c.in-65.is c.price_keeps-in-65.ensures

pub returns-in_default : goal.returns-in_default
returns-in_default c =
    let r = c.in_default.in_default-own.rest in
    number-kept c.args.letter c.args.kept.now (last_arm _ r.0.0.0.0.0.0.0.0.1 r.0.0.0.0.0.0.0.1 r.0.0.0.0.0.0.1 r.0.0.0.0.0.1 r.0.0.0.0.1 r.0.0.0.1 r.0.0.1 r.0.1 r.1 c.requires) c.read-in_default.ensures c.number_in_range.ensures
