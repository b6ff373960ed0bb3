-- `row::wire::put_quote` meets its contract.
use mathlib.Core.Path.{refl}
use native.Mathlib.Omega.{arith}
use borrow.Author.Rules.{rules}
use Rattle.message.specs.Feed.{letter_among}
use Rattle.message.specs.Test.{quote_length, quote_letters}
use Rattle.row.proofs.Wired.{head-room, arm-room, last-room, quote-wire, arm-b, arm-a, arm-q, arm-B, arm-A, arm-Q}
use Rattle.row.proofs.wire.put_quote.Goals as goal

pub read-requires : goal.read-requires
read-requires c = head-room c.args.bytes.now c.requires.1.0 c.requires.1.1

pub put_stamp-requires : goal.put_stamp-requires
put_stamp-requires c = (search rules, omega (arith, head-room c.args.bytes.now c.requires.1.0 c.requires.1.1))

pub put_short_side-requires : goal.put_short_side-requires
unfolding quote_length quote_letters letter_among
put_short_side-requires c = (search rules, arm-room 98 26 c.args.bytes.now c.in-98.is c.requires.1.1 refl)

pub put_short_side-requires-in-97 : goal.put_short_side-requires-in-97
unfolding quote_length quote_letters letter_among
put_short_side-requires-in-97 c = (search rules, arm-room 97 26 c.args.bytes.now c.in-97.is c.requires.1.1 refl)

pub put_short_both-requires : goal.put_short_both-requires
unfolding quote_length quote_letters letter_among
put_short_both-requires c = (search rules, arm-room 113 36 c.args.bytes.now c.in-113.is c.requires.1.1 refl)

pub put_long_side-requires : goal.put_long_side-requires
unfolding quote_length quote_letters letter_among
put_long_side-requires c = (search rules, arm-room 66 36 c.args.bytes.now c.in-66.is c.requires.1.1 refl)

pub put_long_side-requires-in-65 : goal.put_long_side-requires-in-65
unfolding quote_length quote_letters letter_among
put_long_side-requires-in-65 c = (search rules, arm-room 65 36 c.args.bytes.now c.in-65.is c.requires.1.1 refl)

pub put_long_both-requires : goal.put_long_both-requires
put_long_both-requires c = let r = c.in_default.in_default-own.rest in (search rules, last-room c.args.bytes.now r.0.0.0.0.1 r.0.0.0.1 r.0.0.1 r.0.1 r.1 c.requires.1.0 c.requires.1.1)

pub returns-in-98 : goal.returns-in-98
returns-in-98 c =
    quote-wire c.args.row.now c.args.bytes.now c.requires.0 c.read.ensures c.write.ensures c.put_stamp.ensures _ (arm-b _ c.in-98.is) c.put_short_side.ensures

pub returns-in-97 : goal.returns-in-97
returns-in-97 c =
    quote-wire c.args.row.now c.args.bytes.now c.requires.0 c.read.ensures c.write.ensures c.put_stamp.ensures _ (arm-a _ c.in-97.is) c.put_short_side-in-97.ensures

pub returns-in-113 : goal.returns-in-113
returns-in-113 c =
    quote-wire c.args.row.now c.args.bytes.now c.requires.0 c.read.ensures c.write.ensures c.put_stamp.ensures _ (arm-q _ c.in-113.is) c.put_short_both.ensures

pub returns-in-66 : goal.returns-in-66
returns-in-66 c =
    quote-wire c.args.row.now c.args.bytes.now c.requires.0 c.read.ensures c.write.ensures c.put_stamp.ensures _ (arm-B _ c.in-66.is) c.put_long_side.ensures

pub returns-in-65 : goal.returns-in-65
returns-in-65 c =
    quote-wire c.args.row.now c.args.bytes.now c.requires.0 c.read.ensures c.write.ensures c.put_stamp.ensures _ (arm-A _ c.in-65.is) c.put_long_side-in-65.ensures

pub returns-in_default : goal.returns-in_default
returns-in_default c =
    let r = c.in_default.in_default-own.rest in
    quote-wire c.args.row.now c.args.bytes.now c.requires.0 c.read.ensures c.write.ensures c.put_stamp.ensures _ (arm-Q _ r.0.0.0.0.1 r.0.0.0.1 r.0.0.1 r.0.1 r.1) c.put_long_both.ensures
