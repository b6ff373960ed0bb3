-- `message::put::message` meets its contract.
use borrow.Author.Rules.{rules}
use Rattle.message.specs.Message.{bytes_of}
use Rattle.message.specs.declared.Message.TheVariants as message
use Rattle.message.proofs.Amounts.{same-price}
use Rattle.message.proofs.Ways.{room-for, put_as}
use Rattle.message.proofs.put.message.Goals as goal

pub system_event-requires : goal.system_event-requires
system_event-requires c = room-for _ _ c.in-SystemEvent.is c.requires

pub directory-requires : goal.directory-requires
directory-requires c = room-for _ _ c.in-Directory.is c.requires

pub trading_action-requires : goal.trading_action-requires
trading_action-requires c = room-for _ _ c.in-TradingAction.is c.requires

pub quote-requires : goal.quote-requires
quote-requires c = room-for _ _ c.in-ShortQuote.is c.requires

pub quote-requires-in-LongQuote : goal.quote-requires-in-LongQuote
quote-requires-in-LongQuote c = room-for _ _ c.in-LongQuote.is c.requires

pub side-requires : goal.side-requires
side-requires c = room-for _ _ c.in-ShortSide.is c.requires

pub side-requires-in-LongSide : goal.side-requires-in-LongSide
side-requires-in-LongSide c = room-for _ _ c.in-LongSide.is c.requires

pub end_of_replay-requires : goal.end_of_replay-requires
end_of_replay-requires c = room-for _ _ c.in-EndOfReplay.is c.requires

pub returns-in-SystemEvent : goal.returns-in-SystemEvent
unfolding bytes_of
returns-in-SystemEvent c = search (put_as, rules)

pub returns-in-Directory : goal.returns-in-Directory
unfolding bytes_of
returns-in-Directory c = search (put_as, rules)

pub returns-in-TradingAction : goal.returns-in-TradingAction
unfolding bytes_of
returns-in-TradingAction c = search (put_as, rules)

pub returns-in-ShortQuote : goal.returns-in-ShortQuote
unfolding bytes_of
returns-in-ShortQuote c = put_as (message.ShortQuote c.in-ShortQuote.m) c.args.texts c.args.out.now c.in-ShortQuote.is (simp same-price at c.quote.ensures)

pub returns-in-LongQuote : goal.returns-in-LongQuote
unfolding bytes_of
returns-in-LongQuote c = put_as (message.LongQuote c.in-LongQuote.m) c.args.texts c.args.out.now c.in-LongQuote.is (simp same-price at c.quote-in-LongQuote.ensures)

pub returns-in-ShortSide : goal.returns-in-ShortSide
unfolding bytes_of
returns-in-ShortSide c = put_as (message.ShortSide c.in-ShortSide.m) c.args.texts c.args.out.now c.in-ShortSide.is (rw (same-price c.in-ShortSide.m.numbers.price) at c.side.ensures)

pub returns-in-LongSide : goal.returns-in-LongSide
unfolding bytes_of
returns-in-LongSide c = put_as (message.LongSide c.in-LongSide.m) c.args.texts c.args.out.now c.in-LongSide.is (rw (same-price c.in-LongSide.m.numbers.price) at c.side-in-LongSide.ensures)

pub returns-in-EndOfReplay : goal.returns-in-EndOfReplay
unfolding bytes_of
returns-in-EndOfReplay c = search (put_as, rules)
