-- `message::rules::keep` meets its contract.
use borrow.Author.Rules.{rules}
use Rattle.message.specs.Message.{keeps}
use Rattle.message.specs.declared.Message.TheVariants as message
use Rattle.message.proofs.Amounts.{same-price}
use Rattle.message.proofs.Ways.{kept}
use Rattle.message.proofs.rules.keep.Goals as goal

pub returns-in-SystemEvent : goal.returns-in-SystemEvent
unfolding keeps
returns-in-SystemEvent c = search (kept, rules)

pub returns-in-Directory : goal.returns-in-Directory
unfolding keeps
returns-in-Directory c = search (kept, rules)

pub returns-in-TradingAction : goal.returns-in-TradingAction
unfolding keeps
returns-in-TradingAction c = search (kept, rules)

pub returns-in-ShortQuote : goal.returns-in-ShortQuote
unfolding keeps
returns-in-ShortQuote c = kept (message.ShortQuote c.in-ShortQuote.m) c.args.texts c.in-ShortQuote.is (simp same-price at c.keep_quote.ensures)

pub returns-in-LongQuote : goal.returns-in-LongQuote
unfolding keeps
returns-in-LongQuote c = kept (message.LongQuote c.in-LongQuote.m) c.args.texts c.in-LongQuote.is (simp same-price at c.keep_quote-in-LongQuote.ensures)

pub returns-in-ShortSide : goal.returns-in-ShortSide
unfolding keeps
returns-in-ShortSide c = kept (message.ShortSide c.in-ShortSide.m) c.args.texts c.in-ShortSide.is (rw (same-price c.in-ShortSide.m.numbers.price) at c.keep_side.ensures)

pub returns-in-LongSide : goal.returns-in-LongSide
unfolding keeps
returns-in-LongSide c = kept (message.LongSide c.in-LongSide.m) c.args.texts c.in-LongSide.is (rw (same-price c.in-LongSide.m.numbers.price) at c.keep_side-in-LongSide.ensures)

pub returns-in-EndOfReplay : goal.returns-in-EndOfReplay
unfolding keeps
returns-in-EndOfReplay c = search (kept, rules)
