-- `message::judge::trading_action` meets its contract.
use mathlib.Core.Path.{refl}
use Rattle.message.specs.Layout.{values}
use Rattle.message.specs.Letters.{trading_action_letter, trading_action_rows, trading_action_fields}
use Rattle.message.specs.declared.Message.TheVariants as message
use Rattle.message.proofs.Ways.{judged-yes, judged-no, by-record}
use Rattle.message.proofs.judge.trading_action.Goals as goal

pub returns-then-keep_trading_action : goal.returns-then-keep_trading_action
unfolding values
returns-then-keep_trading_action c =
    judged-yes trading_action_letter _ message.TradingAction _ refl
    (by-record trading_action_rows _ trading_action_fields _ refl c.trading_action-m.ensures c.keep_trading_action.ensures) c.if-keep_trading_action.true c.trading_action-m.ensures c.whole.ensures

pub returns : goal.returns
unfolding values
returns c =
    judged-no trading_action_letter _
    (by-record trading_action_rows _ trading_action_fields _ refl c.trading_action-m.ensures c.keep_trading_action.ensures) c.if-keep_trading_action.false c.refuse.ensures
