-- `message::judge::system_event` meets its contract.
use mathlib.Core.Path.{refl}
use Rattle.message.specs.Layout.{values}
use Rattle.message.specs.Letters.{system_event_letter, system_event_rows, system_event_fields}
use Rattle.message.specs.declared.Message.TheVariants as message
use Rattle.message.proofs.Ways.{judged-yes, judged-no, by-record}
use Rattle.message.proofs.judge.system_event.Goals as goal

pub returns-then-keep_system_event : goal.returns-then-keep_system_event
unfolding values
returns-then-keep_system_event c =
    judged-yes system_event_letter _ message.SystemEvent _ refl
    (by-record system_event_rows _ system_event_fields _ refl c.system_event-m.ensures c.keep_system_event.ensures) c.if-keep_system_event.true c.system_event-m.ensures c.whole.ensures

pub returns : goal.returns
unfolding values
returns c =
    judged-no system_event_letter _
    (by-record system_event_rows _ system_event_fields _ refl c.system_event-m.ensures c.keep_system_event.ensures) c.if-keep_system_event.false c.refuse.ensures
