-- `message::judge::end_of_replay` meets its contract.
use mathlib.Core.Path.{refl}
use Rattle.message.specs.Layout.{values}
use Rattle.message.specs.Letters.{end_of_replay_letter, end_of_replay_rows, end_of_replay_fields}
use Rattle.message.specs.declared.Message.TheVariants as message
use Rattle.message.proofs.Ways.{judged-yes, judged-no, by-record}
use Rattle.message.proofs.judge.end_of_replay.Goals as goal

pub returns-then-keep_end_of_replay : goal.returns-then-keep_end_of_replay
unfolding values
returns-then-keep_end_of_replay c =
    judged-yes end_of_replay_letter _ message.EndOfReplay _ refl
    (by-record end_of_replay_rows _ end_of_replay_fields _ refl c.end_of_replay-m.ensures c.keep_end_of_replay.ensures) c.if-keep_end_of_replay.true c.end_of_replay-m.ensures c.whole.ensures

pub returns : goal.returns
unfolding values
returns c =
    judged-no end_of_replay_letter _
    (by-record end_of_replay_rows _ end_of_replay_fields _ refl c.end_of_replay-m.ensures c.keep_end_of_replay.ensures) c.if-keep_end_of_replay.false c.refuse.ensures
