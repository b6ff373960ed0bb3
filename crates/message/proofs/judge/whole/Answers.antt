-- `message::judge::whole` meets its contract.
use Rattle.message.proofs.judge.whole.Goals as goal
use Rattle.std.specs.Prelude.{Ok}

pub returns : goal.returns
returns c i = record { answer = Ok c.args.m; texts = c.no_texts.ensures i }
