-- `reader::limits::keep` meets its contract.
use Rattle.reader.proofs.Kept.{within-places, within-fit, within-number, within-ready, within_held, within-stands}
use Rattle.reader.proofs.limits.keep.Goals as goal

pub returns-then-held-ne-HELD_SIZE : goal.returns-then-held-ne-HELD_SIZE
returns-then-held-ne-HELD_SIZE c = search within-places

pub returns-then-not-rows_fit : goal.returns-then-not-rows_fit
returns-then-not-rows_fit c = search within-fit

pub returns-then-not-number_in_range : goal.returns-then-not-number_in_range
returns-then-not-number_in_range c = search within-number

pub returns-then-used-refusal : goal.returns-then-used-refusal
returns-then-used-refusal c = search within-ready

pub returns-then-not-holds_unfinished : goal.returns-then-not-holds_unfinished
returns-then-not-holds_unfinished c = search within_held

pub returns : goal.returns
returns c = search within-stands
