-- `row::state_takes_quote` meets its contract: it is the search of the listed states.
use Rattle.row.proofs.state_takes_quote.Goals as goal

pub returns : goal.returns
returns c = c.is_listed.ensures
