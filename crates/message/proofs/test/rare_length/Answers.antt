-- `message::test::rare_length` meets its contract.
use Rattle.message.specs.Feed.{letter_among}
use Rattle.message.specs.Letters.{letters}
use Rattle.message.proofs.Tested.{rare-size, rare-none}
use Rattle.message.proofs.test.rare_length.Goals as goal

pub returns-in-83 : goal.returns-in-83
unfolding letters letter_among
returns-in-83 c = rare-size 83 c.in-83.is

pub returns-in-109 : goal.returns-in-109
unfolding letters letter_among
returns-in-109 c = rare-size 109 c.in-109.is

pub returns-in-72 : goal.returns-in-72
unfolding letters letter_among
returns-in-72 c = rare-size 72 c.in-72.is

pub returns-in-77 : goal.returns-in-77
unfolding letters letter_among
returns-in-77 c = rare-size 77 c.in-77.is

pub returns-in_default : goal.returns-in_default
returns-in_default c = let r = c.in_default.in_default-own.rest in rare-none _ r.0.0.0.1 r.0.0.1 r.0.1 r.1 c.requires
