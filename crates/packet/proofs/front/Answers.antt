-- `packet::front` meets its contract.
use borrow.Author.Rules.{rules}
use Rattle.packet.proofs.Frame.{front-few, front_low, front-high, front-waits, front-whole}
use Rattle.packet.proofs.front.Goals as goal

pub returns-then-bytes-lt2 : goal.returns-then-bytes-lt2
returns-then-bytes-lt2 c = search (front-few, rules)

pub returns-then-size-lt1 : goal.returns-then-size-lt1
returns-then-size-lt1 c = search (front_low, rules)

pub returns-then-size-gt-LONGEST_PACKET : goal.returns-then-size-gt-LONGEST_PACKET
returns-then-size-gt-LONGEST_PACKET c = search (front-high, rules)

pub returns-then-bytes-size : goal.returns-then-bytes-size
returns-then-bytes-size c = search (front-waits, rules)

pub returns : goal.returns
returns c = search (front-whole, rules)
