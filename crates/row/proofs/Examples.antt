-- Examples, by computing.
-- Assumes nothing.
use mathlib.Core.Path.{◌≡◌, refl}
use mathlib.Core.Bool.{true, false}
use mathlib.Core.List.{List, [], ◌∷◌, map}
use Prim.Native.Nat.{ℕ}
use lib.ListN.{replicate}
use Rattle.field.specs.Bytes.{part, overlay, digits, value}
use Rattle.message.specs.Layout.{price_from, bytes_for}
use Rattle.message.specs.Letters.{listed, states, ShortNumbers}
use Rattle.message.specs.declared.Side.TheVariants.{Bid, Ask}
use Rattle.std.specs.Prelude.{Some, None}
use Rattle.std.specs.Prelude.{Option}
use Rattle.row.specs.Fields.{row_size, sides_of, price_of, numbers_of, side_time_of, seen_with, quoting_states, state_takes_quote}
use Rattle.row.specs.Changes.{changed, widened, sides_changes, times_changes, quote_changes}
use Rattle.row.specs.declared.Sides.TheVariants.{One}
use Rattle.row.specs.declared.Quote.{Quote}

-- C10: pennies `00 7D` are 1.2500, `FF FF` are 655.3500
abbrev pennies : Option ℕ → ShortNumbers
pennies p = record { market = 0; price = p; size = 10; customer = 0; professional = 0 }

c10-low : (widened (pennies (Some 125))).price ≡ Some 12_500
c10-low = refl

c10-high : (widened (pennies (Some 65_535))).price ≡ Some 6_553_500
c10-high = refl

-- and none is none
none_stays : (widened (pennies None)).price ≡ None
none_stays = refl

-- a bid of 1.25 in a row of zeros: its side is seen, its price is 12,500 ten-thousandths, and the ask is as it was
abbrev bid : Option ℕ → Quote
bid p = record { stamp = record { tracking = 1; time = 2 }; id = 7; condition = 32; sides = One Bid (widened (pennies p)) }

abbrev row-after : List ℕ
row-after = changed (quote_changes (bid (Some 125)) (replicate row_size 0)) (replicate row_size 0)

bid-seen : sides_of row-after ≡ 1
unfolding changed quote_changes sides_changes times_changes seen_with overlay part digits value bytes_for
bid-seen = refl

bid-price : price_of Bid row-after ≡ Some 12_500
unfolding price_from changed quote_changes sides_changes times_changes seen_with overlay part digits value bytes_for
bid-price = refl

-- then nobody bids: the side stays seen, and its price is none (W-206)
abbrev row-none : List ℕ
row-none = changed (quote_changes (bid None) row-after) row-after

none_seen : sides_of row-none ≡ 1
unfolding changed quote_changes sides_changes times_changes seen_with overlay part digits value bytes_for
none_seen = refl

none-price : price_of Bid row-none ≡ None
unfolding price_from changed quote_changes sides_changes times_changes seen_with overlay part digits value bytes_for
none-price = refl

ask-left : numbers_of Ask row-after ≡ replicate 20 0
unfolding changed quote_changes sides_changes times_changes seen_with overlay part digits value bytes_for
ask-left = refl

-- the bid's time is the message's, and the ask's is zero, since it is unseen (W-209)
bid-time : side_time_of Bid row-after ≡ 2
unfolding changed quote_changes sides_changes times_changes seen_with overlay part digits value bytes_for
bid-time = refl

ask-time : side_time_of Ask row-after ≡ 0
unfolding changed quote_changes sides_changes times_changes seen_with overlay part digits value bytes_for
ask-time = refl

-- W-201: before any state no quote is taken, and of B S H T I O R X, in B, S and T
quoting : map state_takes_quote (0 ∷ states) ≡ false ∷ true ∷ true ∷ false ∷ true ∷ false ∷ false ∷ false ∷ false ∷ []
unfolding listed
quoting = refl

-- and no letter takes one that is no state
quoting-listed : map (listed states) quoting_states ≡ true ∷ true ∷ true ∷ []
unfolding listed
quoting-listed = refl
